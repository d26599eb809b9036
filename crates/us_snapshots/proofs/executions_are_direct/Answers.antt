use Rattle.us_snapshots.proofs.Laws.{all_direct}
use Rattle.us_snapshots.proofs.executions_are_direct.Goals as goal

pub returns : goal.returns
returns c = all_direct
