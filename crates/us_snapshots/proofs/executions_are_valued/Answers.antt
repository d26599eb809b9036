use Rattle.us_snapshots.proofs.Laws.{all_valued}
use Rattle.us_snapshots.proofs.executions_are_valued.Goals as goal

pub returns : goal.returns
returns c = all_valued
