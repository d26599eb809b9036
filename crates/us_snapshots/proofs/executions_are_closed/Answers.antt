use Rattle.us_snapshots.proofs.Laws.{all_closed}
use Rattle.us_snapshots.proofs.executions_are_closed.Goals as goal

pub returns : goal.returns
returns c = all_closed
