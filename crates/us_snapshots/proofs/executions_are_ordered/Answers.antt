use Rattle.us_snapshots.proofs.Laws.{all_ordered}
use Rattle.us_snapshots.proofs.executions_are_ordered.Goals as goal

pub returns : goal.returns
returns c = all_ordered
