use Rattle.us_snapshots.proofs.Laws.{all_well_formed}
use Rattle.us_snapshots.proofs.executions_are_well_formed.Goals as goal

pub returns : goal.returns
returns c = all_well_formed
