use Rattle.us_order.proofs.Por.{well_formed}
use Rattle.us_order.proofs.executions_are_well_formed.Goals as goal

pub returns : goal.returns
returns c = well_formed
