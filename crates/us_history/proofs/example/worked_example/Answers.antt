use Rattle.std.proofs.Common.{refl}
use Rattle.us_base.specs.Vector.{at_most}
use Rattle.us_history.proofs.example.worked_example.Goals as goal

pub returns : goal.returns
unfolding at_most
returns c = refl
