use Rattle.std.proofs.Common.{refl}
use Rattle.us_base.specs.Vector.{at_most}
use Rattle.us_history.proofs.example.one_step_is_less.Goals as goal

pub returns : goal.returns
unfolding at_most
returns c = refl
