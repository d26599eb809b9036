use Rattle.std.proofs.Common.{refl}
use Rattle.us_base.specs.Vector.{at_most, with_entry}
use Rattle.us_certify.proofs.example.worked_verdicts.Goals as goal

pub returns-clause-two_takes : goal.returns-clause-two_takes
unfolding at_most with_entry
returns-clause-two_takes c = refl

pub returns-clause-day : goal.returns-clause-day
unfolding at_most with_entry
returns-clause-day c = refl

pub returns-clause-three_adds : goal.returns-clause-three_adds
unfolding at_most with_entry
returns-clause-three_adds c = refl

pub returns-clause-long : goal.returns-clause-long
unfolding at_most with_entry
returns-clause-long c = refl
