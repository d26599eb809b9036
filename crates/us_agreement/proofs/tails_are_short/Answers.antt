use Rattle.us_agreement.proofs.Agreement.{short}
use Rattle.us_agreement.proofs.tails_are_short.Goals as goal

pub returns : goal.returns
returns g c = short g.E.PartialEq.eq
