use Rattle.us_agreement.proofs.Agreement.{grow}
use Rattle.us_agreement.proofs.chosen_lists_grow.Goals as goal

pub returns : goal.returns
returns g c = grow g.E.PartialEq.eq
