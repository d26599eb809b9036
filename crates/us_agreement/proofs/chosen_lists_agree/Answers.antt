use Rattle.us_agreement.proofs.Agreement.{agree}
use Rattle.us_agreement.proofs.Deciding.{decided_by}
use Rattle.us_agreement.proofs.chosen_lists_agree.Goals as goal

pub returns : goal.returns
returns g c = agree g.E.PartialEq.eq (decided_by g.E.PartialEq.eq g.met.E.Eq.laws g.met.E.Slot.same)
