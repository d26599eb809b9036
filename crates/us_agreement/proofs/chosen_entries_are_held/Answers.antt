use Rattle.us_agreement.proofs.Agreement.{held}
use Rattle.us_agreement.proofs.Deciding.{decided_by}
use Rattle.us_agreement.proofs.chosen_entries_are_held.Goals as goal

pub returns : goal.returns
returns g c = held g.E.PartialEq.eq (decided_by g.E.PartialEq.eq g.met.E.Eq.laws g.met.E.Slot.same)
