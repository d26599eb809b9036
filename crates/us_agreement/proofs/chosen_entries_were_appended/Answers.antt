use Rattle.us_agreement.proofs.Agreement.{were_appended}
use Rattle.us_agreement.proofs.chosen_entries_were_appended.Goals as goal

pub returns : goal.returns
returns g c = were_appended g.E.PartialEq.eq
