use Rattle.us_value.proofs.KindLaws.{prepares-updates}
use Rattle.us_value.proofs.laws.prepares_updates.Goals as goal

pub returns : goal.returns
returns c = prepares-updates
