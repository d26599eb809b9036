use Rattle.us_value.proofs.OwnUpdates.{own-updates-come-last}
use Rattle.us_value.proofs.laws.own_updates_come_last.Goals as goal

pub returns : goal.returns
returns c = own-updates-come-last
