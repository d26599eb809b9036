use Rattle.us_value.proofs.UpdateCount.{counts-as-applied}
use Rattle.us_value.proofs.laws.counts_as_applied.Goals as goal

pub returns : goal.returns
returns c = counts-as-applied
