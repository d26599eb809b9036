use Rattle.us_snapshots.proofs.Laws.{all_counted_directly}
use Rattle.us_snapshots.proofs.counts_are_direct.Goals as goal

pub returns : goal.returns
returns c = all_counted_directly
