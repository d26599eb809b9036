use Rattle.us_snapshots.proofs.Laws.{all_ascend}
use Rattle.us_snapshots.proofs.histories_ascend.Goals as goal

pub returns : goal.returns
returns c = all_ascend
