use Rattle.us_order.proofs.Por.{histories_ascended}
use Rattle.us_order.proofs.histories_ascend.Goals as goal

pub returns : goal.returns
returns c = histories_ascended
