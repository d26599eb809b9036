use Rattle.us_folds.proofs.Logs.{order-free}
use Rattle.us_folds.proofs.order_is_free.Goals as goal

pub returns : goal.returns
returns c = order-free
