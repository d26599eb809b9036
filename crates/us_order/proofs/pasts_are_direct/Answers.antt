use Rattle.us_order.proofs.Por.{pasts_direct}
use Rattle.us_order.proofs.pasts_are_direct.Goals as goal

pub returns : goal.returns
returns c = pasts_direct
