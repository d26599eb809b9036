use Rattle.us_order.proofs.Por.{executions_direct}
use Rattle.us_order.proofs.executions_are_direct.Goals as goal

pub returns : goal.returns
returns c = executions_direct
