use Rattle.us_folds.proofs.Logs.{shares-enough}
use Rattle.us_folds.proofs.shares_are_enough.Goals as goal

pub returns : goal.returns
returns c = shares-enough
