use Rattle.us_folds.proofs.Logs.{others-none}
use Rattle.us_folds.proofs.others_make_no_difference.Goals as goal

pub returns : goal.returns
returns c = others-none
