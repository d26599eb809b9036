use Rattle.us_folds.proofs.Effects.{effects-commute}
use Rattle.us_folds.proofs.effects_commute.Goals as goal

pub returns : goal.returns
returns c = effects-commute
