-- What is built so far.
use Rattle.std.specs.Prelude.{◌≡◌}
use Rattle.us_model.specs.declared.settings.Settings.{Settings}

-- a store of one site with one partition
pub record HasOnePartition (settings : Settings) : Type 0 where
  pub site : settings.shape.f ≡ 0
  pub partition : settings.shape.parts ≡ 1
