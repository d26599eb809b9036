-- Configurations that a text can give.
use Rattle.std.specs.Prelude.{◌≡◌, ℕ, length}
use Rattle.us_base.specs.Shape.{sites_of, IsShape}
use Rattle.us_value.specs.Catalogs.{EachSpaceOnce}
use Rattle.us_config.specs.declared.config.Config.{Config}
use Rattle.us_config.specs.declared.node.NodePlan.{NodePlan}

-- two addresses for each site
pub record HasAddresses (sites : ℕ) (plan : NodePlan) : Type 0 where
  pub peers : length plan.peers ≡ sites
  pub clients : length plan.clients ≡ sites

pub record IsConfig (config : Config) : Type 0 where
  pub shape : IsShape config.shape
  pub spaces : EachSpaceOnce config.catalog
  pub addresses : HasAddresses (sites_of config.shape) config.plan
