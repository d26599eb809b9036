-- How a configuration's text is read.
use Rattle.std.specs.Prelude.{ℕ, codes, List, Option, Some, None, Result, Ok, Err}
use Rattle.toml.specs.Data.{Members, get_member}
use Rattle.us_base.specs.Shape.{sites_of}
use Rattle.us_config.specs.declared.fault.Key.TheVariants.{Top}
use Rattle.us_config.specs.declared.fault.ConfigFault.TheVariants.{NotToml}
use Rattle.us_config.specs.declared.fault.ReadFault.{ReadFault}
use Rattle.us_config.specs.declared.fault.ReadFault.TheVariants as read
use Rattle.us_config.specs.declared.config.Config.{Config}
use Rattle.us_config.specs.Assembly.{assembled}
use Rattle.us_config.specs.Meaning.{top_names}
use Rattle.us_config.specs.Values.{◌>>=◌, only}
use Rattle.us_config.specs.Shape.{shape_in}
use Rattle.us_config.specs.Spaces.{spaces_said}
use Rattle.us_config.specs.Node.{node_plan_of}

abbrev pub or_not_toml : Option Members → Result Members ReadFault
or_not_toml None = Err (read.Refused Top NotToml)
or_not_toml (Some ms) = Ok ms

unfoldable pub config_in : Members → Result Config ReadFault
config_in ms = do
  known ← only Top top_names ms
  shape ← shape_in ms
  spaces ← spaces_said (get_member (codes "space") ms)
  plan ← node_plan_of (sites_of shape) (get_member (codes "node") ms)
  Ok (assembled shape spaces plan)
