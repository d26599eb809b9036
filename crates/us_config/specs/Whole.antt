-- What the text of a configuration means.
use Rattle.std.specs.Prelude.{ℕ, codes, List, Option, Some, None, unwrap_or, Result, Ok, Err}
use Rattle.toml.specs.Data.{Members, no_members, get_member}
use Rattle.us_base.specs.Shape.{sites_of}
use Rattle.us_config.specs.declared.config.Config.{Config}
use Rattle.us_config.specs.declared.fault.Key.TheVariants.{Top}
use Rattle.us_config.specs.declared.fault.ConfigFault.TheVariants.{NotToml}
use Rattle.us_config.specs.declared.fault.ReadFault.{ReadFault}
use Rattle.us_config.specs.declared.fault.ReadFault.TheVariants as read
use Rattle.us_config.specs.Assembly.{assembled}
use Rattle.us_config.specs.Checks.{verdict}
use Rattle.us_config.specs.Meaning.{shape_of, spaces_of, plan_of, node_table, fault_of, document_of}

-- the configuration of a table without fault
abbrev pub config_of : Members → Config
config_of ms = assembled (shape_of ms) (spaces_of ms) (plan_of (sites_of (shape_of ms)) (unwrap_or (node_table (get_member (codes "node") ms)) no_members))

abbrev pub of_table : Option Members → Result Config ReadFault
of_table None = Err (read.Refused Top NotToml)
of_table (Some ms) = verdict (fault_of ms) (config_of ms)

-- THE MEANING of a text: the configuration, or the first fault and its key
abbrev pub config_said : List ℕ → Result Config ReadFault
config_said text = of_table (document_of text)
