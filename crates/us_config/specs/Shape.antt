-- How the numbers of sites and partitions are read.
use Rattle.std.specs.Prelude.{ℕ, ◌/◌, ◌%◌, ◌==◌, if◌then◌else◌, codes, Result, Ok, Err}
use Rattle.toml.specs.Data.{Members, get_member}
use Rattle.us_base.specs.declared.shape.Shape.{Shape}
use Rattle.us_config.specs.declared.fault.Key.TheVariants.{Sites, Partitions}
use Rattle.us_config.specs.declared.fault.ConfigFault.TheVariants.{OutOfLimit}
use Rattle.us_config.specs.declared.fault.ReadFault.{ReadFault}
use Rattle.us_config.specs.declared.fault.ReadFault.TheVariants as read
use Rattle.us_config.specs.Values.{◌>>=◌, whole_or}

-- how many sites may be lost
abbrev pub lost_of : ℕ → Result ℕ ReadFault
lost_of sites = if sites % 2 == 1 then Ok (sites / 2) else Err (read.Refused Sites OutOfLimit)

abbrev pub shape_in : Members → Result Shape ReadFault
shape_in ms = do
  sites ← whole_or Sites 1 7 1 (get_member (codes "sites") ms)
  lost ← lost_of sites
  parts ← whole_or Partitions 1 16 1 (get_member (codes "partitions") ms)
  Ok (record { f = lost; parts = parts })
