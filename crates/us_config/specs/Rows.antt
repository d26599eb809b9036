-- Worked configurations.
use Rattle.std.specs.Prelude.{◌≡◌, [], ◌∷◌, Ok, Err, codes}
use Rattle.us_config.specs.declared.fault.Key.TheVariants as key
use Rattle.us_config.specs.declared.fault.ConfigFault.TheVariants.{NotToml, WrongKey, WrongValue, OutOfLimit}
use Rattle.us_config.specs.declared.fault.ReadFault.TheVariants.{Refused}
use Rattle.us_value.specs.declared.operation.Kind.TheVariants as kind
use Rattle.us_value.specs.declared.operation.Class.TheVariants as class
use Rattle.us_config.specs.Whole.{config_said}

pub record WorkedConfigurations : Type 0 where
  pub empty : config_said [] ≡ Ok (record {
    shape = record { f = 0; parts = 1 };
    catalog = (1, kind.Register) ∷ [];
    conflicts = [];
    plan = record { peers = codes "127.0.0.1:7101" ∷ []; clients = codes "127.0.0.1:7201" ∷ []; tick = 50; suspect = 10000 };
  })
  pub counter : config_said
      (codes "partitions = 16\n[[space]]\nnumber = 255\nkind = 'counter'\nconflicts = [['take','give']]\n[node]\npeers = ['a:1']\ntick = 7")
      ≡ Ok (record {
        shape = record { f = 0; parts = 16 };
        catalog = (255, kind.Counter) ∷ [];
        conflicts = (255, class.Take, class.Give) ∷ [];
        plan = record { peers = codes "a:1" ∷ []; clients = codes "127.0.0.1:7201" ∷ []; tick = 7; suspect = 10000 };
      })
  pub no_toml : config_said (codes "sites = = 3") ≡ Err (Refused key.Top NotToml)
  pub no_text : config_said (255 ∷ []) ≡ Err (Refused key.Top NotToml)
  pub unknown_first : config_said (codes "sites = 4\ncolour = 1") ≡ Err (Refused key.Top WrongKey)
  pub even_sites : config_said (codes "sites = 4\npartitions = 17") ≡ Err (Refused key.Sites OutOfLimit)
  pub set_takes : config_said (codes "[[space]]\nnumber = 1\nkind = 'set'\nconflicts = [['take','take']]") ≡ Err (Refused key.SpaceConflicts WrongValue)
  pub earlier_space : config_said (codes "space = [{number = 1, kind = 'flag'}, {number = 1, kind = 'flag'}, {colour = 1}]")
      ≡ Err (Refused key.SpaceNumber WrongValue)
  pub node_last : config_said (codes "node = 1\nspace = [{number = 0}]") ≡ Err (Refused key.SpaceNumber OutOfLimit)
