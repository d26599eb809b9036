-- How the tables of the spaces are read.
use Rattle.std.specs.Prelude.{ℕ, not, if◌then◌else◌, List, [], ◌∷◌, codes, Option, Some, None, Result, Ok, Err}
use Rattle.toml.specs.Data.{Data, Items, Members, as_integer, as_str, as_array, as_table, get_member}
use Rattle.us_value.specs.declared.operation.Kind.{Kind}
use Rattle.us_value.specs.declared.operation.Class.{Class}
use Rattle.us_config.specs.declared.fault.Key.TheVariants as key
use Rattle.us_config.specs.declared.fault.ConfigFault.TheVariants.{WrongValue}
use Rattle.us_config.specs.declared.fault.ReadFault.{ReadFault}
use Rattle.us_config.specs.declared.fault.ReadFault.TheVariants as read
use Rattle.us_config.specs.declared.space.Space.{Space}
use Rattle.us_config.specs.Keywords.{kind_in, pair_for}
use Rattle.us_config.specs.Meaning.{space_names, is_taken, or_one_register}
use Rattle.us_config.specs.Values.{◌>>=◌, only, whole_of, or_wrong, gathered, each_by}

-- a number that no earlier space has
abbrev pub free_number : List Space → ℕ → Result ℕ ReadFault
free_number earlier number = if not (is_taken earlier number) then Ok number else Err (read.Refused key.SpaceNumber WrongValue)

abbrev pub number_said : List Space → Option Data → Result ℕ ReadFault
number_said earlier None = Err (read.Refused key.SpaceNumber WrongValue)
number_said earlier (Some d) = do
  number ← whole_of key.SpaceNumber 1 255 (as_integer d)
  free_number earlier number

abbrev pub kind_said : Option Data → Result Kind ReadFault
kind_said None = Err (read.Refused key.SpaceKind WrongValue)
kind_said (Some d) = or_wrong key.SpaceKind (kind_in (as_str d))

abbrev pub listed_pairs : Kind → Option Items → Result (List (Class × Class)) ReadFault
listed_pairs kind None = Err (read.Refused key.SpaceConflicts WrongValue)
listed_pairs kind (Some items) = gathered (each_by key.SpaceConflicts (pair_for kind)) [] items

abbrev pub conflicts_said : Kind → Option Data → Result (List (Class × Class)) ReadFault
conflicts_said kind None = Ok []
conflicts_said kind (Some d) = listed_pairs kind (as_array d)

unfoldable pub space_in : List Space → Members → Result Space ReadFault
space_in earlier ms = do
  known ← only key.Space space_names ms
  number ← number_said earlier (get_member (codes "number") ms)
  kind ← kind_said (get_member (codes "kind") ms)
  conflicts ← conflicts_said kind (get_member (codes "conflicts") ms)
  Ok (record { number = number; kind = kind; conflicts = conflicts })

abbrev pub space_of_table : List Space → Option Members → Result Space ReadFault
space_of_table earlier None = Err (read.Refused key.Space WrongValue)
space_of_table earlier (Some ms) = space_in earlier ms

abbrev pub space_step : List Space → Data → Result Space ReadFault
space_step earlier d = space_of_table earlier (as_table d)

abbrev pub listed_spaces : Option Items → Result (List Space) ReadFault
listed_spaces None = Err (read.Refused key.Space WrongValue)
listed_spaces (Some items) = do
  spaces ← gathered space_step [] items
  Ok (or_one_register spaces)

-- the spaces of a configuration
abbrev pub spaces_said : Option Data → Result (List Space) ReadFault
spaces_said None = Ok (or_one_register [])
spaces_said (Some d) = listed_spaces (as_array d)
