-- The checks of a configuration: each finds a fault at its key, or nothing.
use Rattle.std.specs.Prelude.{ℕ, ◌%◌, ◌==◌, ℤ, pos, negsuc, nat_le, ◌&&◌, Bool, true, false, List, [], ◌∷◌, Option, Some, None, Result, Ok, Err}
use Rattle.std.specs.List.{list_any, list_all}
use Rattle.std.specs.Str.{bytes_eq}
use Rattle.toml.specs.Data.{Data, Items, no_items, item, Members, no_members, member, as_integer}
use Rattle.us_config.specs.declared.fault.Key.{Key}
use Rattle.us_config.specs.declared.fault.ConfigFault.{ConfigFault}
use Rattle.us_config.specs.declared.fault.ConfigFault.TheVariants.{WrongKey, WrongValue, OutOfLimit}
use Rattle.us_config.specs.declared.fault.ReadFault.{ReadFault}
use Rattle.us_config.specs.declared.fault.ReadFault.TheVariants as read

-- a fault, and its key
pub record Finding : Type 0 where
  pub key : Key
  pub fault : ConfigFault

abbrev pub found : Key → ConfigFault → Option Finding
found key fault = Some (record { key = key; fault = fault })

-- a fault where the test fails
abbrev pub unless : Bool → Key → ConfigFault → Option Finding
unless true key fault = None
unless false key fault = found key fault

-- the first that was found
abbrev pub first_found : List (Option Finding) → Option Finding
first_found [] = None
first_found (None ∷ more) = first_found more
first_found (Some finding ∷ more) = Some finding

-- the value, where nothing was found
abbrev pub verdict : {A : Type 0} → Option Finding → A → Result A ReadFault
verdict None value = Ok value
verdict (Some finding) value = Err (read.Refused finding.key finding.fault)

-- ---- keys of a table

-- the keys of a table
abbrev pub keys_of : Members → List (List ℕ)
keys_of no_members = []
keys_of (member key d ms) = key ∷ keys_of ms

-- the table has no other keys than these
abbrev pub has_only : List (List ℕ) → Members → Bool
has_only names ms = list_all (λ key. list_any (λ name. bytes_eq key name) names) (keys_of ms)

abbrev pub unknown_key : Key → List (List ℕ) → Members → Option Finding
unknown_key key names ms = unless (has_only names ms) key WrongKey

-- ---- items of an array

abbrev pub list_of : Items → List Data
list_of no_items = []
list_of (item d ds) = d ∷ list_of ds

-- ---- whole numbers

-- from the low to the high, both among them
abbrev pub is_within : ℕ → ℕ → ℤ → Bool
is_within low high (pos n) = nat_le low n && nat_le n high
is_within low high (negsuc n) = false

abbrev pub is_odd : ℤ → Bool
is_odd (pos n) = n % 2 == 1
is_odd (negsuc n) = false

-- a value is a whole number that passes the test
abbrev pub limit_fault : Key → (ℤ → Bool) → Option ℤ → Option Finding
limit_fault key test None = found key WrongValue
limit_fault key test (Some z) = unless (test z) key OutOfLimit

-- the same at a key that may be absent
abbrev pub whole_fault : Key → (ℤ → Bool) → Option Data → Option Finding
whole_fault key test None = None
whole_fault key test (Some d) = limit_fault key test (as_integer d)

abbrev pub natural : Option ℤ → ℕ
natural (Some (pos n)) = n
natural _ = 0

-- the number of a value, or what stands in its place where the key is absent
abbrev pub number_or : ℕ → Option Data → ℕ
number_or default None = default
number_or default (Some d) = natural (as_integer d)
