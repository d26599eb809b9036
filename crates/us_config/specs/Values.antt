-- How the values of a configuration's keys are read one after the other, each with the fault where it is none.
use Rattle.std.specs.Prelude.{◌≡◌, ℕ, ℤ, pos, negsuc, nat_le, ◌&&◌, if◌then◌else◌, List, [], ◌∷◌, ◌++◌, Option, Some, None, Result, Ok, Err}
use Rattle.toml.specs.Data.{Data, Items, no_items, item, Members, as_integer}
use Rattle.us_config.specs.Checks.{has_only}
use Rattle.us_config.specs.declared.fault.Key.{Key}
use Rattle.us_config.specs.declared.fault.ConfigFault.TheVariants.{WrongKey, WrongValue, OutOfLimit}
use Rattle.us_config.specs.declared.fault.ReadFault.{ReadFault}
use Rattle.us_config.specs.declared.fault.ReadFault.TheVariants as read

infixl 10 ◌>>=◌
abbrev pub ◌>>=◌ : {A B : Type 0} → Result A ReadFault → (A → Result B ReadFault) → Result B ReadFault
(Ok x) >>= f = f x
(Err e) >>= f = Err e

-- the table has no other keys than these
abbrev pub only : Key → List (List ℕ) → Members → Result (Unit {0}) ReadFault
only key names ms = if has_only names ms then Ok tt else Err (read.Refused key WrongKey)

-- a whole number in its range
abbrev pub whole_of : Key → ℕ → ℕ → Option ℤ → Result ℕ ReadFault
whole_of key low high None = Err (read.Refused key WrongValue)
whole_of key low high (Some (pos n)) = if nat_le low n && nat_le n high then Ok n else Err (read.Refused key OutOfLimit)
whole_of key low high (Some (negsuc n)) = Err (read.Refused key OutOfLimit)

-- the same at a key that may be absent
abbrev pub whole_or : Key → ℕ → ℕ → ℕ → Option Data → Result ℕ ReadFault
whole_or key low high default None = Ok default
whole_or key low high default (Some d) = whole_of key low high (as_integer d)

abbrev pub or_wrong : {A : Type 0} → Key → Option A → Result A ReadFault
or_wrong key None = Err (read.Refused key WrongValue)
or_wrong key (Some x) = Ok x

-- what the items say one after the other, behind what was read before them
abbrev pub gathered : {A : Type 0} → (List A → Data → Result A ReadFault) → List A → Items → Result (List A) ReadFault
gathered step front no_items = Ok front
gathered step front (item d ds) = step front d >>= λ x. gathered step (front ++ x ∷ []) ds

-- the same where no item is read by what stands before it
abbrev pub each_by : {A : Type 0} → Key → (Data → Option A) → List A → Data → Result A ReadFault
each_by key part front d = or_wrong key (part d)

-- what a step of reading returned is what the values say, unless memory ran out
abbrev pub FailsAs : {A : Type 0} → ReadFault → Result A ReadFault → Type 0
FailsAs read.Memory said = Unit {0}
FailsAs (read.Refused key fault) said = said ≡ Err (read.Refused key fault)

abbrev pub Says : {A : Type 0} → Result A ReadFault → Result A ReadFault → Type 0
Says (Ok value) said = said ≡ Ok value
Says (Err e) said = FailsAs e said

-- the same, of what the code keeps otherwise
abbrev pub Shows : {X Y : Type 0} → (X → Y) → Result X ReadFault → Result Y ReadFault → Type 0
Shows view (Ok x) said = said ≡ Ok (view x)
Shows view (Err e) said = FailsAs e said
