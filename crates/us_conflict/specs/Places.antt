-- Declared pairs as numbers, which a set keeps in order: the space and the codes of both classes.
use Rattle.std.specs.Prelude.{ℕ, Bool, ◌&&◌, ◌==◌, List}
use Rattle.std.specs.List.{list_any}
use Rattle.us_value.specs.declared.operation.Class.{Class}
use Rattle.us_conflict.specs.Conflicts.{class_code}

-- the numbers of a pair
abbrev pub place_of : ℕ → Class → Class → ℕ × ℕ × ℕ
place_of space a b = (space, class_code a, class_code b)

-- the place is that of this pair
abbrev pub is_place : ℕ → Class → Class → ℕ × ℕ × ℕ → Bool
is_place space a b place = ((space == place.0) && (class_code a == place.1)) && (class_code b == place.2)

-- the pair is among these
abbrev pub stands_in : List (ℕ × ℕ × ℕ) → ℕ → Class → Class → Bool
stands_in places space a b = list_any (is_place space a b) places
