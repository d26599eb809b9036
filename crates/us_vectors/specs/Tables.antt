-- Tables of vectors: one for each partition of a site, or for each site, counted from 1.
use Rattle.std.specs.Prelude.{ℕ, ◌-◌, List, [], ◌∷◌, Option, Some, None, slice_get, slice_set}
use Rattle.std.specs.List.{remove}
use Rattle.us_base.specs.Vector.{join, meet}

-- all of a table but the one of this number
abbrev pub others : {A : Type 0} → ℕ → List A → List A
others number table = remove table (number - 1)

abbrev pub joined_one : List (List ℕ) → ℕ → List ℕ → Option (List ℕ) → List (List ℕ)
joined_one table place v None = table
joined_one table place v (Some w) = slice_set table place (join w v)

-- the table once a vector has joined the one of this number
abbrev pub joined : List (List ℕ) → ℕ → List ℕ → List (List ℕ)
joined table number v = joined_one table (number - 1) v (slice_get table (number - 1))

-- the least entries of a vector and of all these, at each place
abbrev pub meet_all : List ℕ → List (List ℕ) → List ℕ
meet_all v [] = v
meet_all v (w ∷ ws) = meet_all (meet v w) ws
