-- Vectors of counts: entry 0 is strong, entry i that of site i. A list, whose missing entries are 0.
use Rattle.std.specs.Prelude.{ℕ, zero as nought, suc, ◌+◌, ◌≤◌, List, [], ◌∷◌, Bool, true, ◌&&◌, nat_le, max, min, slice_index}

-- entry i of a vector
abbrev pub entry : List ℕ → ℕ → ℕ
entry v i = slice_index v i

-- each entry of v is at most that of w
unfoldable pub at_most : List ℕ → List ℕ → Bool
at_most [] w = true
at_most (x ∷ v) [] = nat_le x 0 && at_most v []
at_most (x ∷ v) (y ∷ w) = nat_le x y && at_most v w

-- the same, as a fact
pub record AtMost (v w : List ℕ) : Type 0 where
  pub below : (i : ℕ) → entry v i ≤ entry w i

-- the greater entry of the two, at each place
unfoldable pub join : List ℕ → List ℕ → List ℕ
join [] w = w
join (x ∷ v) [] = x ∷ v
join (x ∷ v) (y ∷ w) = max x y ∷ join v w

-- the lesser entry of the two, at each place
unfoldable pub meet : List ℕ → List ℕ → List ℕ
meet [] w = []
meet (x ∷ v) [] = []
meet (x ∷ v) (y ∷ w) = min x y ∷ meet v w

-- v with entry i changed
unfoldable pub with_entry : List ℕ → ℕ → ℕ → List ℕ
with_entry [] nought x = x ∷ []
with_entry [] (suc i) x = 0 ∷ with_entry [] i x
with_entry (y ∷ v) nought x = x ∷ v
with_entry (y ∷ v) (suc i) x = y ∷ with_entry v i x

-- the sum of the entries
abbrev pub sum_of : List ℕ → ℕ
sum_of [] = 0
sum_of (x ∷ v) = x + sum_of v

-- ten zeros: the vector of a store where nothing has happened
abbrev pub zero : List ℕ
zero = 0 ∷ 0 ∷ 0 ∷ 0 ∷ 0 ∷ 0 ∷ 0 ∷ 0 ∷ 0 ∷ 0 ∷ []
