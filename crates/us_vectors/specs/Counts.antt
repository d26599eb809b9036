-- The greatest number that so many of a list reach.
use Rattle.std.specs.Prelude.{ℕ, ◌+◌, List, [], ◌∷◌, ◌&&◌, if◌then◌else◌, nat_le, nat_lt, map}
use Rattle.us_base.specs.Vector.{entry}

-- entry i of each of these vectors
abbrev pub column : ℕ → List (List ℕ) → List ℕ
column i rows = map (λ row. entry row i) rows

-- how many of these are at least n
abbrev pub reaching : ℕ → List ℕ → ℕ
reaching n [] = 0
reaching n (m ∷ ms) = (if nat_le n m then 1 else 0) + reaching n ms

-- a number of the list that f of all reach, where it is greater than the best so far, is the best
abbrev pub better : ℕ → List ℕ → ℕ → ℕ → ℕ
better f all best n = if nat_lt best n && nat_le f (reaching n all) then n else best

-- the greatest of the best so far and of these that f of all reach
abbrev pub most_reached : ℕ → List ℕ → ℕ → List ℕ → ℕ
most_reached f all best [] = best
most_reached f all best (n ∷ ns) = most_reached f all (better f all best n) ns
