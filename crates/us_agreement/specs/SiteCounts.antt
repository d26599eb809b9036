-- Counting sites.
use Rattle.std.specs.Prelude.{ℕ, ◌+◌, List, [], ◌∷◌, Bool, true, false}

abbrev pub one_if : Bool → ℕ
one_if true = 1
one_if false = 0

-- how many of these sites pass
abbrev pub count : (ℕ → Bool) → List ℕ → ℕ
count p [] = 0
count p (x ∷ xs) = one_if (p x) + count p xs
