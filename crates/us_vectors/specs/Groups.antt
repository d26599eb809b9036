-- What every site of some group has: of all groups of so many sites with the own one, the one that has most.
use Rattle.std.specs.Prelude.{ℕ, zero, suc, List, [], ◌∷◌, ◌++◌, map, max, min}

-- the choices of n members of a list
abbrev pub groups : {A : Type 0} → ℕ → List A → List (List A)
groups zero xs = [] ∷ []
groups (suc n) [] = []
groups (suc n) (x ∷ xs) = map (λ g. x ∷ g) (groups n xs) ++ groups (suc n) xs

-- the least of a number and of all these
abbrev pub least_of : ℕ → List ℕ → ℕ
least_of n [] = n
least_of n (m ∷ ms) = min m (least_of n ms)

-- the greatest of these, or 0 where there is none
abbrev pub greatest_of : List ℕ → ℕ
greatest_of [] = 0
greatest_of (n ∷ ns) = max n (greatest_of ns)

-- the greatest, over groups of f others with the own one, of the least in the group
abbrev pub uniform_number : ℕ → ℕ → List ℕ → ℕ
uniform_number f own others = greatest_of (map (least_of own) (groups f others))
