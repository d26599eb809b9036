-- The numbers that a clock is still to give, where these are told. The last is given again and again.
use Rattle.std.specs.Prelude.{◌≡◌, ℕ, List, [], ◌∷◌, Option, None, Some}

-- the number that is given, 0 where there is none
abbrev pub given : List ℕ → ℕ
given [] = 0
given (n ∷ ns) = n

-- the numbers still to come after it
abbrev pub still_to_come : List ℕ → List ℕ
still_to_come [] = []
still_to_come (n ∷ []) = n ∷ []
still_to_come (n ∷ m ∷ ns) = m ∷ ns

-- the clock gave the next number and goes on with the others, where it tells; whether it tells stays
abbrev pub Ticks : Option (List ℕ) → Option (List ℕ) → ℕ → Type 0
Ticks None after n = after ≡ None
Ticks (Some numbers) after n = (n ≡ given numbers) × (after ≡ Some (still_to_come numbers))
