-- Catalogues: which kind the items of each space are.
use Rattle.std.specs.Prelude.{◌≡◌, ℕ, ◌==◌, List, [], ◌∷◌, Option, Some, None, if◌then◌else◌}
use Rattle.us_value.specs.declared.operation.Kind.{Kind}

-- the kind of a space, if it is there
abbrev pub kind_in : List (ℕ × Kind) → ℕ → Option Kind
kind_in [] space = None
kind_in (s ∷ spaces) space = if s.0 == space then Some s.1 else kind_in spaces space

-- each space stands once
abbrev pub EachSpaceOnce : List (ℕ × Kind) → Type 0
EachSpaceOnce [] = Unit {0}
EachSpaceOnce (s ∷ spaces) = (kind_in spaces s.0 ≡ None) × EachSpaceOnce spaces
