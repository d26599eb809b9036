-- The places of keys in a list.
use Rattle.std.specs.Prelude.{ℕ, ◌+◌, ◌-◌, List, [], ◌∷◌, ◌++◌, length, slice_get, Bool, false, ◌==◌, if◌then◌else◌, Option, Some, None, unwrap_or}
use Rattle.std.specs.HashMap.{HashMap, get}

-- the places of those that pass, ascending, where the first of the list has place i
abbrev pub places_of : {K : Type 0} → (K → Bool) → ℕ → List K → List ℕ
places_of p i [] = []
places_of p i (k ∷ ks) = if p k then i ∷ places_of p (i + 1) ks else places_of p (i + 1) ks

-- the places that a map keeps under a key
abbrev pub places_under : {K S : Type 0} → (K → K → Bool) → HashMap K (List ℕ) S → K → List ℕ
places_under eq places q = unwrap_or (get eq places q) []

-- there is one, and it is n
abbrev pub is_number : ℕ → Option ℕ → Bool
is_number n None = false
is_number n (Some m) = m == n

-- the last of these is n
abbrev pub ends_in : ℕ → List ℕ → Bool
ends_in n ns = is_number n (slice_get ns (length ns - 1))

-- n at the end, unless it is there
unfoldable pub put_last : ℕ → List ℕ → List ℕ
put_last n ns = if ends_in n ns then ns else ns ++ n ∷ []
