-- What it is that a begun transaction commits.
use Rattle.std.specs.Prelude.{◌≡◌, ℕ, ◌+◌, List, [], ◌∷◌, ◌++◌, Bool, Option, Some, None}
use Rattle.us_history.specs.Histories.{Begun, Committed, History, ops_of, committed_in}

-- the next transaction of its session, with the operations that were performed
abbrev pub next_of : History → Bool → List ℕ → Begun → Committed
next_of h strong vector b =
    record { begun = b; number = committed_in b.session h.committed + 1; strong = strong; vector = vector; ops = ops_of b.tid h.performed }

-- it is committed, where it was begun
abbrev pub HasDecided : Bool → List ℕ → Option Begun → History → History → Type 0
HasDecided strong vector None old new = new ≡ old
HasDecided strong vector (Some b) old new = new ≡ record old { committed = old.committed ++ next_of old strong vector b ∷ [] }
