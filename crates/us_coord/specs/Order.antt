-- In which order a coordinator keeps its sessions, and the turn of one of them.
use Rattle.std.specs.Prelude.{◌≡◌, ℕ, ◌<◌, ◌≤◌, List, [], ◌∷◌, length, false, if◌then◌else◌, slice_index_or, slice_set, remove}
use Rattle.us_kind.specs.Updates.{All}
use Rattle.us_model.specs.declared.coordinator.Session.{Session}
use Rattle.us_model.specs.declared.coordinator.Context.{Context}
use Rattle.us_model.specs.Sessions.{SessionStep, stays}
use Rattle.us_model.specs.Coordinators.{is_over}

-- the sessions stand in ascending order of number, above `low` and at most `high`, and none is over
abbrev pub InOrder : ℕ → List Session → ℕ → Type 0
InOrder low [] high = low ≤ high
InOrder low (s ∷ ss) high = (low < s.number) × ((is_over s ≡ false) × InOrder s.number ss high)

-- the session at this place has this number
abbrev pub StandsAt : ℕ → List Session → ℕ → Type 0
StandsAt number ss place = (place < length ss) × ((d : Session) → (slice_index_or ss place d).number ≡ number)

-- no session has this number
abbrev pub Absent : ℕ → List Session → Type 0
Absent number ss = All (λ s. s.number ≡ number → ⊥) ss

-- a rule changes nothing at a session that hasn't this number
abbrev pub Concerns : (Context → Session → SessionStep) → ℕ → List Session → Type 0
Concerns f number ss = All (λ s. (s.number ≡ number → ⊥) → (d : Context) → f d s ≡ stays d s) ss

-- the sessions after the turn of the one at this place: it is forgotten where it is over
abbrev pub put_back : List Session → ℕ → Session → List Session
put_back ss place s = if is_over s then remove ss place else slice_set ss place s

-- what a session counts among the open ones
abbrev pub counted : Session → ℕ
counted s = if s.closed then 0 else 1
