-- The requests of a session that wait: their frames' numbers.
use Rattle.std.proofs.Common.{ℕ, ◌<◌, ◌≤◌, List, [], ◌∷◌, ◌++◌, arith}
use Rattle.us_client_wire.specs.declared.frame.Request.{Request}
use Rattle.us_model.specs.declared.coordinator.QueuedRequest.{QueuedRequest}

-- they ascend, and are above one number and up to another
abbrev pub Ascends : ℕ → List QueuedRequest → ℕ → Type 0
Ascends low [] high = low ≤ high
Ascends low (a ∷ requests) high = (low < a.at) × Ascends a.at requests high

-- the bounds are in order
pub ascends-bounds : (low : ℕ) (requests : List QueuedRequest) (high : ℕ) → Ascends low requests high → low ≤ high
ascends-bounds low [] high h = h
ascends-bounds low (a ∷ requests) high h = omega (arith, h.0, ascends-bounds a.at requests high h.1)

-- above a lower number
pub ascends-below : (low less : ℕ) (requests : List QueuedRequest) (high : ℕ) → less ≤ low → Ascends low requests high → Ascends less requests high
ascends-below low less [] high le h = omega arith
ascends-below low less (a ∷ requests) high le h = (omega (arith, h.0), h.1)

-- up to a greater number
pub ascends-above : (low : ℕ) (requests : List QueuedRequest) (high more : ℕ) → high ≤ more → Ascends low requests high → Ascends low requests more
ascends-above low [] high more le h = omega arith
ascends-above low (a ∷ requests) high more le h = (h.0, ascends-above a.at requests high more le h.1)

-- with one more, whose number is greater than all
pub ascends-push : (low : ℕ) (requests : List QueuedRequest) (high at : ℕ) (r : Request) → high < at → Ascends low requests high
    → Ascends low (requests ++ record { at = at; request = r } ∷ []) at
ascends-push low [] high at r less h = (omega arith, omega arith)
ascends-push low (a ∷ requests) high at r less h = (h.0, ascends-push a.at requests high at r less h.1)
