-- Which session runs a transaction: a table from the number of a running transaction to that of its session.
use Rattle.std.specs.Prelude.{◌≡◌, ℕ, ◌<◌, ◌≤◌, ◌==◌, nat_eq, List, [], ◌∷◌, Option, Some, None, unwrap_or, if◌then◌else◌}
use Rattle.std.specs.HashMap.{HashMap, get}
use Rattle.std.specs.Option.{option_eq}
use Rattle.us_kind.specs.Updates.{All}
use Rattle.us_model.specs.declared.coordinator.Session.{Session}
use Rattle.us_model.specs.declared.coordinator.Transaction.{Transaction}

-- the number of the transaction, if there is one
abbrev pub seq_of : Option Transaction → Option ℕ
seq_of None = None
seq_of (Some tx) = Some tx.tid.seq

-- the number of the transaction that the session runs, if it runs one
abbrev pub runs : Session → Option ℕ
runs s = seq_of s.running

-- the number of the session that the table has for a transaction, and 0, which is no session's, where it has none
abbrev pub found_in : {S : Type 0} → HashMap ℕ ℕ S → ℕ → ℕ
found_in table q = unwrap_or (get nat_eq table q) 0

-- the session is found by the transaction that it runs, which is one of those that were begun
abbrev pub IsFound : (ℕ → ℕ) → ℕ → Session → Type 0
IsFound found seq s = (q : ℕ) → runs s ≡ Some q → (found q ≡ s.number) × (q ≤ seq)

abbrev pub AreFound : (ℕ → ℕ) → ℕ → List Session → Type 0
AreFound found seq ss = All (IsFound found seq) ss

-- what is found without this transaction
abbrev pub without : Option ℕ → (ℕ → ℕ) → ℕ → ℕ
without None found q = found q
without (Some seq) found q = if seq == q then 0 else found q

-- what is found where this session runs this transaction
abbrev pub with_one : ℕ → Option ℕ → (ℕ → ℕ) → ℕ → ℕ
with_one number None found q = found q
with_one number (Some seq) found q = if seq == q then number else found q

-- what is found where this session ran one transaction and runs the other now
abbrev pub moved_on : ℕ → Option ℕ → Option ℕ → (ℕ → ℕ) → ℕ → ℕ
moved_on number was now found q = if option_eq nat_eq was now then found q else with_one number now (without was found) q

-- the numbers of the sessions ascend, above `low`
abbrev pub Ascends : ℕ → List Session → Type 0
Ascends low [] = Unit {0}
Ascends low (s ∷ ss) = (low < s.number) × Ascends s.number ss
