-- What verdicts say, of whatever log and whatever conflicts are declared.
use Rattle.std.specs.Prelude.{◌≡◌, ℕ, ◌+◌, ◌-◌, ◌<◌, List, ◌++◌, take, length, true, false, Some}
use Rattle.us_kind.specs.declared.identity.Tid.{Tid}
use Rattle.us_base.specs.Vector.{at_most}
use Rattle.us_value.specs.declared.item.Item.{Item}
use Rattle.us_value.specs.declared.operation.Class.{Class}
use Rattle.us_conflict.specs.Conflicts.{transactions_conflict}
use Rattle.us_peer_wire.specs.declared.message.LogEntry.{LogEntry}
use Rattle.us_peer_wire.specs.declared.message.Verdict.{Verdict}
use Rattle.us_peer_wire.specs.declared.message.Verdict.TheVariants.{Commit, Abort, Repeat}
use Rattle.us_certify.specs.declared.decision.Decision.{Decision}
use Rattle.us_certify.specs.Certification.{vector_in, conflict_item, verdict_after, certified, decision_in, entries_of}

-- of two transactions each conflicts with the other, or neither does
abbrev pub ConflictsAreMutual : Type 0
ConflictsAreMutual = (pairs : List (ℕ × Class × Class)) (xs ys : List (Item × Class)) → transactions_conflict pairs xs ys ≡ transactions_conflict pairs ys xs

-- this decision stands in the slot
abbrev pub StandsIn : List Decision → ℕ → Decision → Type 0
StandsIn decisions slot d = decision_in decisions slot ≡ Some d

-- the transaction stands in a slot
pub record IsHeld (decisions : List Decision) (tid : Tid) : Type 0 where
  pub slot : ℕ
  pub decision : Decision
  pub here : StandsIn decisions slot decision
  pub same : decision.entry.tid ≡ tid

-- the decision in this slot is against the entry: it committed a transaction that conflicts and isn't in the entry's snapshot
pub record IsAgainst (pairs : List (ℕ × Class × Class)) (e : LogEntry) (slot : ℕ) (d : Decision) : Type 0 where
  pub committed : d.verdict ≡ Commit
  pub conflicts : transactions_conflict pairs e.touches d.entry.touches ≡ true
  pub unseen : at_most (vector_in slot d.entry) e.snapshot ≡ false

-- none of the slots below this one is against the entry
abbrev pub NoneAgainst : List (ℕ × Class × Class) → List Decision → LogEntry → ℕ → Type 0
NoneAgainst pairs decisions e bound = (slot : ℕ) (d : Decision) → slot < bound → StandsIn decisions slot d → IsAgainst pairs e slot d → ⊥

-- this slot is the least against the entry; its transaction is named, and the item of the entry's first operation that conflicts
pub record IsAbort (pairs : List (ℕ × Class × Class)) (earlier : List Decision) (e : LogEntry) (slot : ℕ) (named : Tid) (item : Item) : Type 0 where
  pub by : Decision
  pub here : StandsIn earlier slot by
  pub against : IsAgainst pairs e slot by
  pub least : NoneAgainst pairs earlier e slot
  pub named_is : named ≡ by.entry.tid
  pub item_is : conflict_item pairs e by.entry ≡ Some item

-- what a verdict says of an entry and the decisions before it
abbrev pub IsVerdict : List (ℕ × Class × Class) → List Decision → LogEntry → Verdict → Type 0
IsVerdict pairs earlier e Commit = (IsHeld earlier e.tid → ⊥) × NoneAgainst pairs earlier e (length earlier + 1)
IsVerdict pairs earlier e (Abort slot named item) = (IsHeld earlier e.tid → ⊥) × IsAbort pairs earlier e slot named item
IsVerdict pairs earlier e Repeat = IsHeld earlier e.tid

-- each verdict says so
abbrev pub VerdictsSayWhy : Type 0
VerdictsSayWhy = (pairs : List (ℕ × Class × Class)) (earlier : List Decision) (e : LogEntry) → IsVerdict pairs earlier e (verdict_after pairs earlier e)

-- a log's decisions are of its entries
abbrev pub EntriesStay : Type 0
EntriesStay = (pairs : List (ℕ × Class × Class)) (es : List LogEntry) → entries_of (certified pairs es) ≡ es

-- what comes later changes no decision
abbrev pub DecisionsStay : Type 0
DecisionsStay = (pairs : List (ℕ × Class × Class)) (es more : List LogEntry) → take (length es) (certified pairs (es ++ more)) ≡ certified pairs es

-- each verdict is that of its entry after the entries before it
abbrev pub VerdictsAreOfPrefixes : Type 0
VerdictsAreOfPrefixes = (pairs : List (ℕ × Class × Class)) (es : List LogEntry) (slot : ℕ) (d : Decision) →
    StandsIn (certified pairs es) slot d → d.verdict ≡ verdict_after pairs (certified pairs (take (slot - 1) es)) d.entry

-- of the slots in which a transaction stands all but the first are repeats
abbrev pub DecidedOnce : Type 0
DecidedOnce = (pairs : List (ℕ × Class × Class)) (es : List LogEntry) (slot later : ℕ) (c d : Decision) →
    slot < later → StandsIn (certified pairs es) slot c → StandsIn (certified pairs es) later d → c.entry.tid ≡ d.entry.tid → d.verdict ≡ Repeat

-- of two that commit and conflict, the snapshot of the later one holds the earlier one
abbrev pub ConflictsAreSeen : Type 0
ConflictsAreSeen = (pairs : List (ℕ × Class × Class)) (es : List LogEntry) (slot later : ℕ) (c d : Decision) →
    slot < later → StandsIn (certified pairs es) slot c → StandsIn (certified pairs es) later d → c.verdict ≡ Commit → d.verdict ≡ Commit
    → transactions_conflict pairs d.entry.touches c.entry.touches ≡ true → at_most (vector_in slot c.entry) d.entry.snapshot ≡ true
