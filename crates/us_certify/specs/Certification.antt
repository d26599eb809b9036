-- CERTIFICATION: what becomes of the entries of the ballot log, each after those before it. Slots count from 1.
use Rattle.std.specs.Prelude.{◌≡◌, ℕ, zero as nought, suc, ◌+◌, List, [], ◌∷◌, ◌++◌, map, slice_get}
use Rattle.std.specs.Prelude.{Bool, true, false, not, ◌&&◌, Option, Some, None, if◌then◌else◌}
use Rattle.std.specs.List.{list_any, position}
use Rattle.us_kind.specs.Comparison.{tid_eq}
use Rattle.us_kind.specs.declared.identity.Tid.{Tid}
use Rattle.us_base.specs.Vector.{at_most, with_entry}
use Rattle.us_value.specs.declared.item.Item.{Item}
use Rattle.us_value.specs.declared.operation.Class.{Class}
use Rattle.us_conflict.specs.Conflicts.{first_conflict}
use Rattle.us_peer_wire.specs.declared.message.LogEntry.{LogEntry}
use Rattle.us_peer_wire.specs.declared.message.Verdict.{Verdict}
use Rattle.us_peer_wire.specs.declared.message.Verdict.TheVariants.{Commit, Abort, Repeat}
use Rattle.us_certify.specs.declared.decision.Decision.{Decision}

-- the vector with which the entry in a slot commits: its snapshot, with the slot as the strong entry
abbrev pub vector_in : ℕ → LogEntry → List ℕ
vector_in slot e = with_entry e.snapshot 0 slot

abbrev pub is_commit : Verdict → Bool
is_commit Commit = true
is_commit (Abort slot named item) = false
is_commit Repeat = false

-- the transaction stands in one of these slots
abbrev pub holds : List Decision → Tid → Bool
holds decisions tid = list_any (λ (d : Decision). tid_eq d.entry.tid tid) decisions

-- the decision in a slot committed a transaction that the entry's snapshot doesn't hold
abbrev pub is_unseen : LogEntry → ℕ → Decision → Bool
is_unseen e slot d = is_commit d.verdict && not (at_most (vector_in slot d.entry) e.snapshot)

abbrev pub item_of : Option (Item × Class) → Option Item
item_of None = None
item_of (Some touch) = Some touch.0

-- the item of the operation at this place, where there is one
abbrev pub item_at : List (Item × Class) → Option ℕ → Option Item
item_at touches None = None
item_at touches (Some place) = item_of (slice_get touches place)

-- the item of the entry's first operation that conflicts with one of the other entry
abbrev pub conflict_item : List (ℕ × Class × Class) → LogEntry → LogEntry → Option Item
conflict_item pairs e other = item_at e.touches (first_conflict pairs e.touches other.touches)

-- an abort by the transaction in this slot, where there is an item on which it conflicts
abbrev pub abort_on : ℕ → Tid → Option Item → Option Verdict
abort_on slot named None = None
abort_on slot named (Some item) = Some (Abort slot named item)

-- what the decision in an earlier slot makes of the entry: an abort, where it is unseen and conflicts
abbrev pub abort_by : List (ℕ × Class × Class) → LogEntry → ℕ → Decision → Option Verdict
abort_by pairs e slot d = if is_unseen e slot d then abort_on slot d.entry.tid (conflict_item pairs e d.entry) else None

abbrev pub verdict_or : Option Verdict → Verdict → Verdict
verdict_or None rest = rest
verdict_or (Some verdict) rest = verdict

-- the abort by the first of these decisions that makes one, where they stand in the slots from `slot` on; else a commit
abbrev pub certified_by : List (ℕ × Class × Class) → LogEntry → ℕ → List Decision → Verdict
certified_by pairs e slot [] = Commit
certified_by pairs e slot (d ∷ ds) = verdict_or (abort_by pairs e slot d) (certified_by pairs e (slot + 1) ds)

-- VERDICT of an entry that comes after these decisions
abbrev pub verdict_after : List (ℕ × Class × Class) → List Decision → LogEntry → Verdict
verdict_after pairs earlier e = if holds earlier e.tid then Repeat else certified_by pairs e 1 earlier

abbrev pub decision_after : List (ℕ × Class × Class) → List Decision → LogEntry → Decision
decision_after pairs earlier e = record { entry = e; verdict = verdict_after pairs earlier e }

-- these decisions, and then each of the entries after those before it
abbrev pub certified_after : List (ℕ × Class × Class) → List Decision → List LogEntry → List Decision
certified_after pairs earlier [] = earlier
certified_after pairs earlier (e ∷ es) = certified_after pairs (earlier ++ decision_after pairs earlier e ∷ []) es

-- the decisions of a whole log
abbrev pub certified : List (ℕ × Class × Class) → List LogEntry → List Decision
certified pairs es = certified_after pairs [] es

abbrev pub entries_of : List Decision → List LogEntry
entries_of decisions = map (λ (d : Decision). d.entry) decisions

-- each verdict is that of its entry after the entries before it
abbrev pub AreAsCertified : List (ℕ × Class × Class) → List Decision → Type 0
AreAsCertified pairs decisions = decisions ≡ certified pairs (entries_of decisions)

-- the decision in a slot
abbrev pub decision_in : List Decision → ℕ → Option Decision
decision_in decisions nought = None
decision_in decisions (suc place) = slice_get decisions place

abbrev pub verdict_of : Option Decision → Option Verdict
verdict_of None = None
verdict_of (Some d) = Some d.verdict

abbrev pub verdict_in : List Decision → ℕ → Option Verdict
verdict_in decisions slot = verdict_of (decision_in decisions slot)

-- by whatever conflicts the decisions were certified, this is the verdict that the entries alone have in the slot
abbrev pub IsByEntries : List Decision → ℕ → Verdict → Type 0
IsByEntries decisions slot v =
    (pairs : List (ℕ × Class × Class)) → AreAsCertified pairs decisions → verdict_in (certified pairs (entries_of decisions)) slot ≡ Some v

-- the first place, from 0, at which the transaction stands
abbrev pub first_place : List Decision → Tid → Option ℕ
first_place decisions tid = position (λ (d : Decision). tid_eq d.entry.tid tid) decisions

-- the slot of the decision at this place
abbrev pub slot_of : Option ℕ → Option ℕ
slot_of None = None
slot_of (Some place) = Some (place + 1)

-- the first slot in which the transaction stands
abbrev pub first_slot : List Decision → Tid → Option ℕ
first_slot decisions tid = slot_of (first_place decisions tid)
