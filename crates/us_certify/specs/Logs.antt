-- A log of decisions, and the pages that partitions are told of it.
use Rattle.std.specs.Prelude.{ℕ, ◌+◌, ◌-◌, ◌==◌, List, [], ◌∷◌, ◌++◌, Bool, filter, take, drop}
use Rattle.us_base.specs.Place.{place_of}
use Rattle.us_base.specs.declared.shape.Shape.{Shape}
use Rattle.us_value.specs.declared.item.Write.{Write}
use Rattle.us_value.specs.declared.operation.Class.{Class}
use Rattle.us_peer_wire.specs.declared.message.LogEntry.{LogEntry}
use Rattle.us_peer_wire.specs.declared.message.Verdict.{Verdict}
use Rattle.us_peer_wire.specs.declared.message.Verdict.TheVariants.{Commit, Abort, Repeat}
use Rattle.us_peer_wire.specs.declared.message.Page.{Page}
use Rattle.us_peer_wire.specs.declared.message.Page.TheVariants.{Skip, Holds}
use Rattle.us_certify.specs.declared.decision.Decision.{Decision}
use Rattle.us_certify.specs.Certification.{decision_after, vector_in}

-- of which store it is, and its decisions, in the order of the slots
pub record CertifiedLog : Type 0 where
  pub shape : Shape
  pub decisions : List Decision

-- with one more entry, which is decided after all before it
abbrev pub pushed : List (ℕ × Class × Class) → CertifiedLog → LogEntry → CertifiedLog
pushed pairs log e = record { shape = log.shape; decisions = log.decisions ++ decision_after pairs log.decisions e ∷ [] }

-- the write is on an item of this partition
abbrev pub is_kept_by : Shape → ℕ → Write → Bool
is_kept_by shape part w = place_of shape.parts w.item.space w.item.id == part

-- the writes on a partition's items, in order
abbrev pub writes_on : Shape → ℕ → List Write → List Write
writes_on shape part writes = filter (is_kept_by shape part) writes

abbrev pub page_as : Shape → ℕ → ℕ → LogEntry → Verdict → Page
page_as shape part slot e Commit = Holds e.tid (vector_in slot e) (writes_on shape part e.writes)
page_as shape part slot e (Abort earlier named item) = Skip
page_as shape part slot e Repeat = Skip

-- PAGE of a slot for a partition: the transaction, its vector and its writes there, where it commits
abbrev pub page_of : Shape → ℕ → ℕ → Decision → Page
page_of shape part slot d = page_as shape part slot d.entry d.verdict

-- the pages of decisions that stand in the slots from `slot` on
abbrev pub pages_of : Shape → ℕ → ℕ → List Decision → List Page
pages_of shape part slot [] = []
pages_of shape part slot (d ∷ ds) = page_of shape part slot d ∷ pages_of shape part (slot + 1) ds

-- the pages of all slots from `first` on, or of the first 8 of these where there are more
abbrev pub pages_from : CertifiedLog → ℕ → ℕ → List Page
pages_from log part first = pages_of log.shape part first (take 8 (drop (first - 1) log.decisions))
