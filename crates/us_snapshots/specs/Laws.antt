-- What holds of every snapshot history.
use Rattle.std.specs.Prelude.{◌≡◌, ℕ, List, [], Bool}
use Rattle.us_value.specs.declared.operation.Kind.{Kind}
use Rattle.us_kind.specs.Comparison.{In}
use Rattle.us_exec.specs.declared.SessionName.{SessionName}
use Rattle.us_exec.specs.declared.Done.{Done}
use Rattle.us_exec.specs.Past.{count_in}
use Rattle.us_exec.specs.WellFormed.{IsWellFormed}
use Rattle.us_exec.specs.Consistency.{IsClosed, IsValued, IsOrdered}
use Rattle.us_exec.specs.Conflict.{Declared, conflict}
use Rattle.us_history.specs.declared.LogTx.{LogTx}
use Rattle.us_history.specs.Histories.{Begun, History}
use Rattle.us_history.specs.Pasts.{is_step, count_of, past_of, direct_past}
use Rattle.us_history.specs.Executions.{execution_by}
use Rattle.us_snapshots.specs.Snapshots.{IsSnapshotHistory}
use Rattle.us_snapshots.specs.Ascending.{Ascends}

-- whatever spaces are configured and whichever transactions conflict, this holds of each snapshot history
abbrev pub OfSnapshotHistories : (History → Type 0) → Type 0
OfSnapshotHistories Holds =
    (spaces : List (ℕ × Kind)) (conflicts : List Done → List Done → Bool) (h : History) (decided : List LogTx)
    → IsSnapshotHistory spaces conflicts h decided → Holds h

abbrev pub ExecutionsAreWellFormed : Type 0
ExecutionsAreWellFormed = OfSnapshotHistories (λ h. IsWellFormed (execution_by past_of h))

abbrev pub ExecutionsAreClosed : Type 0
ExecutionsAreClosed = OfSnapshotHistories (λ h. IsClosed (execution_by past_of h))

abbrev pub ExecutionsAreValued : Type 0
ExecutionsAreValued = OfSnapshotHistories (λ h. IsValued (execution_by past_of h))

-- whatever conflicts are declared
abbrev pub ExecutionsAreOrdered : Type 0
ExecutionsAreOrdered =
    (spaces : List (ℕ × Kind)) (declared : Declared) (h : History) (decided : List LogTx)
    → IsSnapshotHistory spaces (conflict declared) h decided → IsOrdered declared (execution_by past_of h)

-- where no session goes on from another one: of each session, a past's count is the greatest number of a transaction that leads to it in one step
abbrev pub CountsAreDirect : Type 0
CountsAreDirect =
    OfSnapshotHistories (λ h. h.links ≡ [] → (t : Begun) (s : SessionName) → In t h.begun
    → count_in s (past_of h t) ≡ count_of (λ c. is_step h.links c t) s h.committed)

-- then the pasts, which are defined by the closure of steps, are those counted in one step
abbrev pub ExecutionsAreDirect : Type 0
ExecutionsAreDirect = OfSnapshotHistories (λ h. h.links ≡ [] → execution_by past_of h ≡ execution_by direct_past h)

-- and the vectors of a session ascend, and none of its own is in its own snapshot
abbrev pub HistoriesAscend : Type 0
HistoriesAscend = OfSnapshotHistories (λ h. h.links ≡ [] → Ascends h)
