-- The laws of snapshot histories.
use Rattle.std.proofs.Common.{ℕ, List, [], Bool, refl, sym, subst}
use Rattle.us_kind.specs.Comparison.{In}
use Rattle.us_value.specs.declared.operation.Kind.{Kind}
use Rattle.us_exec.specs.declared.Done.{Done}
use Rattle.us_exec.specs.declared.Entry.{Entry}
use Rattle.us_exec.specs.declared.Loose.{Loose}
use Rattle.us_exec.specs.Values.{HaveValues}
use Rattle.us_exec.specs.Consistency.{IsValued}
use Rattle.us_history.specs.declared.LogTx.{LogTx}
use Rattle.us_history.specs.Histories.{Begun, Committed, History, ops_of}
use Rattle.us_history.specs.Pasts.{past_of}
use Rattle.us_history.specs.Executions.{execution_by}
use Rattle.us_snapshots.specs.Snapshots.{IsSnapshotHistory}
use Rattle.us_snapshots.specs.Laws.{ExecutionsAreWellFormed, ExecutionsAreClosed, ExecutionsAreValued, ExecutionsAreOrdered, CountsAreDirect}
use Rattle.us_snapshots.specs.Laws.{ExecutionsAreDirect, HistoriesAscend}
use Rattle.us_snapshots.proofs.Sources.{from_loose}
use Rattle.us_snapshots.proofs.Closed.{of_entry, closed, ordered}
use Rattle.us_snapshots.proofs.Direct.{past-counts, execution-same}
use Rattle.us_snapshots.proofs.Ascending.{ascends_by}
use Rattle.us_snapshots.proofs.Formed.{well_formed}
use Rattle.us_snapshots.proofs.Valued.{values_of}

module _ {spaces : List (ℕ × Kind)} {conflicts : List Done → List Done → Bool} {told : History} {decided : List LogTx}
    (snap : IsSnapshotHistory spaces conflicts told decided) where
  abbrev cs : List Committed
  cs = told.committed

  abbrev es : List Entry
  es = (execution_by past_of told).entries

  -- the operations of a transaction have their values
  begun_valued : (t : Begun) → In t told.begun → HaveValues es t.tid (past_of told t) [] (ops_of t.tid told.performed)
  begun_valued t j = values_of snap t j [] (ops_of t.tid told.performed) refl (snap.answers t j)

  valued : IsValued (execution_by past_of told)
  valued = record {
    entries = λ e i.
        let f = of_entry snap e i in
        let h = subst (λ ds. HaveValues es f.source.begun.tid (past_of told f.source.begun) [] ds) (sym (snap.names.ops f.source f.here))
        (begun_valued f.source.begun f.begun) in
        subst (λ (x : Entry). HaveValues es x.tid x.past [] x.ops) f.is h;
    loose = λ x i.
        let f = from_loose (past_of told) told told.begun x i in
        subst (λ (y : Loose). HaveValues es y.tid y.past [] y.ops) f.is (begun_valued f.source f.here);
  }

pub all_well_formed : ExecutionsAreWellFormed
all_well_formed spaces conflicts h decided snap = well_formed snap

pub all_closed : ExecutionsAreClosed
all_closed spaces conflicts h decided snap = closed snap

pub all_valued : ExecutionsAreValued
all_valued spaces conflicts h decided snap = valued snap

pub all_ordered : ExecutionsAreOrdered
all_ordered spaces declared h decided snap = ordered declared snap

pub all_counted_directly : CountsAreDirect
all_counted_directly spaces conflicts h decided snap none t s j = past-counts snap none s t j

pub all_direct : ExecutionsAreDirect
all_direct spaces conflicts h decided snap none = execution-same snap none

pub all_ascend : HistoriesAscend
all_ascend spaces conflicts h decided snap none = ascends_by snap none
