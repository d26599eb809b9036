-- In each session the committed transactions ascend.
use Rattle.std.proofs.Common.{◌≡◌, ⊎_elim, ℕ, ◌<◌, List, [], Bool, ap, arith}
use Rattle.us_kind.specs.Comparison.{In}
use Rattle.us_base.proofs.Vectors.{at_most-trans}
use Rattle.us_value.specs.declared.operation.Kind.{Kind}
use Rattle.us_exec.specs.declared.Done.{Done}
use Rattle.us_history.specs.declared.LogTx.{LogTx}
use Rattle.us_history.specs.Histories.{Committed, History}
use Rattle.us_snapshots.specs.Snapshots.{IsSnapshotHistory}
use Rattle.us_snapshots.specs.Ascending.{Ascends}
use Rattle.us_snapshots.proofs.Pasts.{not_own}
use Rattle.us_snapshots.proofs.Order.{seq_order}

module _ {spaces : List (ℕ × Kind)} {conflicts : List Done → List Done → Bool} {told : History} {decided : List LogTx}
    (snap : IsSnapshotHistory spaces conflicts told decided) where
  abbrev cs : List Committed
  cs = told.committed

  -- the later number is of the later transaction
  pub seqs_ascend : (c d : Committed) → In c cs → In d cs → c.begun.session ≡ d.begun.session → c.number < d.number → c.begun.tid.seq < d.begun.tid.seq
  seqs_ascend c d i j same less =
      ⊎_elim
      (λ one. let number : c.number ≡ d.number = ap (λ (x : Committed). x.number) one in absurd (omega arith))
      (λ later. later)
      (seq_order snap c d i j same (omega arith))

  pub ascends_by : told.links ≡ [] → Ascends told
  ascends_by none = record {
    unlinked = none;
    sessions = record {
      seqs = seqs_ascend;
      vectors = λ c d i j same less.
          let covered = snap.snapshots.earlier c d.begun i (snap.names.begun d j) same (seqs_ascend c d i j same less) in
          at_most-trans c.vector d.begun.snapshot d.vector covered (snap.vectors d j).at_least;
    };
    committed = λ d j c i. not_own snap c d.begun i (snap.names.begun d j);
    begun = λ t j c i. not_own snap c t i j;
  }
