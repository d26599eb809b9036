-- What holds of snapshot histories holds after every run.
use Rattle.std.proofs.Common.{◌≡◌, List, []}
use Rattle.us_exec.specs.Conflict.{conflict}
use Rattle.us_history.specs.Histories.{History}
use Rattle.us_snapshots.specs.Laws.{OfSnapshotHistories}
use Rattle.us_snapshots.proofs.Laws.{all_well_formed, all_closed, all_valued, all_ordered, all_counted_directly, all_direct, all_ascend}
use Rattle.us_model.specs.declared.settings.Settings.{Settings}
use Rattle.us_order.specs.Premise.{HasOnePartition}
use Rattle.us_model.specs.Worlds.{WorldEvent, start, run}
use Rattle.us_order.specs.Laws.{history_after, EveryRunIsPor, PastsAreDirect, ExecutionsAreDirect, ExecutionsAreWellFormed, HistoriesAscend}
use Rattle.us_order.proofs.Numbers.{history_plain}
use Rattle.us_order.proofs.Snapshots.{every_run_snapshots}

holds_after : (Holds : History → Type 0) → OfSnapshotHistories Holds → (settings : Settings) → HasOnePartition settings → (hs : List WorldEvent)
    → Holds (history_after settings hs)
holds_after Holds law settings one hs =
    let snap = every_run_snapshots settings one hs in
    law settings.catalog (conflict settings.conflicts) (history_after settings hs) snap.0 snap.1

-- no session goes on from another one
unlinked : (settings : Settings) → HasOnePartition settings → (hs : List WorldEvent) → (history_after settings hs).links ≡ []
unlinked settings one hs = (history_plain (run hs (start settings)).notes).unlinked

pub every_run : EveryRunIsPor
every_run settings one hs =
    let snap = every_run_snapshots settings one hs in
    record {
      closed = holds_after _ all_closed settings one hs;
      valued = holds_after _ all_valued settings one hs;
      ordered = all_ordered settings.catalog settings.conflicts (history_after settings hs) snap.0 snap.1;
    }

pub pasts_direct : PastsAreDirect
pasts_direct settings one hs t s i = holds_after _ all_counted_directly settings one hs (unlinked settings one hs) t s i

pub executions_direct : ExecutionsAreDirect
executions_direct settings one hs = holds_after _ all_direct settings one hs (unlinked settings one hs)

pub histories_ascended : HistoriesAscend
histories_ascended settings one hs = holds_after _ all_ascend settings one hs (unlinked settings one hs)

pub well_formed : ExecutionsAreWellFormed
well_formed settings one hs = holds_after _ all_well_formed settings one hs
