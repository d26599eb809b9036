-- What holds after every run of the machine, in a store with one partition.
use Rattle.std.specs.Prelude.{◌≡◌, List}
use Rattle.us_kind.specs.Comparison.{In}
use Rattle.us_exec.specs.declared.SessionName.{SessionName}
use Rattle.us_exec.specs.Past.{count_in}
use Rattle.us_exec.specs.Conflict.{conflict}
use Rattle.us_exec.specs.Consistency.{IsPor}
use Rattle.us_exec.specs.WellFormed.{IsWellFormed}
use Rattle.us_history.specs.declared.LogTx.{LogTx}
use Rattle.us_history.specs.Histories.{Begun, History}
use Rattle.us_history.specs.Pasts.{is_step, count_of, past_of, direct_past}
use Rattle.us_history.specs.Executions.{execution_by}
use Rattle.us_snapshots.specs.Snapshots.{IsSnapshotHistory}
use Rattle.us_snapshots.specs.Ascending.{Ascends}
use Rattle.us_model.specs.declared.settings.Settings.{Settings}
use Rattle.us_model.specs.Worlds.{WorldEvent, start, run}
use Rattle.us_model.specs.Executions.{history_of, execution_of}
use Rattle.us_order.specs.Premise.{HasOnePartition}

-- what the notes of a run tell
abbrev pub history_after : Settings → List WorldEvent → History
history_after settings hs = history_of (run hs (start settings)).notes

-- whatever happens, it is a snapshot history, with some list of its decided transactions
abbrev pub EveryRunIsASnapshotHistory : Type 0
EveryRunIsASnapshotHistory =
    (settings : Settings) → HasOnePartition settings → (hs : List WorldEvent)
    → (decided : List LogTx) × IsSnapshotHistory settings.catalog (conflict settings.conflicts) (history_after settings hs) decided

-- the execution is closed, valued and ordered by the conflicts that are declared
abbrev pub EveryRunIsPor : Type 0
EveryRunIsPor =
    (settings : Settings) → HasOnePartition settings → (hs : List WorldEvent) → IsPor settings.conflicts (execution_of (run hs (start settings)).notes)

-- each past counts, of each session, what can be counted in one step
abbrev pub PastsAreDirect : Type 0
PastsAreDirect =
    (settings : Settings) → HasOnePartition settings → (hs : List WorldEvent) (t : Begun) (s : SessionName)
    → In t (history_after settings hs).begun
    → count_in s (past_of (history_after settings hs) t) ≡ count_of (λ c. is_step (history_after settings hs).links c t) s (history_after settings hs).committed

-- the execution of each run is the one whose pasts are counted in one step
abbrev pub ExecutionsAreDirect : Type 0
ExecutionsAreDirect =
    (settings : Settings) → HasOnePartition settings → (hs : List WorldEvent)
    → execution_of (run hs (start settings)).notes ≡ execution_by direct_past (history_of (run hs (start settings)).notes)

-- after each run, in each session the transactions and their vectors ascend
abbrev pub HistoriesAscend : Type 0
HistoriesAscend = (settings : Settings) → HasOnePartition settings → (hs : List WorldEvent) → Ascends (history_of (run hs (start settings)).notes)

-- the execution of each run is well formed
abbrev pub ExecutionsAreWellFormed : Type 0
ExecutionsAreWellFormed =
    (settings : Settings) → HasOnePartition settings → (hs : List WorldEvent) → IsWellFormed (execution_of (run hs (start settings)).notes)
