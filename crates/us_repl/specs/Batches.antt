-- BATCH: what is sent of an origin's transactions.
use Rattle.std.specs.Prelude.{ℕ, List, Option, Some, None, if◌then◌else◌, length, nat_le, nat_lt, filter, take, slice_get}
use Rattle.us_history.specs.declared.LogTx.{LogTx}
use Rattle.us_oplog.specs.Ranges.{entry_of, in_order, is_between}
use Rattle.us_oplog.specs.declared.batch.Batch.{Batch}

-- the log's causal transactions of the origin with entries above lo and at most known, ascending, equal ones in the order of the log
abbrev pub all_between : ℕ → ℕ → ℕ → List LogTx → List LogTx
all_between origin lo known log = in_order (entry_of origin) (filter (is_between origin lo known) log)

-- the entry of one of them
abbrev pub entry_at : ℕ → ℕ → Option LogTx → ℕ
entry_at origin known None = known
entry_at origin known (Some t) = entry_of origin t

-- up to where the first 8 are all: the entry of the eighth where there are more
abbrev pub hi_of : ℕ → ℕ → List LogTx → ℕ
hi_of origin known found = if nat_lt 8 (length found) then entry_at origin known (slice_get found 7) else known

-- the first 8
abbrev pub batch_of : ℕ → ℕ → ℕ → List LogTx → Batch
batch_of origin lo known found = record { origin = origin; lo = lo; hi = hi_of origin known found; txs = take 8 found }

-- nothing where all that is known was sent
abbrev pub batch_for : ℕ → ℕ → ℕ → List LogTx → Option Batch
batch_for origin lo known log = if nat_le known lo then None else Some (batch_of origin lo known (all_between origin lo known log))
