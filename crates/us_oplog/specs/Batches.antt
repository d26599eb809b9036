-- REPLICATE: the transactions of an origin, from one of its entries to another.
use Rattle.std.specs.Prelude.{ℕ, List, Bool, ◌&&◌, filter, nat_le, nat_lt}
use Rattle.us_base.specs.Vector.{entry}
use Rattle.us_history.specs.declared.LogTx.{LogTx}
use Rattle.us_oplog.specs.declared.batch.Batch.{Batch}

-- whether a log that holds all up to known takes it: it leaves no gap, and brings more
abbrev pub may_take : ℕ → Batch → Bool
may_take known batch = nat_le batch.lo known && nat_lt known batch.hi

-- whether the transaction isn't among those up to known
abbrev pub is_news : ℕ → ℕ → LogTx → Bool
is_news origin known t = nat_lt known (entry t.vector origin)

-- those that come to the log
abbrev pub news_of : ℕ → Batch → List LogTx
news_of known batch = filter (is_news batch.origin known) batch.txs
