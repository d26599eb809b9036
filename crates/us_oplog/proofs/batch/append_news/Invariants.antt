use Rattle.std.proofs.Common.{◌≡◌, ◌++◌, drop, filter}
use Rattle.us_oplog.specs.Batches.{is_news, news_of}
use Rattle.us_oplog.proofs.batch.append_news.Given as goal

-- what came so far and the news of the rest are all
abbrev pub invariant-loop-transaction : goal.invariant-loop-transaction
invariant-loop-transaction l = record {
  transactions :
      l.log.transactions ++ filter (is_news l.batch.origin l.known) (drop l.transaction-index l.batch.txs)
      ≡ l.fn.log.transactions ++ news_of l.known l.batch;
  floor : l.log.floor ≡ l.fn.log.floor;
}
