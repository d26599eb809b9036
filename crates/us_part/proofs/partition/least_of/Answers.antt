use Rattle.std.proofs.Common.{◌∙◌, ap, sym, drop, ◌+◌}
use Rattle.us_model.specs.Partitions.{least_ts}
use Rattle.us_part.proofs.Loops.{drop-turn}
use Rattle.us_part.proofs.Partitions.{least_ts-min}
use Rattle.us_part.proofs.partition.least_of.Goals as goal

pub loop-transaction-preserved : goal.loop-transaction-preserved
loop-transaction-preserved c =
    let i = c.loop-transaction.transaction-index in
    let xs = c.args.transactions.now in
    ap (λ n. least_ts n (drop (i + 1) xs)) c.min-least.ensures
    ∙ least_ts-min c.loop-transaction.least c.transaction-item.result.ts (drop (i + 1) xs)
    ∙ sym (ap (least_ts c.loop-transaction.least) (drop-turn xs i c.transaction-item.result c.loop-transaction-test.true c.transaction-item.is))
    ∙ c.loop-transaction.invariant
