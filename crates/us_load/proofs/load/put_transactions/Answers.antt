use Rattle.std.proofs.Common.{◌+◌, ◌-◌, ◌∙◌, arith}
use Rattle.us_load.specs.Words.{stream}
use Rattle.us_load.proofs.Turns.{next_transaction}
use Rattle.us_load.proofs.load.put_transactions.Goals as goal

pub loop-passed-preserved : goal.loop-passed-preserved
loop-passed-preserved c =
    let i = c.loop-passed.passed in
    let n = c.args.count in
    next_transaction (n - i) (n - (i + 1)) (i + 1) (i + 1 + 1) (stream c.loop-passed.rng) (stream c.put_transaction.new.rng)
    c.loop-passed.lines c.in_ok-lines.lines (omega arith) (omega arith)
    c.in_ok-lines.ensures.words c.in_ok-lines.ensures.lines
    ∙ c.loop-passed.invariant
