use Rattle.std.proofs.Common.{◌≡◌, ◌+◌, ◌-◌, ◌++◌}
use Rattle.us_load.specs.Words.{stream}
use Rattle.us_load.specs.Transactions.{transactions}
use Rattle.us_load.proofs.load.put_transactions.Given as goal

abbrev pub invariant-loop-passed : goal.invariant-loop-passed
invariant-loop-passed l =
    l.lines ++ transactions (l.count - l.passed) (l.passed + 1) (stream l.rng) ≡ l.initial.lines ++ transactions l.count 1 (stream l.initial.rng)
