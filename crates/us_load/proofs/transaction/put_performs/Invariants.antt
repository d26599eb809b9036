use Rattle.std.proofs.Common.{◌≡◌, ◌++◌}
use Rattle.us_load.specs.Words.{stream, skip}
use Rattle.us_load.specs.Transactions.{performs, frames}
use Rattle.us_load.proofs.transaction.put_performs.Given as goal

abbrev pub invariant-loop-left : goal.invariant-loop-left
invariant-loop-left l = record {
  bytes : l.out.items ++ frames (performs l.left (stream l.rng)) ≡ l.initial.out.items ++ frames (performs l.operations (stream l.initial.rng));
  words : skip l.left (stream l.rng) ≡ skip l.operations (stream l.initial.rng);
}

abbrev pub decreases-loop-left : goal.decreases-loop-left
decreases-loop-left l = l.left
