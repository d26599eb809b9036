use Rattle.std.proofs.Common.{◌≡◌, ◌≤◌, ◌+◌, length}
use Rattle.std.specs.Prelude.{nat_le}
use Rattle.us_ballot_model.specs.Ballots.{count, backers, most}
use Rattle.us_ballot.proofs.advance.ready.Given as goal

abbrev pub invariant-loop-k : goal.invariant-loop-k
invariant-loop-k g l = record {
  same : most (λ k. nat_le l.log.f (backers l.acks (count l.log + k))) l.k ≡ most (λ k. nat_le l.log.f (backers l.acks (count l.log + k))) (length l.log.tail);
  within : l.k ≤ length l.log.tail;
}

abbrev pub decreases-loop-k : goal.decreases-loop-k
decreases-loop-k g l = l.k
