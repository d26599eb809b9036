use Rattle.std.proofs.Common.{IsSome}
use Rattle.us_real.proofs.tests.peers.another_site.Given as goal

abbrev pub invariant-loop-piece : goal.invariant-loop-piece
invariant-loop-piece g l = record {
  first : IsSome l.first.planned;
  second : IsSome l.second.planned;
}
