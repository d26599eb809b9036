use Rattle.std.proofs.Common.{IsSome}
use Rattle.us_real.proofs.tests.clients.a_client.Given as goal

abbrev pub invariant-loop-piece : goal.invariant-loop-piece
invariant-loop-piece g l = IsSome l.links.planned
