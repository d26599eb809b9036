use Rattle.std.proofs.Common.{IsSome}
use Rattle.us_real.proofs.tests.clients.a_thousand_connections.Given as goal

abbrev pub invariant-loop : goal.invariant-loop
invariant-loop g l = IsSome l.links.planned
