use Rattle.std.proofs.Common.{IsSome}
use Rattle.us_real.proofs.tests.peers.a_send_to_nobody.Given as goal

abbrev pub invariant-loop-site : goal.invariant-loop-site
invariant-loop-site g l = IsSome l.links.planned
