use Rattle.std.proofs.Common.{◌≡◌, ◌++◌, ◌+◌, ◌*◌}
use Rattle.us_ballot.proofs.Sending.{rest_of}
use Rattle.us_ballot.proofs.sends.send_to_others.Given as goal

-- what is sent and what is left to send are all
abbrev pub invariant-loop-j : goal.invariant-loop-j
invariant-loop-j g l = record {
  sends : l.out.sends ++ rest_of l.log.site l.message l.j (2 * l.log.f + 2) ≡ l.initial.out.sends ++ rest_of l.log.site l.message 1 (2 * l.log.f + 2);
  chosen : l.out.chosen ≡ l.initial.out.chosen;
}
