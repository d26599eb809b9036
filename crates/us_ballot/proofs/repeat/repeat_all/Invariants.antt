use Rattle.std.proofs.Common.{◌≡◌, ◌+◌, ◌*◌, ◌++◌}
use Rattle.us_ballot_model.specs.Ballots.{ack_of}
use Rattle.us_ballot_model.specs.Rules.{repeated}
use Rattle.us_ballot.proofs.Repeating.{all_of}
use Rattle.us_ballot.proofs.repeat.repeat_all.Given as goal

-- what is sent and what is left to send are all
abbrev pub invariant-loop-j : goal.invariant-loop-j
invariant-loop-j g l = record {
  sends : l.out.sends ++ all_of (λ j. repeated l.log j (ack_of l.acks j)) l.log.site l.j (2 * l.log.f + 2) ≡ l.initial.out.sends ++ all_of (λ j. repeated l.log j (ack_of l.acks j)) l.log.site 1 (2 * l.log.f + 2);
  chosen : l.out.chosen ≡ l.initial.out.chosen;
}
