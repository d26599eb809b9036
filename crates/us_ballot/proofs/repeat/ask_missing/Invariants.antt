use Rattle.std.proofs.Common.{◌≡◌, ◌+◌, ◌*◌, ◌++◌}
use Rattle.std.specs.Prelude.{not}
use Rattle.us_ballot_model.specs.declared.message.BallotMessage.TheVariants.{NewBallot}
use Rattle.us_ballot_model.specs.Ballots.{has_promised}
use Rattle.us_ballot.proofs.Repeating.{asked}
use Rattle.us_ballot.proofs.repeat.ask_missing.Given as goal

-- who is asked and who is left to ask are all
abbrev pub invariant-loop-j : goal.invariant-loop-j
invariant-loop-j g l = record {
  sends : l.out.sends ++ asked (λ j. not (has_promised l.promises j)) (NewBallot l.log.ballot) l.log.site l.j (2 * l.log.f + 2) ≡ l.initial.out.sends ++ asked (λ j. not (has_promised l.promises j)) (NewBallot l.log.ballot) l.log.site 1 (2 * l.log.f + 2);
  chosen : l.out.chosen ≡ l.initial.out.chosen;
}
