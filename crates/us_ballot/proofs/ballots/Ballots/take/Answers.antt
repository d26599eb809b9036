use Rattle.std.proofs.Common.{◌≡◌, [], true, ap, subst, ◌∙◌}
use Rattle.us_ballot_model.specs.declared.log.BallotLog.{BallotLog}
use Rattle.us_ballot_model.specs.Ballots.{ballot_in, is_below}
use Rattle.us_ballot_model.specs.Rules.{Stepped}
use Rattle.us_ballot.specs.Outs.{onto}
use Rattle.us_ballot.proofs.Dropped.{old_dropped}
use Rattle.us_ballot.proofs.ballots.Ballots.take.Goals as goal

pub returns-clause-old_ballot : goal.returns-clause-old_ballot
returns-clause-old_ballot g c =
    subst (λ (l : BallotLog _). is_below l.ballot (ballot_in c.args.message) ≡ true → c.take_message.new.log ≡ l) c.self.view_is
    (λ old. c.in_ok-take_message.ensures.log ∙ ap (λ (r : Stepped _). r.log) (old_dropped g.E.PartialEq.eq c.self.inside.log c.args.from c.args.message old))

pub returns-clause-old_ballot_out : goal.returns-clause-old_ballot_out
returns-clause-old_ballot_out g c =
    subst (λ (l : BallotLog _). is_below l.ballot (ballot_in c.args.message) ≡ true → c.take_message.new.out ≡ record { sends = []; chosen = [] }) c.self.view_is
    (λ old. c.in_ok-take_message.ensures.out ∙ (λ i. onto (c.nothing-out.ensures i) (old_dropped g.E.PartialEq.eq c.self.inside.log c.args.from c.args.message old i)))
