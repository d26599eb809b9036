use Rattle.std.proofs.Common.{◌≡◌, true, false, length, subst, sym}
use Rattle.std.specs.Prelude.{IfOk, ◌↔◌}
use Rattle.us_ballot_model.specs.declared.log.BallotLog.{BallotLog}
use Rattle.us_ballot_model.specs.declared.message.Appended.TheVariants.{NotLeader, Full}
use Rattle.us_ballot_model.specs.Ballots.{WINDOW, leads}
use Rattle.us_ballot_model.specs.Rules.{append_answer}
use Rattle.us_ballot.proofs.Dropped.{if_ok_map, not_leader_exactly, full_exactly}
use Rattle.us_ballot.proofs.ballots.Ballots.append.Goals as goal

pub returns-clause-not_leader : goal.returns-clause-not_leader
returns-clause-not_leader g c =
    let at_inside = if_ok_map c.append.result (λ a. a ≡ append_answer c.self.inside.log c.args.entry) (λ a. (a ≡ NotLeader c.args.entry) ↔ (leads c.self.inside.log.role ≡ false))
    (λ a e. subst (λ x. (x ≡ NotLeader c.args.entry) ↔ (leads c.self.inside.log.role ≡ false)) (sym e) (not_leader_exactly c.self.inside.log c.args.entry)) c.append.ensures.answer in
    subst (λ (l : BallotLog _). IfOk c.append.result (λ a. (a ≡ NotLeader c.args.entry) ↔ (leads l.role ≡ false))) c.self.view_is at_inside

pub returns-clause-full : goal.returns-clause-full
returns-clause-full g c =
    let at_inside = if_ok_map c.append.result (λ a. a ≡ append_answer c.self.inside.log c.args.entry) (λ a. (a ≡ Full c.args.entry) ↔ ((leads c.self.inside.log.role ≡ true) × (length c.self.inside.log.tail ≡ WINDOW)))
    (λ a e. subst (λ x. (x ≡ Full c.args.entry) ↔ ((leads c.self.inside.log.role ≡ true) × (length c.self.inside.log.tail ≡ WINDOW))) (sym e) (full_exactly c.self.inside.log c.args.entry c.self.invariant.tail)) c.append.ensures.answer in
    subst (λ (l : BallotLog _). IfOk c.append.result (λ a. (a ≡ Full c.args.entry) ↔ ((leads l.role ≡ true) × (length l.tail ≡ WINDOW)))) c.self.view_is at_inside
