use Rattle.std.proofs.Common.{◌≡◌, ◌+◌, ◌*◌, true, false, sym, ap, ◌∙◌}
use Rattle.std.specs.Prelude.{not}
use Rattle.us_ballot_model.specs.declared.message.BallotMessage.TheVariants.{NewBallot}
use Rattle.us_ballot_model.specs.Ballots.{has_promised}
use Rattle.us_ballot.proofs.Repeating.{ask_own, ask_none, ask_next}
use Rattle.us_ballot.proofs.repeat.ask_missing.Goals as goal
use Rattle.us_ballot.proofs.repeat.ask_missing.Goals.{then-j-log+then-not-has_promised+in_ok-send, else-j-log, else-j-log-via-then-j-log+else-not-has_promised, else-j-log-via-else-j-log}

pub loop-j-preserved : goal.loop-j-preserved
loop-j-preserved g c =
    elim c.if-j-log.branch [
      | then-j-log+then-not-has_promised+in_ok-send w ↦
          let f : not (has_promised c.args.promises.now c.loop-j.j) ≡ true = ap not (sym w.has_promised.ensures ∙ w.if-not-has_promised.true) in
          let e = ask_next c.loop-j.out.sends (λ j. not (has_promised c.args.promises.now j)) (NewBallot c.args.log.now.ballot) c.args.log.now.site c.loop-j.j (2 * c.args.log.now.f + 2) c.loop-j-test.true w.if-j-log.true f in
          record {
            sends = rw (w.out-is, w.in_ok-send.ensures, e) c.loop-j.invariant.sends;
            chosen = rw (w.out-is, w.in_ok-send.ensures) c.loop-j.invariant.chosen;
          }
      | else-j-log w ↦
          elim w.else-j-log.branch [
            | else-j-log-via-then-j-log+else-not-has_promised w' ↦
                let f : not (has_promised c.args.promises.now c.loop-j.j) ≡ false = ap not (sym w'.has_promised.ensures ∙ w'.if-not-has_promised.false) in
                let e = ask_none c.loop-j.out.sends (λ j. not (has_promised c.args.promises.now j)) (NewBallot c.args.log.now.ballot) c.args.log.now.site c.loop-j.j (2 * c.args.log.now.f + 2) c.loop-j-test.true f in
                record { sends = rw (w.out-is, e) c.loop-j.invariant.sends; chosen = rw w.out-is c.loop-j.invariant.chosen }
            | else-j-log-via-else-j-log w' ↦
                let e = ask_own c.loop-j.out.sends (λ j. not (has_promised c.args.promises.now j)) (NewBallot c.args.log.now.ballot) c.args.log.now.site c.loop-j.j (2 * c.args.log.now.f + 2) c.loop-j-test.true w'.if-j-log.false in
                record { sends = rw (w.out-is, e) c.loop-j.invariant.sends; chosen = rw w.out-is c.loop-j.invariant.chosen }
          ]
    ]
