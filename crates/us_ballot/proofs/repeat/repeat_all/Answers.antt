use Rattle.std.proofs.Common.{◌+◌, ◌*◌}
use Rattle.us_ballot_model.specs.Ballots.{ack_of}
use Rattle.us_ballot_model.specs.Rules.{repeated}
use Rattle.us_ballot.proofs.Repeating.{all_own, all_next}
use Rattle.us_ballot.proofs.repeat.repeat_all.Goals as goal
use Rattle.us_ballot.proofs.repeat.repeat_all.Goals.{then-j-log+in_ok-repeat_for, else-j-log}

pub loop-j-preserved : goal.loop-j-preserved
loop-j-preserved g c =
    elim c.if-j-log.branch [
      | then-j-log+in_ok-repeat_for w ↦
          let e = all_next c.loop-j.out.sends (λ j. repeated c.args.log.now j (ack_of c.args.acks.now j)) c.args.log.now.site c.loop-j.j (2 * c.args.log.now.f + 2) c.loop-j-test.true w.if-j-log.true in
          record {
            sends = rw (w.out-is, w.in_ok-repeat_for.ensures, w.ack_of.ensures, e) c.loop-j.invariant.sends;
            chosen = rw (w.out-is, w.in_ok-repeat_for.ensures) c.loop-j.invariant.chosen;
          }
      | else-j-log w ↦
          let e = all_own (λ j. repeated c.args.log.now j (ack_of c.args.acks.now j)) c.args.log.now.site c.loop-j.j (2 * c.args.log.now.f + 2) c.loop-j-test.true w.if-j-log.false in
          record { sends = rw (w.out-is, e) c.loop-j.invariant.sends; chosen = rw w.out-is c.loop-j.invariant.chosen }
    ]
