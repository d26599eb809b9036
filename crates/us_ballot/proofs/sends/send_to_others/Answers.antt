use Rattle.std.proofs.Common.{◌+◌, ◌*◌}
use Rattle.us_ballot.proofs.Sending.{skip_own, send_next}
use Rattle.us_ballot.proofs.sends.send_to_others.Goals as goal
use Rattle.us_ballot.proofs.sends.send_to_others.Goals.{then-j-log+in_ok-copy_message+in_ok-send, else-j-log}

pub loop-j-preserved : goal.loop-j-preserved
loop-j-preserved g c =
    elim c.if-j-log.branch [
      | then-j-log+in_ok-copy_message+in_ok-send w ↦
          let e = send_next c.loop-j.out.sends c.args.log.now.site c.args.message.now c.loop-j.j (2 * c.args.log.now.f + 2) c.loop-j-test.true w.if-j-log.true in
          record {
            sends = rw (w.out-is, w.in_ok-send.ensures, w.in_ok-copy_message.ensures, e) c.loop-j.invariant.sends;
            chosen = rw (w.out-is, w.in_ok-send.ensures) c.loop-j.invariant.chosen;
          }
      | else-j-log w ↦
          let e = skip_own c.args.log.now.site c.args.message.now c.loop-j.j (2 * c.args.log.now.f + 2) c.loop-j-test.true w.if-j-log.false in
          record { sends = rw (w.out-is, e) c.loop-j.invariant.sends; chosen = rw w.out-is c.loop-j.invariant.chosen }
    ]
