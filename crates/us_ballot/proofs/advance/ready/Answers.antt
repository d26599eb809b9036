use Rattle.std.proofs.Common.{◌≡◌, ◌<◌, ◌≤◌, ◌+◌, sym, ap, ◌∙◌, arith}
use Rattle.us_ballot_model.specs.Ballots.{count, backers}
use Rattle.us_ballot.proofs.Ready.{ready_less, ready_here}
use Rattle.us_ballot.proofs.advance.ready.Goals as goal

pub loop-k-preserved : goal.loop-k-preserved
loop-k-preserved g c =
    let e : backers c.args.acks.now (c.len-chosen.result + c.loop-k.k) ≡ backers c.args.acks.now (count c.args.log.now + c.loop-k.k) = ap (λ n. backers c.args.acks.now (n + c.loop-k.k)) c.len-chosen.ensures in
    let few : backers c.args.acks.now (count c.args.log.now + c.loop-k.k) < c.args.log.now.f = omega arith in
    record {
      same = ready_less c.args.log.now.f c.args.acks.now (count c.args.log.now) c.loop-k.k c.loop-k-test.true few ∙ c.loop-k.invariant.same;
      within = omega arith;
    }

pub returns-else-backers-from-clause-value : goal.returns-else-backers-from-clause-value
returns-else-backers-from-clause-value g c =
    let e : backers c.args.acks.now (c.len-chosen.result + c.loop-k.k) ≡ backers c.args.acks.now (count c.args.log.now + c.loop-k.k) = ap (λ n. backers c.args.acks.now (n + c.loop-k.k)) c.len-chosen.ensures in
    let many : c.args.log.now.f ≤ backers c.args.acks.now (count c.args.log.now + c.loop-k.k) = omega arith in
    sym (ready_here c.args.log.now.f c.args.acks.now (count c.args.log.now) c.loop-k.k c.loop-k-test.true many) ∙ c.loop-k.invariant.same
