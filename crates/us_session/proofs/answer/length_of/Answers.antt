use Rattle.std.proofs.Common.{◌+◌, List, arith}
use Rattle.std.proofs.lemmas.List.{at_drop_all}
use Rattle.us_value.specs.declared.item.Write.{Write}
use Rattle.us_value.specs.Lengths.{capped}
use Rattle.us_model.specs.Sessions.{writes_length}
use Rattle.us_session.proofs.answer.length_of.Goals as goal

pub returns : goal.returns
returns c =
    let nothing_left = at_drop_all (λ (xs : List Write). capped (c.loop-write.length + writes_length xs)) c.args.writes.now
    c.loop-write.write-index c.loop-write-test.false in
    let kept = c.loop-write.invariant in
    omega (arith, nothing_left, kept.0, kept.1)
