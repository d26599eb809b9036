use Rattle.std.proofs.Common.{arith, ◌<◌, ◌+◌, ℕ, List, take, drop, length, length-take, ap, ◌∙◌}
use Rattle.std.proofs.lemmas.List.{take_at}
use Rattle.std.proofs.lemmas.Result.{err_from_is_err_and}
use Rattle.us_edge.proofs.Appending.{Gives-nothing}
use Rattle.us_edge.proofs.Loops.{reads_on, reads_nothing, reads_some, reads_too_much, failed_reading}
use Rattle.us_edge.proofs.reading.read_all.Goals as goal

pub loop-bytes-init : goal.loop-bytes-init
loop-bytes-init g c = record {
  given = rw c.new-bytes.ensures.items (Gives-nothing (g.S.Source.left c.args.source.now));
  within = omega (arith, c.new-bytes.ensures.len);
  room = c.in_ok-buffer.ensures.len;
  counts = omega arith;
}

pub returns-in_err-came-clause-err : goal.returns-in_err-came-clause-err
returns-in_err-came-clause-err g c =
    let p = err_from_is_err_and c.from_residual-in_err-came.result c.from_residual-in_err-came.ensures.1 in
    rw p.1 (failed_reading (g.S.Source.left c.args.source.now) (g.S.Source.left c.loop-bytes.source) (g.S.Source.left c.read.new.self) c.loop-bytes.bytes.items c.loop-bytes.invariant.given c.in_err-came.ensures.err)

pub returns-then-came-eq0-clause-ok : goal.returns-then-came-eq0-clause-ok
returns-then-came-eq0-clause-ok g c =
    reads_nothing (g.S.Source.left c.args.source.now) (g.S.Source.left c.loop-bytes.source) (g.S.Source.left c.read.new.self) c.loop-bytes.bytes.items c.read.new.into c.in_ok-came.came c.loop-bytes.invariant.given c.in_ok-came.ensures.bytes c.if-came-eq0.true

pub returns-then-came-limit-clause-too_long : goal.returns-then-came-limit-clause-too_long
returns-then-came-limit-clause-too_long g c =
    let before = g.S.Source.left c.args.source.now in
    let now = g.S.Source.left c.loop-bytes.source in
    let after = g.S.Source.left c.read.new.self in
    let more : c.args.limit < length c.loop-bytes.bytes.items + c.in_ok-came.came = omega (arith, c.if-came-limit.true, c.len.ensures, c.loop-bytes.bytes.ok.0) in
    λ e. reads_too_much c.args.limit before now after c.loop-bytes.bytes.items c.read.new.into c.in_ok-came.came c.loop-bytes.invariant.given c.in_ok-came.ensures.bytes c.in_ok-came.ensures.room more

pub returns-then-came-limit-clause-err : goal.returns-then-came-limit-clause-err
returns-then-came-limit-clause-err g c =
    reads_some (g.S.Source.left c.args.source.now) (g.S.Source.left c.loop-bytes.source) (g.S.Source.left c.read.new.self) c.loop-bytes.bytes.items c.read.new.into c.in_ok-came.came c.loop-bytes.invariant.given c.in_ok-came.ensures.bytes

pub loop-bytes-preserved : goal.loop-bytes-preserved
loop-bytes-preserved g c = record {
  given = reads_on (g.S.Source.left c.args.source.now) (g.S.Source.left c.loop-bytes.source) (g.S.Source.left c.read.new.self) c.loop-bytes.bytes.items c.read.new.into (take c.in_ok-came.came c.deref.result.now) c.extend_from_slice.new.self.items c.in_ok-came.came c.loop-bytes.invariant.given c.in_ok-came.ensures.bytes (ap (λ (xs : List ℕ). take c.in_ok-came.came xs) (c.deref.ensures.value ∙ take_at c.read.new.into (drop (length c.read.new.into) c.loop-bytes.buffer.items) c.loop-bytes.buffer.len (omega (arith, c.read.auto.into, c.as_mut_slice.ensures.len)))) c.in_ok-extend_from_slice.ensures.items;
  within = omega (arith, c.in_ok-extend_from_slice.ensures.len, c.if-came-limit.false, c.len.ensures, c.loop-bytes.invariant.within, length-take c.in_ok-came.came c.deref.result.now);
  room = c.loop-bytes.invariant.room;
  counts = omega (arith, c.in_ok-came.ensures.counts, c.loop-bytes.invariant.counts);
}

pub returns-in_err-extend_from_slice-clause-err : goal.returns-in_err-extend_from_slice-clause-err
returns-in_err-extend_from_slice-clause-err g c =
    let p = err_from_is_err_and c.from_residual-in_err-extend_from_slice.result c.from_residual-in_err-extend_from_slice.ensures.1 in
    rw p.1 (reads_some (g.S.Source.left c.args.source.now) (g.S.Source.left c.loop-bytes.source) (g.S.Source.left c.read.new.self) c.loop-bytes.bytes.items c.read.new.into c.in_ok-came.came c.loop-bytes.invariant.given c.in_ok-came.ensures.bytes)
