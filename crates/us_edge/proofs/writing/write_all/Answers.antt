use Rattle.std.proofs.Common.{arith, sym}
use Rattle.std.proofs.lemmas.Bool.{eqb-true}
use Rattle.std.proofs.lemmas.Result.{err_from_is_err_and}
use Rattle.us_edge.proofs.Loops.{begins, goes_on, stops, ends, rose_later}
use Rattle.us_edge.proofs.writing.write_all.Goals as goal

pub loop-rest-init : goal.loop-rest-init
loop-rest-init g c = record {
  written = begins (g.K.Sink.written c.args.sink.now) c.args.bytes.now;
  counts = omega arith;
}

pub loop-rest-preserved : goal.loop-rest-preserved
loop-rest-preserved g c = record {
  written = goes_on (g.K.Sink.written c.args.sink.now) (g.K.Sink.written c.loop-rest.sink) (g.K.Sink.written c.write.new.self) c.args.bytes.now c.loop-rest.rest.now c.in_ok-taken.taken c.loop-rest.invariant.written c.in_ok-taken.ensures.bytes;
  counts = omega (arith, c.in_ok-taken.ensures.counts, c.loop-rest.invariant.counts);
}

pub returns : goal.returns
returns g c = record {
  ok = ends (g.K.Sink.written c.args.sink.now) (g.K.Sink.written c.loop-rest.sink) c.args.bytes.now c.loop-rest.rest.now c.loop-rest.invariant.written (eqb-true _ _ (sym (c.loop-rest-test.ensures {u = tt})));
  err = tt;
  cause = tt;
  counts = c.loop-rest.invariant.counts;
}

pub returns-in_err-taken : goal.returns-in_err-taken
returns-in_err-taken g c =
    let p = err_from_is_err_and c.from_residual.result c.from_residual.ensures.1 in
    rw p.1 (record {
      ok = tt;
      err = stops (g.K.Sink.written c.args.sink.now) (g.K.Sink.written c.loop-rest.sink) (g.K.Sink.written c.write.new.self) c.args.bytes.now c.loop-rest.rest.now c.loop-rest.invariant.written c.in_err-taken.ensures.err;
      cause = rose_later _ _ _ c.loop-rest.invariant.counts c.in_err-taken.ensures.counts c.in_err-taken.ensures.cause;
      counts = omega (arith, c.in_err-taken.ensures.counts, c.loop-rest.invariant.counts);
    })
