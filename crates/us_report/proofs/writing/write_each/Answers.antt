use Rattle.std.proofs.lemmas.Result.{err_from_is_err_and}
use Rattle.us_report.proofs.WritingLemmas.{stops_at}
use Rattle.us_report.proofs.writing.write_each.Goals as goal

pub returns-in_err-write_one-clause-err : goal.returns-in_err-write_one-clause-err
returns-in_err-write_one-clause-err g c =
    let p = err_from_is_err_and c.from_residual.result c.from_residual.ensures.1 in
    rw p.1 (stops_at g.T.Lines.text (g.K.Sink.written c.args.sink.now) (g.K.Sink.written c.loop-item.sink) (g.K.Sink.written c.write_one.new.sink) c.args.items.now c.loop-item.item-index c.item-item.result c.loop-item-test.true c.item-item.is c.loop-item.invariant.written c.in_err-write_one.ensures.err)
