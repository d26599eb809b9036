use Rattle.std.proofs.Common.{◌++◌}
use Rattle.std.proofs.lemmas.Result.{err_from_is_err_and, on_err_weaker}
use Rattle.std.specs.List.{flat_map}
use Rattle.us_edge.proofs.Appending.{Appends-then, AppendsPrefix-more, AppendsPrefix-then}
use Rattle.us_edge.specs.Streams.{Appends, AppendsPrefix}
use Rattle.us_report.specs.Text.{entry_text, loose_text, link_text, refusal_text, waiting_text}
use Rattle.us_report.proofs.writing.write_lines.Goals as goal

pub returns-in_err-write_each-clause-err : goal.returns-in_err-write_each-clause-err
returns-in_err-write_each-clause-err g c =
    let s0 = g.K.Sink.written c.args.sink.now in
    let s1 = g.K.Sink.written c.write_each.new.sink in
    let t1 = flat_map entry_text c.args.report.now.execution.entries in
    let p = err_from_is_err_and c.from_residual.result c.from_residual.ensures.1 in
    let h1 : AppendsPrefix s0 s1 t1 = rw c.as_slice.ensures at c.in_err-write_each.ensures.err in
    rw p.1 (AppendsPrefix-more _ _ _ _ (AppendsPrefix-more _ _ _ _ (AppendsPrefix-more _ _ _ _ (AppendsPrefix-more _ _ _ _ h1))))

pub returns-in_err-write_each-2-clause-err : goal.returns-in_err-write_each-2-clause-err
returns-in_err-write_each-2-clause-err g c =
    let s0 = g.K.Sink.written c.args.sink.now in
    let s1 = g.K.Sink.written c.write_each.new.sink in
    let t1 = flat_map entry_text c.args.report.now.execution.entries in
    let s2 = g.K.Sink.written c.write_each-2.new.sink in
    let t2 = flat_map loose_text c.args.report.now.execution.loose in
    let h1 : Appends s0 s1 t1 = rw c.as_slice.ensures at c.in_ok-write_each.ensures.ok in
    let p = err_from_is_err_and c.from_residual-in_err-write_each-2.result c.from_residual-in_err-write_each-2.ensures.1 in
    let h2 : AppendsPrefix s1 s2 t2 = rw c.as_slice-2.ensures at c.in_err-write_each-2.ensures.err in
    rw p.1 (AppendsPrefix-more _ _ _ _ (AppendsPrefix-more _ _ _ _ (AppendsPrefix-more _ _ _ _ (AppendsPrefix-then s0 s1 s2 (t1) t2 h1 h2))))

pub returns-in_err-write_each-3-clause-err : goal.returns-in_err-write_each-3-clause-err
returns-in_err-write_each-3-clause-err g c =
    let s0 = g.K.Sink.written c.args.sink.now in
    let s1 = g.K.Sink.written c.write_each.new.sink in
    let t1 = flat_map entry_text c.args.report.now.execution.entries in
    let s2 = g.K.Sink.written c.write_each-2.new.sink in
    let t2 = flat_map loose_text c.args.report.now.execution.loose in
    let s3 = g.K.Sink.written c.write_each-3.new.sink in
    let t3 = flat_map link_text c.args.report.now.execution.links in
    let h1 : Appends s0 s1 t1 = rw c.as_slice.ensures at c.in_ok-write_each.ensures.ok in
    let h2 : Appends s1 s2 t2 = rw c.as_slice-2.ensures at c.in_ok-write_each-2.ensures.ok in
    let p = err_from_is_err_and c.from_residual-in_err-write_each-3.result c.from_residual-in_err-write_each-3.ensures.1 in
    let h3 : AppendsPrefix s2 s3 t3 = rw c.as_slice-3.ensures at c.in_err-write_each-3.ensures.err in
    rw p.1 (AppendsPrefix-more _ _ _ _ (AppendsPrefix-more _ _ _ _ (AppendsPrefix-then s0 s2 s3 (t1 ++ t2) t3 (Appends-then s0 s1 s2 (t1) t2 h1 h2) h3)))

pub returns-in_err-write_each-4-clause-err : goal.returns-in_err-write_each-4-clause-err
returns-in_err-write_each-4-clause-err g c =
    let s0 = g.K.Sink.written c.args.sink.now in
    let s1 = g.K.Sink.written c.write_each.new.sink in
    let t1 = flat_map entry_text c.args.report.now.execution.entries in
    let s2 = g.K.Sink.written c.write_each-2.new.sink in
    let t2 = flat_map loose_text c.args.report.now.execution.loose in
    let s3 = g.K.Sink.written c.write_each-3.new.sink in
    let t3 = flat_map link_text c.args.report.now.execution.links in
    let s4 = g.K.Sink.written c.write_each-4.new.sink in
    let t4 = flat_map refusal_text c.args.report.now.refused in
    let h1 : Appends s0 s1 t1 = rw c.as_slice.ensures at c.in_ok-write_each.ensures.ok in
    let h2 : Appends s1 s2 t2 = rw c.as_slice-2.ensures at c.in_ok-write_each-2.ensures.ok in
    let h3 : Appends s2 s3 t3 = rw c.as_slice-3.ensures at c.in_ok-write_each-3.ensures.ok in
    let p = err_from_is_err_and c.from_residual-in_err-write_each-4.result c.from_residual-in_err-write_each-4.ensures.1 in
    let h4 : AppendsPrefix s3 s4 t4 = rw c.as_slice-4.ensures at c.in_err-write_each-4.ensures.err in
    rw p.1 (AppendsPrefix-more _ _ _ _ (AppendsPrefix-then s0 s3 s4 (t1 ++ t2 ++ t3) t4 (Appends-then s0 s2 s3 (t1 ++ t2) t3 (Appends-then s0 s1 s2 (t1) t2 h1 h2) h3) h4))

pub returns-clause-err : goal.returns-clause-err
returns-clause-err g c =
    let s0 = g.K.Sink.written c.args.sink.now in
    let s1 = g.K.Sink.written c.write_each.new.sink in
    let t1 = flat_map entry_text c.args.report.now.execution.entries in
    let s2 = g.K.Sink.written c.write_each-2.new.sink in
    let t2 = flat_map loose_text c.args.report.now.execution.loose in
    let s3 = g.K.Sink.written c.write_each-3.new.sink in
    let t3 = flat_map link_text c.args.report.now.execution.links in
    let s4 = g.K.Sink.written c.write_each-4.new.sink in
    let t4 = flat_map refusal_text c.args.report.now.refused in
    let s5 = g.K.Sink.written c.write_each-5.new.sink in
    let t5 = flat_map waiting_text c.args.report.now.waiting in
    let h1 : Appends s0 s1 t1 = rw c.as_slice.ensures at c.in_ok-write_each.ensures.ok in
    let h2 : Appends s1 s2 t2 = rw c.as_slice-2.ensures at c.in_ok-write_each-2.ensures.ok in
    let h3 : Appends s2 s3 t3 = rw c.as_slice-3.ensures at c.in_ok-write_each-3.ensures.ok in
    let h4 : Appends s3 s4 t4 = rw c.as_slice-4.ensures at c.in_ok-write_each-4.ensures.ok in
    on_err_weaker c.write_each-5.result (λ (part : AppendsPrefix s4 s5 t5). (AppendsPrefix-then s0 s4 s5 (t1 ++ t2 ++ t3 ++ t4) t5 (Appends-then s0 s3 s4 (t1 ++ t2 ++ t3) t4 (Appends-then s0 s2 s3 (t1 ++ t2) t3 (Appends-then s0 s1 s2 (t1) t2 h1 h2) h3) h4) part)) (rw c.as_slice-5.ensures at c.write_each-5.ensures.err)
