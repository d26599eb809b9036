use Rattle.std.proofs.lemmas.Result.{err_from_is_err_and, on_ok_weaker, on_err_weaker}
use Rattle.us_edge.proofs.Appending.{Appends-then, AppendsPrefix-more, AppendsPrefix-then}
use Rattle.us_edge.specs.Streams.{Appends, AppendsPrefix}
use Rattle.us_report.specs.Text.{lines_text, summary_text}
use Rattle.us_report.proofs.writing.write_report.Goals as goal
use Rattle.us_report.proofs.writing.write_report.Goals.{then-not-short+in_ok-write_lines, else-not-short}

pub returns-in_err-write_lines-clause-err : goal.returns-in_err-write_lines-clause-err
returns-in_err-write_lines-clause-err g c =
    let p = err_from_is_err_and c.from_residual.result c.from_residual.ensures.1 in
    rw (p.1, c.if-not-short.true) (AppendsPrefix-more _ _ _ _ c.in_err-write_lines.ensures.err)

pub returns-clause-ok : goal.returns-clause-ok
returns-clause-ok g c =
    let before = g.K.Sink.written c.args.sink.now in
    let after = g.K.Sink.written c.write_one.new.sink in
    let report = c.args.report.now in
    elim c.if-not-short.branch [
      | then-not-short+in_ok-write_lines w ↦
          let between = g.K.Sink.written w.write_lines.new.sink in
          rw w.if-not-short.true (on_ok_weaker c.write_one.result
          (λ (last : Appends between after (summary_text report)). Appends-then before between after (lines_text report) (summary_text report) w.in_ok-write_lines.ensures.ok last)
          (rw w.sink-is at c.write_one.ensures.ok))
      | else-not-short w ↦ rw w.if-not-short.false (rw w.sink-is at c.write_one.ensures.ok)
    ]

pub returns-clause-err : goal.returns-clause-err
returns-clause-err g c =
    let before = g.K.Sink.written c.args.sink.now in
    let after = g.K.Sink.written c.write_one.new.sink in
    let report = c.args.report.now in
    elim c.if-not-short.branch [
      | then-not-short+in_ok-write_lines w ↦
          let between = g.K.Sink.written w.write_lines.new.sink in
          rw w.if-not-short.true (on_err_weaker c.write_one.result
          (λ (part : AppendsPrefix between after (summary_text report)). AppendsPrefix-then before between after (lines_text report) (summary_text report) w.in_ok-write_lines.ensures.ok part)
          (rw w.sink-is at c.write_one.ensures.err))
      | else-not-short w ↦ rw w.if-not-short.false (rw w.sink-is at c.write_one.ensures.err)
    ]
