use Rattle.std.proofs.Common.{◌≡◌, ◌∙◌, List, subst}
use Rattle.us_model.specs.declared.settings.Settings.{Settings}
use Rattle.us_world.specs.declared.fault.Numbered.{Numbered}
use Rattle.std.specs.Prelude.{Result, Ok, Err, IfOk}
use Rattle.us_exec.specs.Consistency.{IsSound}
use Rattle.us_report.specs.declared.report.Report.{Report}
use Rattle.us_world.specs.declared.fault.LinesFault.{LinesFault}
use Rattle.unistore.specs.declared.schedule.Script.{Script}
use Rattle.unistore.specs.Performing.{IsReportOf as IsWorldReport}
use Rattle.unistore.specs.Schedule.{settings_of}
use Rattle.unistore.specs.Report.{IsReportOf}
use Rattle.unistore.proofs.report.report_of_script.Goals as goal

both : (script : Script) (result : Result Report LinesFault) → IfOk result (IsWorldReport (settings_of script.config) script.lines)
    → IfOk result (λ report. IsSound script.config.conflicts report.execution)
    → IfOk result (IsReportOf script)
both script (Ok report) is sound = record { is = is; execution = sound }
both script (Err e) is sound = tt

pub returns-clause-report : goal.returns-clause-report
returns-clause-report c =
    let parts = c.into_parts-settings in
    let lines : c.as_slice.result.now ≡ c.args.script.lines = c.as_slice.ensures ∙ parts.ensures.lines in
    let is : IfOk c.report_of_lines.result (IsWorldReport (settings_of c.args.script.config) c.args.script.lines) =
    subst (λ (s : Settings). IfOk c.report_of_lines.result (IsWorldReport s c.args.script.lines)) parts.ensures.settings
    (subst (λ (ls : List Numbered). IfOk c.report_of_lines.result (IsWorldReport parts.result.0 ls)) lines c.report_of_lines.ensures.report)
    in
    let sound : IfOk c.report_of_lines.result (λ report. IsSound c.args.script.config.conflicts report.execution) =
    subst (λ (s : Settings). IfOk c.report_of_lines.result (λ report. IsSound s.conflicts report.execution)) parts.ensures.settings
    c.report_of_lines.ensures.sound
    in
    both c.args.script c.report_of_lines.result is sound
