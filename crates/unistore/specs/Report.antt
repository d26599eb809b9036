-- The report of what a text asks for, and what holds of it.
use Rattle.std.specs.Prelude.{ℕ}
use Rattle.us_exec.specs.Consistency.{IsSound}
use Rattle.us_report.specs.declared.report.Report.{Report}
use Rattle.us_world.specs.declared.fault.LinesFault.{LinesFault}
use Rattle.us_world.specs.declared.fault.WorldFault.{WorldFault}
use Rattle.us_world.specs.Limits.{IsPassedAt}
use Rattle.us_world.specs.Lines.{HaveWorld as LinesHaveWorld, IsLimitOf as IsLimitOfLines}
use Rattle.unistore.specs.Performing.{IsReportOf as IsWorldReport}
use Rattle.unistore.specs.declared.schedule.Script.{Script}
use Rattle.unistore.specs.Schedule.{settings_of}

-- the run over the events of the lines reaches a world within the limits
abbrev pub HaveWorld : Script → Type 0
HaveWorld script = LinesHaveWorld (settings_of script.config) script.lines

-- they pass a limit at the line of this number
abbrev pub PassAt : Script → ℕ → WorldFault → Type 0
PassAt script number which = IsPassedAt (settings_of script.config) script.lines number which

-- they pass that limit, unless memory ran out
abbrev pub IsLimitOf : Script → LinesFault → Type 0
IsLimitOf script e = IsLimitOfLines (settings_of script.config) script.lines e

-- THE HEADLINE: the report is that of the world which the machine's run over the events of the lines reaches, no limit is passed,
-- and its execution is well formed, and consistent by the conflicts that the configuration declares
pub record IsReportOf (script : Script) (report : Report) : Type 0 where
  pub is : IsWorldReport (settings_of script.config) script.lines report
  pub execution : IsSound script.config.conflicts report.execution
