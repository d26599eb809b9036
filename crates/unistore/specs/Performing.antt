-- What lines come to, and the report at their end.
use Rattle.std.specs.Prelude.{◌≡◌, List, false}
use Rattle.us_report.specs.declared.report.Report.{Report}
use Rattle.us_model.specs.declared.settings.Settings.{Settings}
use Rattle.us_model.specs.Worlds.{World, waits_of}
use Rattle.us_model.specs.Executions.{execution_of, refusals_of}
use Rattle.us_world.specs.declared.fault.Numbered.{Numbered}
use Rattle.us_world.specs.Limits.{IsWorldOf, lines_of}
use Rattle.us_world.specs.Lines.{Performed, HaveWorld}

-- THE REPORT OF A WORLD
abbrev pub report_of : World → Report
report_of w = record { execution = execution_of w.notes; refused = refusals_of w.notes; waiting = waits_of w.sites }

-- the report is that of the world of the lines
pub record IsReportOf (settings : Settings) (lines : List Numbered) (report : Report) : Type 0 where
  pub world : World
  pub reached : IsWorldOf settings (lines_of lines) world
  pub is : report ≡ report_of world

-- a world of these settings performed all the lines
pub record ArePerformed (settings : Settings) (lines : List Numbered) (world : Performed) : Type 0 where
  pub settings_are : world.settings ≡ settings
  pub lines_are : world.lines ≡ lines_of lines
  pub runs : world.stopped ≡ false
  pub reached : HaveWorld settings lines
