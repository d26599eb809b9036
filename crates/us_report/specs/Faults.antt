-- The text of a fault.
use Rattle.std.specs.Prelude.{ℕ, List, codes}
use Rattle.us_report.specs.declared.report.ReportFault.{ReportFault}
use Rattle.us_report.specs.declared.report.ReportFault.TheVariants.{Failed, Memory}

-- what a fault prints
abbrev pub fault_text : ReportFault → List ℕ
fault_text Failed = codes "the report was not written"
fault_text Memory = codes "out of memory"
