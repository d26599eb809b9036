-- The text of a fault.
use Rattle.std.specs.Prelude.{ℕ, List, codes}
use Rattle.us_schedule.specs.declared.fault.LineFault.{LineFault}
use Rattle.us_schedule.specs.declared.fault.LineFault.TheVariants.{BadWord, BadNumber, BadHex, OutOfRange, Memory}

-- what a fault prints
abbrev pub fault_text : LineFault → List ℕ
fault_text BadWord = codes "BadWord"
fault_text BadNumber = codes "BadNumber"
fault_text BadHex = codes "BadHex"
fault_text OutOfRange = codes "OutOfRange"
fault_text Memory = codes "out of memory"
