-- The text of a fault.
use Rattle.std.specs.Prelude.{ℕ, List, codes}
use Rattle.us_fields.specs.declared.fault.DecodeFault.{DecodeFault}
use Rattle.us_fields.specs.declared.fault.DecodeFault.TheVariants.{Malformed, Memory}

-- what a fault prints
abbrev pub fault_text : DecodeFault → List ℕ
fault_text Malformed = codes "malformed frame"
fault_text Memory = codes "out of memory"
