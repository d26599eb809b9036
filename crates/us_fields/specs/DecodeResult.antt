-- What a decoder answers.
use Rattle.std.specs.Prelude.{◌≡◌, Option, Some, None, Result, Ok, Err}
use Rattle.us_fields.specs.declared.fault.DecodeFault.{DecodeFault}
use Rattle.us_fields.specs.declared.fault.DecodeFault.TheVariants.{Malformed, Memory}

-- it is what these bytes are, unless memory ran out
abbrev pub Tells : {X : Type 0} → Result X DecodeFault → Option X → Type 0
Tells (Ok x) read = read ≡ Some x
Tells (Err Malformed) read = read ≡ None
Tells (Err Memory) read = Unit {0}
