use Rattle.std.proofs.Common.{take, ◌<◌, ◌^◌}
use Rattle.us_schedule.proofs.Digits.{IsValue}
use Rattle.us_schedule.proofs.numbers.decimal_value.Given as goal

abbrev pub invariant-loop-digit : goal.invariant-loop-digit
invariant-loop-digit l = IsValue (take l.digit-index l.digits) l.value × (l.value < 2 ^ 64)
