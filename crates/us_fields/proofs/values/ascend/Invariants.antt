use Rattle.std.proofs.Common.{◌≡◌, ◌-◌, drop}
use Rattle.us_fields.specs.FieldDecoders.{is_ascending}
use Rattle.us_fields.proofs.values.ascend.Given as goal

abbrev pub invariant-loop-i : goal.invariant-loop-i
invariant-loop-i l = is_ascending l.values ≡ is_ascending (drop (l.i - 1) l.values)
