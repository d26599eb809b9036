use Rattle.std.proofs.Common.{◌≡◌, ◌-◌}
use Rattle.us_wire.specs.Fields.{value_at}
use Rattle.us_wire.specs.Decoders.{many_at}
use Rattle.us_wire.proofs.Combined.{in_front}
use Rattle.us_fields.proofs.values.many_values_in.Given as goal

abbrev pub invariant-loop-i : goal.invariant-loop-i
invariant-loop-i l = many_at value_at l.fn.count l.input l.fn.at ≡ in_front l.values (many_at value_at (l.fn.count - l.i) l.input l.next)
