use Rattle.std.proofs.Common.{◌≡◌, ◌++◌, take}
use Rattle.us_wire.specs.Fields.{value}
use Rattle.us_wire.specs.Decoders.{many_encoding}
use Rattle.us_fields.proofs.write.put_values.Given as goal

abbrev pub invariant-loop-value : goal.invariant-loop-value
invariant-loop-value l = l.out.items ≡ l.initial.out.items ++ many_encoding value (take l.value-index l.values)
