use Rattle.std.proofs.Common.{◌≡◌, ◌++◌, take}
use Rattle.us_wire.specs.Decoders.{many_encoding}
use Rattle.us_fields.proofs.list.put_many.Given as goal

abbrev pub invariant-loop-item : goal.invariant-loop-item
invariant-loop-item g l = l.out.items ≡ l.initial.out.items ++ many_encoding (g.T.Field.encoding l.shape) (take l.item-index l.items)
