use Rattle.std.proofs.Common.{◌≡◌, ◌-◌}
use Rattle.us_wire.specs.Decoders.{many_at}
use Rattle.us_wire.proofs.Combined.{in_front}
use Rattle.us_fields.proofs.list.many_in.Given as goal

abbrev pub invariant-loop-i : goal.invariant-loop-i
invariant-loop-i g l = many_at (g.T.Field.decoder l.shape) l.fn.count l.input l.fn.at ≡ in_front l.items (many_at (g.T.Field.decoder l.shape) (l.fn.count - l.i) l.input l.next)
