use Rattle.std.proofs.Common.{◌≡◌, ◌++◌, take}
use Rattle.std.specs.Int.{w64, to_be_bytes}
use Rattle.us_wire.specs.Decoders.{many_encoding}
use Rattle.us_migrate.proofs.write.put_entries.Given as goal

abbrev pub invariant-loop-i : goal.invariant-loop-i
invariant-loop-i l = l.out.items ≡ l.initial.out.items ++ many_encoding (to_be_bytes w64) (take l.i l.vector)
