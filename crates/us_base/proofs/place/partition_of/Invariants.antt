use Rattle.std.proofs.Common.{◌≡◌, ◌≤◌, ◌+◌, ◌*◌, take}
use Rattle.us_base.specs.Vector.{sum_of}
use Rattle.us_base.proofs.place.partition_of.Given as goal

abbrev pub invariant-loop-byte : goal.invariant-loop-byte
invariant-loop-byte l = (l.sum ≡ l.space + sum_of (take l.byte-index l.id)) × (l.sum ≤ 255 + l.byte-index * 255)
