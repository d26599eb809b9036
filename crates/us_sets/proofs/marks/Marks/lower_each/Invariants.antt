use Rattle.std.proofs.Common.{◌≡◌, take}
use Rattle.us_sets.specs.Room.{lowered}
use Rattle.us_sets.proofs.marks.Marks.lower_each.Given as goal

abbrev pub invariant-loop-tag : goal.invariant-loop-tag
invariant-loop-tag l = l.self ≡ lowered l.fn.self (take l.tag-index l.tags)
