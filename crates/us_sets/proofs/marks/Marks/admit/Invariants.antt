use Rattle.std.proofs.Common.{◌≡◌, take}
use Rattle.us_sets.specs.Room.{opened}
use Rattle.us_sets.proofs.marks.Marks.admit.Given as goal

abbrev pub invariant-loop-tag : goal.invariant-loop-tag
invariant-loop-tag l = l.self ≡ opened l.fn.self (take l.tag-index l.tags)
