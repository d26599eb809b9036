use Rattle.std.proofs.Common.{◌≡◌, take}
use Rattle.us_sets.specs.Room.{swept}
use Rattle.us_sets.proofs.marks.Marks.sweep_each.Given as goal

abbrev pub invariant-loop-tag : goal.invariant-loop-tag
invariant-loop-tag l = l.self ≡ swept l.fn.self (take l.tag-index l.tags)
