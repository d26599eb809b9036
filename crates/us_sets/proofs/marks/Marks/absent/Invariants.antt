use Rattle.std.proofs.Common.{◌≡◌, take}
use Rattle.us_sets.specs.Room.{missing, AreHigh}
use Rattle.us_sets.proofs.marks.Marks.absent.Given as goal

abbrev pub invariant-loop-tag : goal.invariant-loop-tag
invariant-loop-tag l = (l.absent ≡ missing l.self (take l.tag-index l.tags)) × AreHigh l.self (take l.tag-index l.tags)
