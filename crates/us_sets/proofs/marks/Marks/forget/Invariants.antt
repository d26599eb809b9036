use Rattle.std.proofs.Common.{◌≡◌, take}
use Rattle.std.specs.FinMap.{from_entries}
use Rattle.us_sets.specs.Room.{forgotten}
use Rattle.us_sets.proofs.marks.Marks.forget.Given as goal

abbrev pub invariant-loop-tag : goal.invariant-loop-tag
invariant-loop-tag l = from_entries l.self-inside.counts.entries ≡ forgotten l.fn.self (take l.tag-index l.tags)
