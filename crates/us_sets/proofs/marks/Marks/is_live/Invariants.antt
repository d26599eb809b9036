use Rattle.std.proofs.Common.{◌≡◌, map, false}
use Rattle.std.specs.List.{list_any}
use Rattle.std.specs.Map.Iter.{deref}
use Rattle.us_sets.specs.Marks.{is_positive}
use Rattle.us_sets.proofs.marks.Marks.is_live.Given as goal

abbrev pub invariant-loop-count : goal.invariant-loop-count
invariant-loop-count l = list_any is_positive (map deref l.yielded) ≡ false
