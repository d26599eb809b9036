use Rattle.std.proofs.Common.{◌≡◌, map}
use Rattle.std.specs.Map.Iter.{deref_pair}
use Rattle.us_sets.specs.Keys.{keys_where}
use Rattle.us_sets.specs.Marks.{is_positive}
use Rattle.us_sets.proofs.marks.Marks.live.Given as goal

abbrev pub invariant-loop-tag : goal.invariant-loop-tag
invariant-loop-tag l = l.live ≡ keys_where is_positive (map deref_pair l.yielded)
