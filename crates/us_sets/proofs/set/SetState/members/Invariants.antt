use Rattle.std.proofs.Common.{◌≡◌, map}
use Rattle.std.specs.Map.Iter.{deref_pair}
use Rattle.us_sets.specs.Keys.{keys_where}
use Rattle.us_sets.specs.Marks.{is_live}
use Rattle.us_sets.proofs.set.SetState.members.Given as goal

abbrev pub invariant-loop-value : goal.invariant-loop-value
invariant-loop-value l = l.members ≡ keys_where is_live (map deref_pair l.yielded)
