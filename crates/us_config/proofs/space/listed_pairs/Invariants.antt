use Rattle.std.proofs.Common.{◌≡◌, []}
use Rattle.toml.specs.View.{array_view}
use Rattle.us_config.specs.Values.{gathered, each_by}
use Rattle.us_config.specs.Keywords.{pair_for}
use Rattle.us_config.specs.declared.fault.Key.TheVariants.{SpaceConflicts}
use Rattle.us_config.proofs.Lists.{left}
use Rattle.us_config.proofs.space.listed_pairs.Given as goal

abbrev pub invariant-loop-value : goal.invariant-loop-value
invariant-loop-value l = gathered (each_by SpaceConflicts (pair_for l.kind)) l.pairs (left l.value-items l.value-index) ≡ gathered (each_by SpaceConflicts (pair_for l.kind)) [] (array_view l.array)
