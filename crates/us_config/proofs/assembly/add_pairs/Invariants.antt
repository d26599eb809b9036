use Rattle.std.proofs.Common.{◌≡◌, ◌++◌, take}
use Rattle.us_config.specs.Assembly.{pairs_in}
use Rattle.us_config.proofs.assembly.add_pairs.Given as goal

abbrev pub invariant-loop-one : goal.invariant-loop-one
invariant-loop-one l = l.pairs.items ≡ l.fn.pairs.items ++ take l.one-index (pairs_in l.fn.space)
