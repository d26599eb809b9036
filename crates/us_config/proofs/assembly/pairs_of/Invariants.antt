use Rattle.std.proofs.Common.{◌≡◌, take}
use Rattle.us_config.specs.Assembly.{pairs_of}
use Rattle.us_config.proofs.assembly.pairs_of.Given as goal

abbrev pub invariant-loop-space : goal.invariant-loop-space
invariant-loop-space l = l.pairs.items ≡ pairs_of (take l.space-index l.spaces)
