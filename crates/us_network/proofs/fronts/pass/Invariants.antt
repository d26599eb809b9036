use Rattle.std.proofs.Common.{◌-◌, length}
use Rattle.us_network.specs.Packets.{AllPassed}
use Rattle.us_network.proofs.fronts.pass.Given as goal

-- all so far were delivered
abbrev pub invariant-loop-passed : goal.invariant-loop-passed
invariant-loop-passed l = AllPassed l.sent l.passed l.places

abbrev pub decreases-loop-passed : goal.decreases-loop-passed
decreases-loop-passed l = length l.places - l.passed
