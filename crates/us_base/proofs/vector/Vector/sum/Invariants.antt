use Rattle.std.proofs.Common.{◌≡◌, ◌≤◌, ◌*◌, ◌^◌, take}
use Rattle.us_base.specs.Vector.{sum_of}
use Rattle.us_base.proofs.vector.Vector.sum.Given as goal

abbrev pub invariant-loop-entry : goal.invariant-loop-entry
invariant-loop-entry l = (l.sum ≡ sum_of (take l.entry-index l.entry-items)) × (l.sum ≤ l.entry-index * 2 ^ 64)
