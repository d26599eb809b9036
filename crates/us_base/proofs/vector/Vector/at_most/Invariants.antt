use Rattle.std.proofs.Common.{◌≤◌, ℕ, ◌<◌, get_or}
use Rattle.us_base.proofs.vector.Vector.at_most.Given as goal

abbrev pub invariant-loop-i : goal.invariant-loop-i
invariant-loop-i l = (k : ℕ) → k < l.i → get_or l.entry-items k 0 ≤ get_or l.other-inside.entries k 0
