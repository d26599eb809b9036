use Rattle.std.proofs.Common.{◌≡◌, take}
use Rattle.us_extract.proofs.execution.copies.Given as goal

-- so many are copied
abbrev pub invariant-loop-done : goal.invariant-loop-done
invariant-loop-done l = l.copies ≡ take l.done-index l.ops
