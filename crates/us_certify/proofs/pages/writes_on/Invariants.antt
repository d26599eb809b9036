use Rattle.std.proofs.Common.{◌≡◌, ◌++◌, drop}
use Rattle.us_certify.specs.Logs.{writes_on}
use Rattle.us_certify.proofs.pages.writes_on.Given as goal

-- what was found and what the rest has are all
abbrev pub invariant-loop-write : goal.invariant-loop-write
invariant-loop-write l = l.copies ++ writes_on l.shape l.part (drop l.write-index l.writes) ≡ writes_on l.shape l.part l.writes
