use Rattle.std.proofs.Common.{◌≡◌, take, map}
use Rattle.us_extract.proofs.execution.committed_tids.Given as goal

-- so many are listed
abbrev pub invariant-loop-commit : goal.invariant-loop-commit
invariant-loop-commit l = l.tids ≡ map (λ c. c.begun.tid) (take l.commit-index l.committed)
