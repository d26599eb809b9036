use Rattle.std.proofs.Common.{◌≡◌, take}
use Rattle.us_extract.proofs.order.with_ranks.Given as goal

-- so many are there
abbrev pub invariant-loop-commit : goal.invariant-loop-commit
invariant-loop-commit l = l.order.items ≡ take l.commit-index l.committed
