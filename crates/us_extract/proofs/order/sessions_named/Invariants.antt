use Rattle.std.proofs.Common.{◌≡◌, take, map}
use Rattle.us_extract.proofs.order.sessions_named.Given as goal

-- so many are named
abbrev pub invariant-loop-commit : goal.invariant-loop-commit
invariant-loop-commit l = l.sessions.items ≡ map (λ c. c.begun.session) (take l.commit-index l.committed)
