use Rattle.std.proofs.Common.{◌≡◌, take}
use Rattle.unistore.proofs.performing.copies.Given as goal

-- so many are copied
abbrev pub invariant-loop-request : goal.invariant-loop-request
invariant-loop-request l = l.copies ≡ take l.request-index l.requests
