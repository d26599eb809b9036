use Rattle.std.proofs.Common.{◌≡◌, take}
use Rattle.us_extract.proofs.history.History.refusals.Given as goal

-- so many are copied
abbrev pub invariant-loop-request : goal.invariant-loop-request
invariant-loop-request l = l.refusals ≡ take l.request-index l.request-items
