use Rattle.std.proofs.Common.{◌≡◌, take}
use Rattle.us_edge.proofs.links.Plan.copy.Given as goal

-- the first texts are copied
abbrev pub invariant-loop-peer : goal.invariant-loop-peer
invariant-loop-peer l = l.peers ≡ take l.peer-index l.peer-items
