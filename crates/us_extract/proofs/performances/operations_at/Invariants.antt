use Rattle.std.proofs.Common.{◌≡◌, ◌++◌, drop}
use Rattle.us_extract.specs.PastSearch.{done_at}
use Rattle.us_extract.proofs.performances.operations_at.Given as goal

-- what was copied and what is left are all
abbrev pub invariant-loop-place : goal.invariant-loop-place
invariant-loop-place l = l.ops ++ done_at l.list (drop l.place-index l.places) ≡ done_at l.list l.places
