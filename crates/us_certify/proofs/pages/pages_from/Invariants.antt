use Rattle.std.proofs.Common.{◌≡◌, ◌+◌, ◌++◌, drop}
use Rattle.us_certify.specs.Logs.{pages_of}
use Rattle.us_certify.proofs.pages.pages_from.Given as goal

-- the pages so far and those of what is left are all
abbrev pub invariant-loop-place : goal.invariant-loop-place
invariant-loop-place l =
    l.pages.items ++ pages_of l.shape l.part (l.first + l.place) (drop l.place l.window) ≡ pages_of l.shape l.part l.first l.window
