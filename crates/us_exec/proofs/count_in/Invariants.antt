use Rattle.std.proofs.Common.{◌≡◌, drop}
use Rattle.us_exec.specs.Past.{count_in}
use Rattle.us_exec.proofs.count_in.Given as goal

-- the count is that of the rest
abbrev pub invariant-loop-count : goal.invariant-loop-count
invariant-loop-count l = count_in l.session (drop l.count-index l.past) ≡ count_in l.session l.past
