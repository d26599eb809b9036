use Rattle.std.proofs.Common.{◌≡◌, drop}
use Rattle.us_history.specs.States.{after_own}
use Rattle.us_part.proofs.reading.apply_own.Given as goal

-- the rest of the effects go on from the state so far
abbrev pub invariant-loop-place : goal.invariant-loop-place
invariant-loop-place l = after_own l.tid l.state (drop l.place-index l.own) ≡ after_own l.tid l.fn.state l.own
