use Rattle.std.proofs.Common.{◌≡◌, ◌++◌}
use Rattle.us_world.specs.WorldState.{unmarked}
use Rattle.us_world.proofs.run.send_all.Given as goal

-- so many are on their way
abbrev pub invariant-loop-packet : goal.invariant-loop-packet
invariant-loop-packet l = l.network ≡ l.fn.network ++ unmarked l.yielded
