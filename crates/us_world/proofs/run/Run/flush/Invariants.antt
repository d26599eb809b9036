use Rattle.std.proofs.Common.{◌-◌}
use Rattle.us_world.specs.Limits.{Delivers}
use Rattle.us_world.specs.Lines.{AdvancesBy}
use Rattle.us_world.proofs.run.Run.flush.Given as goal

-- packets came, each time the least
abbrev pub invariant-loop-place : goal.invariant-loop-place
invariant-loop-place l = AdvancesBy (Delivers l.from l.to) l.fn.self l.self

-- each counts an event
abbrev pub decreases-loop-place : goal.decreases-loop-place
decreases-loop-place l = 1000001 - l.self.events
