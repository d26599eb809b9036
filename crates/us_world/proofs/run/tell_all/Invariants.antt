use Rattle.std.proofs.Common.{◌≡◌}
use Rattle.us_model.specs.Executions.{noted_all}
use Rattle.us_world.proofs.run.tell_all.Given as goal

-- so many are told
abbrev pub invariant-loop-note : goal.invariant-loop-note
invariant-loop-note l = l.history ≡ noted_all l.fn.history l.yielded
