use Rattle.std.proofs.Common.{◌≤◌}
use Rattle.us_value.specs.Values.{update_count}
use Rattle.us_value.proofs.tests.orders.state_after.Given as goal

abbrev pub invariant-loop-i : goal.invariant-loop-i
invariant-loop-i l = update_count l.state ≤ l.i-index
