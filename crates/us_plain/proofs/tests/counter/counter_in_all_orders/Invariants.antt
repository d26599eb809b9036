use Rattle.std.proofs.Common.{◌≤◌}
use Rattle.us_plain.proofs.tests.counter.counter_in_all_orders.Given as goal

abbrev pub invariant-loop-i : goal.invariant-loop-i
invariant-loop-i g l = l.state.updates ≤ l.i-index
