use Rattle.std.proofs.Common.{◌≡◌, ◌-◌, drop}
use Rattle.us_fields.specs.Lists.{is_in_order}
use Rattle.us_fields.proofs.order.are_in_order.Given as goal

abbrev pub invariant-loop-i : goal.invariant-loop-i
invariant-loop-i g l = is_in_order (g.O.Order.before l.order) l.items ≡ is_in_order (g.O.Order.before l.order) (drop (l.i - 1) l.items)
