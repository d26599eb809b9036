use Rattle.us_fields.proofs.ListLoops.{turns_end}
use Rattle.us_fields.proofs.order.are_in_order.Goals as goal

pub returns : goal.returns
returns g c = turns_end (g.O.Order.before c.args.order.now) c.args.items.now c.loop-i.i c.loop-i.auto.i c.loop-i-test.false c.loop-i.invariant
