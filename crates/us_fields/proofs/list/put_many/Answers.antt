use Rattle.us_fields.proofs.ListLoops.{none_written, one_written}
use Rattle.us_fields.proofs.list.put_many.Goals as goal

pub loop-item-init : goal.loop-item-init
loop-item-init g c = none_written (g.T.Field.encoding c.args.shape) c.args.items.now c.args.out.items

pub loop-item-preserved : goal.loop-item-preserved
loop-item-preserved g c =
    one_written (g.T.Field.encoding c.args.shape) c.args.items.now c.loop-item.item-index c.item-item.result c.args.out.items c.loop-item.out.items c.in_ok-out.out.items c.loop-item-test.true c.item-item.is c.loop-item.invariant
    (c.in_ok-out.ensures {u = tt})
