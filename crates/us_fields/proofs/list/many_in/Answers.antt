use Rattle.std.proofs.Common.{◌-◌, ◌+◌, List, sym, ap, ◌∙◌}
use Rattle.us_wire.specs.Decoders.{many_at}
use Rattle.us_wire.proofs.Combined.{in_front, many_at-turn, many_at-end}
use Rattle.us_fields.proofs.ListLoops.{none_read, fault_read}
use Rattle.us_fields.proofs.list.many_in.Goals as goal

pub loop-i-init : goal.loop-i-init
loop-i-init g c = none_read (g.T.Field.decoder c.args.shape) c.args.count c.args.input.now c.args.at c.new-items.result c.new-items.ensures

pub loop-i-preserved : goal.loop-i-preserved
loop-i-preserved g c =
    let read = g.T.Field.decoder c.args.shape in
    many_at-turn read c.args.count c.loop-i.i c.args.input.now c.args.at c.loop-i.next c.in-Ok.read.1 c.loop-i.items c.in-Ok.read.0 c.loop-i-test.true c.loop-i.invariant (c.in-Ok.ensures {u = tt})
    ∙ ap (λ (xs : List _). in_front xs (many_at read (c.args.count - (c.loop-i.i + 1)) c.args.input.now c.in-Ok.read.1)) (sym (c.in_ok-push.ensures {u = tt}).ok)

pub returns-in-Err : goal.returns-in-Err
returns-in-Err g c = fault_read (g.T.Field.decoder c.args.shape) c.args.count c.loop-i.i c.args.input.now c.args.at c.loop-i.next c.loop-i.items c.in-Err.fault c.loop-i-test.true c.loop-i.invariant (c.in-Err.ensures {u = tt})

pub returns : goal.returns
returns g c = many_at-end (g.T.Field.decoder c.args.shape) c.args.count c.loop-i.i c.args.input.now c.args.at c.loop-i.next c.loop-i.items c.loop-i-test.false c.loop-i.invariant
