use Rattle.std.proofs.Common.{◌-◌, ◌+◌, ℕ, List, sym, ap, ◌∙◌}
use Rattle.us_wire.specs.Fields.{value_at}
use Rattle.us_wire.specs.Decoders.{many_at}
use Rattle.us_wire.proofs.Combined.{in_front, many_at-turn, many_at-end}
use Rattle.us_fields.proofs.Loops.{no_value_read, many_stop}
use Rattle.us_fields.proofs.values.many_values_in.Goals as goal

pub loop-i-init : goal.loop-i-init
loop-i-init c =
    no_value_read c.args.count c.args.input.now c.args.at
    ∙ ap (λ (xs : List (List ℕ)). in_front xs (many_at value_at (c.args.count - 0) c.args.input.now c.args.at)) (sym c.new-values.ensures)

pub loop-i-preserved : goal.loop-i-preserved
loop-i-preserved c =
    many_at-turn value_at c.args.count c.loop-i.i c.args.input.now c.args.at c.loop-i.next c.in-Ok.read.1 c.loop-i.values c.in-Ok.read.0 c.loop-i-test.true c.loop-i.invariant (c.in-Ok.ensures {u = tt})
    ∙ ap (λ (xs : List (List ℕ)). in_front xs (many_at value_at (c.args.count - (c.loop-i.i + 1)) c.args.input.now c.in-Ok.read.1)) (sym (c.in_ok-push.ensures {u = tt}).ok)

pub returns-in-Err : goal.returns-in-Err
returns-in-Err c = many_stop c.args.count c.loop-i.i c.args.input.now c.args.at c.loop-i.next c.loop-i.values c.in-Err.fault c.loop-i-test.true c.loop-i.invariant (c.in-Err.ensures {u = tt})

pub returns : goal.returns
returns c = many_at-end value_at c.args.count c.loop-i.i c.args.input.now c.args.at c.loop-i.next c.loop-i.values c.loop-i-test.false c.loop-i.invariant
