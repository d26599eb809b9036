use Rattle.std.proofs.Common.{◌≤◌, ◌++◌, ℕ, List, length, sym, ap, subst, ◌∙◌}
use Rattle.us_wire.specs.Fields.{value, longest_value}
use Rattle.us_fields.proofs.Loops.{no_value_written, value_written, at_place}
use Rattle.us_fields.proofs.write.put_values.Goals as goal

pub loop-value-init : goal.loop-value-init
loop-value-init c = no_value_written c.args.values.now c.args.out.items

pub loop-value-preserved : goal.loop-value-preserved
loop-value-preserved c =
    value_written c.args.values.now c.loop-value.value-index c.value-item.result c.args.out.items c.loop-value.out.items c.put_value.new.out.items c.loop-value-test.true c.value-item.is c.loop-value.invariant
    ((c.in_ok-put_value.ensures {u = tt}).ok ∙ ap (λ (w : List ℕ). c.loop-value.out.items ++ value w) c.as_slice.ensures)

pub put_value-requires : goal.put_value-requires
put_value-requires c =
    subst (λ (w : List ℕ). length w ≤ longest_value) (sym c.as_slice.ensures)
    (at_place c.args.values.now c.loop-value.value-index c.value-item.result c.requires c.loop-value-test.true c.value-item.is)
