use Rattle.std.proofs.Common.{◌+◌, List, arith}
use Rattle.std.proofs.lemmas.List.{at_drop_all}
use Rattle.us_value.specs.Lengths.{capped}
use Rattle.us_fields.specs.Lengths.{sum_of_sizes}
use Rattle.us_fields.proofs.list.list_len.Goals as goal

pub returns : goal.returns
returns g c =
    let nothing_left = at_drop_all (λ (xs : List _). capped (c.loop-item.total + sum_of_sizes (g.T.Field.size c.args.shape) xs)) c.args.items.now c.loop-item.item-index c.loop-item-test.false in
    let kept = c.loop-item.invariant in
    omega (arith, nothing_left, kept.0, kept.1)
