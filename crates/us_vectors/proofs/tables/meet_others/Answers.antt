use Rattle.std.proofs.Common.{◌∙◌, ap, sym, take, drop, length, ◌+◌, ◌-◌}
use Rattle.us_vectors.specs.Tables.{meet_all}
use Rattle.us_vectors.proofs.Sums.{meet_all_append, split_others}
use Rattle.us_vectors.proofs.tables.meet_others.Goals as goal

pub returns : goal.returns
returns c =
    let v = c.args.vector.now in
    let table = c.args.table.now in
    let place = c.from-place.result - 1 in
    let after = take (length table - (place + 1)) (drop (place + 1) table) in
    c.meet_all.ensures
    ∙ ap (λ met. meet_all met after) c.meet_all-before.ensures
    ∙ sym (meet_all_append v (take place table) after)
    ∙ ap (meet_all v) (split_others table c.from-place.result c.args.number c.from-place.ensures c.requires.first c.requires.last)
