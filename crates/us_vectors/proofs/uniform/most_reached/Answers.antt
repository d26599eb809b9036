use Rattle.std.proofs.Common.{◌∙◌, ◌++◌, ap, sym}
use Rattle.us_vectors.specs.Counts.{column, most_reached}
use Rattle.us_vectors.proofs.Sums.{most_reached_append}
use Rattle.us_vectors.proofs.uniform.most_reached.Goals as goal

pub returns : goal.returns
returns c =
    let before = column c.args.i c.args.before.now in
    let after = column c.args.i c.args.after.now in
    c.most_reached_of.ensures
    ∙ ap (λ best. most_reached c.args.f (before ++ after) best after) c.most_reached_of-best.ensures
    ∙ sym (most_reached_append c.args.f (before ++ after) 0 before after)
