use Rattle.std.proofs.Common.{arith}
use Rattle.toml.specs.View.{view}
use Rattle.us_config.proofs.Pairs.{no_pair}
use Rattle.us_config.proofs.space.pair_of.Goals as goal

pub returns-in_default : goal.returns-in_default
returns-in_default c =
    let short = rw c.as_slice.ensures.value at c.in_default.len_below in
    no_pair c.args.kind (view c.args.value.now) c.in_ok-as_array.field-0.now.items (λ two. absurd (omega (arith, two, short))) c.in_ok-as_array.ensures

pub returns-in_default-2 : goal.returns-in_default-2
returns-in_default-2 c =
    let long = rw c.as_slice.ensures.value at c.in_default.len_at_least in
    no_pair c.args.kind (view c.args.value.now) c.in_ok-as_array.field-0.now.items (λ two. absurd (omega (arith, two, long))) c.in_ok-as_array.ensures
