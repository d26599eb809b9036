use Rattle.std.proofs.Common.{ℕ, ◌+◌, List, arith}
use Rattle.std.proofs.lemmas.List.{at_drop_all}
use Rattle.us_value.specs.Lengths.{all_lengths, capped}
use Rattle.us_value.proofs.length.values_len.Goals as goal

pub returns : goal.returns
returns c =
    let nothing_left = at_drop_all (λ (xs : List (List ℕ)). capped (c.loop-value.total + all_lengths xs)) c.args.values.now c.loop-value.value-index c.loop-value-test.false in
    let kept = c.loop-value.invariant in
    omega (arith, nothing_left, kept.0, kept.1)
