use Rattle.std.proofs.Common.{ℤ, List, ℕ, ◌++◌, ap, ◌∙◌, of_z}
use Rattle.std.proofs.lemmas.Int.{to_z-of_z}
use Rattle.std.specs.Int.{w128, to_be_bytes}
use Rattle.us_wire.proofs.write_fields.put_i128.Goals as goal

pub returns-clause-ok : goal.returns-clause-ok
returns-clause-ok c =
    (c.in_ok-extend_from_slice.ensures {u = tt}).items ∙ ap (λ (xs : List ℕ). c.args.out.now.items ++ xs) (c.to_be_bytes.ensures ∙ ap (λ (z : ℤ). to_be_bytes w128 (of_z w128 z)) (to_z-of_z w128 c.args.v c.ranges.v))
