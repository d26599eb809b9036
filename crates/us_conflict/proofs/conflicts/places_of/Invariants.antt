use Rattle.std.proofs.Common.{◌≡◌, ℕ, drop}
use Rattle.std.specs.List.{list_any}
use Rattle.std.specs.Prelude.{◌||◌}
use Rattle.us_value.specs.declared.operation.Class.{Class}
use Rattle.us_conflict.specs.Conflicts.{is_pair}
use Rattle.us_conflict.specs.Places.{stands_in}
use Rattle.us_conflict.proofs.conflicts.places_of.Given as goal

abbrev pub invariant-loop-pair : goal.invariant-loop-pair
invariant-loop-pair l =
    (space : ℕ) (a b : Class) → (stands_in l.places.keys space a b || list_any (λ pair. is_pair pair space a b) (drop l.pair-index l.pairs)) ≡ list_any (λ pair. is_pair pair space a b) l.pairs
