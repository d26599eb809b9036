-- Arrays of other than two items are no pairs.
use Rattle.std.proofs.Common.{◌≡◌, List, [], ◌∷◌, length, map, None, Some, sym, ap, refl}
use Rattle.toml.specs.Data.{Data, Items, as_array}
use Rattle.toml.specs.View.{view, items_of}
use Rattle.toml.specs.declared.value.Value.{Value}
use Rattle.us_value.specs.declared.operation.Kind.{Kind}
use Rattle.us_config.specs.Keywords.{pair_in, pair_for}
use Rattle.std.proofs.Common.{Option}

pub no_pair : (kind : Kind) (d : Data) (values : List Value) → (length values ≡ 2 → ⊥) → Some (items_of (map view values)) ≡ as_array d → None ≡ pair_for kind d
no_pair kind d [] two e = ap (λ (o : Option Items). pair_in kind o) e
no_pair kind d (a ∷ []) two e = ap (λ (o : Option Items). pair_in kind o) e
no_pair kind d (a ∷ b ∷ []) two e = absurd (two refl)
no_pair kind d (a ∷ b ∷ c ∷ values) two e = ap (λ (o : Option Items). pair_in kind o) e
