-- An equivalence that tells values apart decides whether they are one.
use Rattle.std.proofs.Common.{◌≡◌, Bool, true, subst}
use Rattle.std.specs.Bool.{Decides}
use Rattle.std.specs.Cmp.{IsEquivalence}

pub decided_by : {E : Type 0} (eq : E → E → Bool) → IsEquivalence eq → ((x y : E) → eq x y ≡ true → x ≡ y) → (x y : E) → Decides (eq x y) (x ≡ y)
decided_by eq laws same x y = (same x y, λ e. subst (λ z. eq x z ≡ true) e (laws.refl x))
