-- Encodings that were written one behind the other.
use Rattle.std.proofs.Common.{◌≡◌, ℕ, List, ◌++◌, Result, Ok, Err, ap, ◌∙◌, append_assoc}
use Rattle.std.specs.Prelude.{IfOk}

-- one encoding, and then another
pub ok_joined : {V E : Type 0} (items : V → List ℕ) (r : Result V E) (out one mid two : List ℕ) → mid ≡ out ++ one → IfOk r (λ new. items new ≡ mid ++ two) → IfOk r (λ new. items new ≡ out ++ (one ++ two))
ok_joined items (Ok new) out one mid two e h = h ∙ ap (λ (w : List ℕ). w ++ two) e ∙ append_assoc out one two
ok_joined items (Err fault) out one mid two e h = tt

-- the same encoding
pub ok_same : {V E : Type 0} (items : V → List ℕ) (r : Result V E) (out one two : List ℕ) → one ≡ two → IfOk r (λ new. items new ≡ out ++ one) → IfOk r (λ new. items new ≡ out ++ two)
ok_same items (Ok new) out one two e h = h ∙ ap (λ (w : List ℕ). out ++ w) e
ok_same items (Err fault) out one two e h = tt
