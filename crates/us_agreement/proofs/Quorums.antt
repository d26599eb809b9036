-- Two majorities share a member.
use Rattle.std.proofs.Common.{◌≡◌, inl, inr, ℕ, ◌+◌, ◌*◌, ◌<◌, ◌≤◌, List, [], ◌∷◌, length, Bool, true, false, ◌&&◌, refl, arith}
use Rattle.us_kind.specs.Comparison.{In}
use Rattle.us_agreement.specs.SiteCounts.{count}

abbrev IsMajority : (ℕ → Bool) → List ℕ → Type 0
IsMajority p xs = length xs < 2 * count p xs

both_count : (p q : ℕ → Bool) (xs : List ℕ) → count p xs + count q xs ≤ length xs + count (λ x. p x && q x) xs
both_count p q [] = omega arith
both_count p q (x ∷ xs) = on (p x) (q x) refl refl (both_count p q xs)
  where
    on : (a b : Bool) → p x ≡ a → q x ≡ b → count p xs + count q xs ≤ length xs + count (λ x. p x && q x) xs
        → count p (x ∷ xs) + count q (x ∷ xs) ≤ length (x ∷ xs) + count (λ x. p x && q x) (x ∷ xs)
    on true true e f h = rw (e, f) (omega arith)
    on true false e f h = rw (e, f) (omega arith)
    on false true e f h = rw (e, f) (omega arith)
    on false false e f h = rw (e, f) (omega arith)

some_of : (p : ℕ → Bool) (xs : List ℕ) → 0 < count p xs → (x : ℕ) × In x xs × (p x ≡ true)
some_of p [] h = absurd (omega arith)
some_of p (x ∷ xs) h = on (p x) refl h (some_of p xs)
  where
    on : (b : Bool) → p x ≡ b → 0 < count p (x ∷ xs) → (0 < count p xs → (y : ℕ) × In y xs × (p y ≡ true)) → (y : ℕ) × In y (x ∷ xs) × (p y ≡ true)
    on true e h again = (x, inl refl, e)
    on false e h again = let k = rw e at h in let r = again (omega arith) in (r.0, inr r.1, r.2)

pub shared : (p q : ℕ → Bool) (xs : List ℕ) → length xs < 2 * count p xs → length xs < 2 * count q xs → (x : ℕ) × In x xs × ((p x && q x) ≡ true)
shared p q xs h k = some_of (λ x. p x && q x) xs (omega (arith, both_count p q xs))
