-- What holds along each permutation of a list.
use Rattle.std.proofs.Common.{◌≡◌, ℕ, zero, suc, ◌<◌, Bool, List, [], ◌∷◌, Option, Some, length, get_or, set, swap, refl, ap, subst, ◌∙◌, arith, IsPermutation}
use Rattle.std.proofs.lemmas.List.Sorted.{IsPermutation-keeps}
use Rattle.us_kind.specs.Updates.{Update, Stamped, WasPrepared, state_after, Commutes, OrderIsFree, AnswersInOrder, AnswersInAnyOrder}
use Rattle.us_kind.specs.Comparison.{In, tag_of}
use Rattle.us_kind.specs.declared.identity.Stamp.{Stamp}
use Rattle.us_kind.specs.declared.identity.Tag.{Tag}

-- A relation that every list has to itself holds along each permutation, if it is transitive, goes under a head, and
-- goes over an exchange of the first two.
module _ {X : Type 0} (R : List X → List X → Type 0) (itself : (xs : List X) → R xs xs)
    (under : (x : X) (xs ys : List X) → R xs ys → R (x ∷ xs) (x ∷ ys))
    (exchange : (x y : X) (xs : List X) → R (x ∷ y ∷ xs) (y ∷ x ∷ xs))
    (join : (xs ys zs : List X) → R xs ys → R ys zs → R xs zs) where
  -- the first and a later one, in each other's place
  with_first : (xs : List X) (j : ℕ) (x d : X) → j < length xs → R (x ∷ xs) (get_or xs j d ∷ set xs j x)
  with_first [] j x d h = absurd (omega arith)
  with_first (y ∷ xs) zero x d h = exchange x y xs
  with_first (y ∷ xs) (suc j) x d h =
      let later = with_first xs j x d (omega arith) in
      join _ _ _ (exchange x y xs) (join _ _ _ (under y _ _ later) (exchange y (get_or xs j d) (set xs j x)))

  -- any two, in each other's place
  two_exchanged : (xs : List X) (i j : ℕ) (d : X) → i < length xs → j < length xs → R xs (set (set xs i (get_or xs j d)) j (get_or xs i d))
  two_exchanged [] i j d p q = absurd (omega arith)
  two_exchanged (x ∷ xs) zero zero d p q = itself (x ∷ xs)
  two_exchanged (x ∷ xs) zero (suc j) d p q = with_first xs j x d (omega arith)
  two_exchanged (x ∷ xs) (suc i) zero d p q = with_first xs i x d (omega arith)
  two_exchanged (x ∷ xs) (suc i) (suc j) d p q = under x _ _ (two_exchanged xs i j d (omega arith) (omega arith))

  after_swap : (xs : List X) (i j : ℕ) → i < length xs → j < length xs → R xs (swap xs i j)
  after_swap [] i j p q = itself []
  after_swap (x ∷ xs) i j p q = two_exchanged (x ∷ xs) i j x p q

  pub along_permutation : (xs ys : List X) → IsPermutation xs ys → R xs ys
  along_permutation xs = IsPermutation-keeps xs (R xs) (itself xs) (λ l i j p q h. join xs l _ h (after_swap l i j p q))

-- the second list gives the same state as the first, from each state
abbrev GivesSame : {S O E : Type 0} → (S → E → Stamp → S) → List (Stamped O E) → List (Stamped O E) → Type 0
GivesSame {S} updated us vs = (s : S) → state_after updated s vs ≡ state_after updated s us

-- effects of which any two may be exchanged may be applied in any order
pub state_after-permutation : {S O E : Type 0} (updated : S → E → Stamp → S) → Commutes updated → OrderIsFree O updated
state_after-permutation updated commutes s us vs moved =
    along_permutation (GivesSame updated) (λ us s. refl)
    (λ u us vs e s. e (updated s u.effect u.stamp))
    (λ u v us s. ap (λ t. state_after updated t us) (commutes s v.effect u.effect v.stamp u.stamp))
    (λ us vs ws e f s. f s ∙ e s) us vs moved s

-- so an answer over a history does not depend on the order of applying
pub answers_in_any_order : {S O E A : Type 0} (initially : S) (updated : S → E → Stamp → S) (answered : O → S → A) (prepared : Tag → O → S → Option E) (value : O → List (Update O) → (Tag → Tag → Bool) → A)
    → Commutes updated → AnswersInOrder initially updated answered prepared value → AnswersInAnyOrder initially updated answered prepared value
answers_in_any_order initially updated answered prepared value commutes in_order after us vs history moved op =
    let made : (u : Stamped _ _) → In u us → WasPrepared initially updated prepared after us u =
    λ u i. let h = history.made u i in record {
      sum = h.sum;
      effect = subst (λ s. prepared (tag_of u.stamp) u.op s ≡ Some u.effect) (state_after-permutation updated commutes initially _ _ h.order) h.effect;
    } in
    ap (answered op) (state_after-permutation updated commutes initially us vs moved)
    ∙ in_order after us (record { ordered = history.ordered; made = made }) op
