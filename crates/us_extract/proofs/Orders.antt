-- A list that is sorted and keeps ties in their order is determined by that.
use Rattle.std.proofs.Common.{◌≡◌, ◌∙◌, ℕ, suc, ◌<◌, ◌≤◌, List, [], ◌∷◌, length, get_or, Bool, true, false, cond, refl, sym, ap, subst, arith, true≢false}
use Rattle.std.specs.Prelude.{◌&&◌, not, filter}
use Rattle.std.specs.Cmp.{IsStrictWeakOrder}
use Rattle.std.specs.List.Sorted.{IsSortedBy, IsStableBy, ties}
use Rattle.std.proofs.lemmas.List.Sorted.{sorted_far}
use Rattle.us_kind.specs.Comparison.{In}
use Rattle.us_kind.specs.Updates.{All, AllLater}
use Rattle.us_kind.proofs.ListLemmas.{in_filter, filter_in}
use Rattle.us_history.specs.Histories.{Committed}
use Rattle.us_history.specs.Arbitration.{precedes, arbitrated}
use Rattle.us_arbitration.proofs.Preceding.{is_an_order}
use Rattle.us_arbitration.proofs.Sorting.{earlier_first, ties_keep}

-- EACH AND EACH LATER ONE, by their places
all_at : {X : Type 0} (P : X → Type 0) (xs : List X) → ((j : ℕ) (d : X) → j < length xs → P (get_or xs j d)) → All P xs
all_at P [] h = tt
all_at P (x ∷ xs) h = (h 0 x (omega arith), all_at P xs (λ j d less. h (suc j) d (omega arith)))

pub later_at : {X : Type 0} (R : X → X → Type 0) (xs : List X)
    → ((i j : ℕ) (d : X) → i < j → j < length xs → R (get_or xs i d) (get_or xs j d)) → AllLater R xs
later_at R [] h = tt
later_at R (x ∷ xs) h = (
  all_at (R x) xs (λ j d less. h 0 (suc j) d (omega arith) (omega arith)),
  later_at R xs (λ i j d before less. h (suc i) (suc j) d (omega arith) (omega arith)),
)

-- none of a sorted list is before an earlier one
abbrev pub NotBefore : {X : Type 0} → (X → X → Bool) → X → X → Type 0
NotBefore lt earlier later = lt later earlier ≡ false

pub sorted_later : {X : Type 0} (lt : X → X → Bool) → IsStrictWeakOrder lt → (xs : List X) → IsSortedBy lt xs → AllLater (NotBefore lt) xs
sorted_later lt order xs sorted = later_at (NotBefore lt) xs (λ i j d before less. sorted_far lt order xs sorted i j d (omega arith) less)

-- TIES
pub not_itself : {X : Type 0} (lt : X → X → Bool) → IsStrictWeakOrder lt → (x : X) → lt x x ≡ false
not_itself lt order x = on (lt x x) refl
  where
    on : (b : Bool) → lt x x ≡ b → lt x x ≡ false
    on true e = order.one_way x x e
    on false e = e

ties_itself : {X : Type 0} (lt : X → X → Bool) → IsStrictWeakOrder lt → (x : X) → ties lt x x ≡ true
ties_itself lt order x = λ i. not (not_itself lt order x i) && not (not_itself lt order x i)

turned : (a b : Bool) → (not a && not b) ≡ (not b && not a)
turned true true = refl
turned true false = refl
turned false true = refl
turned false false = refl

-- what is found among them
found : {X : Type 0} (P : X → Type 0) (test : X → Bool) (xs rest : List X) (y : X) → All P xs → filter test xs ≡ y ∷ rest → P y
found P test [] rest y all e = absurd (cc)
found P test (x ∷ xs) rest y all e = on (test x) e (λ k. found P test xs rest y all.1 k)
  where
    on : (b : Bool) → cond b (x ∷ filter test xs) (filter test xs) ≡ y ∷ rest → (filter test xs ≡ y ∷ rest → P y) → P y
    on true k again =
        let is : x ≡ y = cc in
        subst P is all.0
    on false k again = again k

same_tail : {X : Type 0} (b : Bool) (y z : X) (ys zs : List X) → cond b (y ∷ ys) ys ≡ cond b (z ∷ zs) zs → ys ≡ zs
same_tail true y z ys zs e = cc
same_tail false y z ys zs e = e

-- ONE LIST: two in order with the same ties are one
same_head : {X : Type 0} (lt : X → X → Bool) → IsStrictWeakOrder lt → (y z : X) (ys zs : List X) → AllLater (NotBefore lt) (y ∷ ys)
    → AllLater (NotBefore lt) (z ∷ zs) → ((x : X) → filter (ties lt x) (y ∷ ys) ≡ filter (ties lt x) (z ∷ zs)) → y ≡ z
same_head lt order y z ys zs h k same = on (ties lt y z) refl
  where
    mine : y ∷ filter (ties lt y) ys ≡ cond (ties lt y z) (z ∷ filter (ties lt y) zs) (filter (ties lt y) zs)
    mine = ap (λ b. cond b (y ∷ filter (ties lt y) ys) (filter (ties lt y) ys)) (sym (ties_itself lt order y)) ∙ same y

    theirs : cond (ties lt z y) (y ∷ filter (ties lt z) ys) (filter (ties lt z) ys) ≡ z ∷ filter (ties lt z) zs
    theirs = same z ∙ ap (λ b. cond b (z ∷ filter (ties lt z) zs) (filter (ties lt z) zs)) (ties_itself lt order z)

    on : (b : Bool) → ties lt y z ≡ b → y ≡ z
    on true e =
        let heads : y ∷ filter (ties lt y) ys ≡ z ∷ filter (ties lt y) zs = mine ∙ ap (λ b. cond b (z ∷ filter (ties lt y) zs) (filter (ties lt y) zs)) e in
        cc
    on false e =
        let e' : ties lt z y ≡ false = turned (lt z y) (lt y z) ∙ e in
        let there : filter (ties lt y) zs ≡ y ∷ filter (ties lt y) ys =
        sym (mine ∙ ap (λ b. cond b (z ∷ filter (ties lt y) zs) (filter (ties lt y) zs)) e) in
        let here : filter (ties lt z) ys ≡ z ∷ filter (ties lt z) zs =
        ap (λ b. cond b (y ∷ filter (ties lt z) ys) (filter (ties lt z) ys)) (sym e') ∙ theirs in
        let after : lt y z ≡ false = found (NotBefore lt z) (ties lt y) zs (filter (ties lt y) ys) y k.0 there in
        let before : lt z y ≡ false = found (NotBefore lt y) (ties lt z) ys (filter (ties lt z) zs) z h.0 here in
        let tie : ties lt y z ≡ true = λ i. not (after i) && not (before i) in
        absurd (true≢false (sym tie ∙ e))

one_list : {X : Type 0} (lt : X → X → Bool) → IsStrictWeakOrder lt → (ys zs : List X) → AllLater (NotBefore lt) ys → AllLater (NotBefore lt) zs
    → ((x : X) → filter (ties lt x) ys ≡ filter (ties lt x) zs) → ys ≡ zs
one_list lt order [] [] h k same = refl
one_list lt order [] (z ∷ zs) h k same =
    let e : [] ≡ z ∷ filter (ties lt z) zs = same z ∙ ap (λ b. cond b (z ∷ filter (ties lt z) zs) (filter (ties lt z) zs)) (ties_itself lt order z) in
    absurd (cc)
one_list lt order (y ∷ ys) [] h k same =
    let e : y ∷ filter (ties lt y) ys ≡ [] =
    ap (λ b. cond b (y ∷ filter (ties lt y) ys) (filter (ties lt y) ys)) (sym (ties_itself lt order y)) ∙ same y in
    absurd (cc)
one_list lt order (y ∷ ys) (z ∷ zs) h k same =
    let heads : y ≡ z = same_head lt order y z ys zs h k same in
    let rest =
    one_list lt order ys zs h.1 k.1
    (λ x. same_tail (ties lt x y) y z (filter (ties lt x) ys) (filter (ties lt x) zs)
    (same x ∙ ap (λ w. cond (ties lt x w) (z ∷ filter (ties lt x) zs) (filter (ties lt x) zs)) (sym heads))) in
    λ i. heads i ∷ rest i

-- THE ARBITRATION ORDER is the one that a stable sort gives
pub sorted_is_arbitrated : (cs ys : List Committed) → IsSortedBy precedes ys → IsStableBy precedes cs ys → ys ≡ arbitrated cs
sorted_is_arbitrated cs ys sorted stable =
    one_list precedes is_an_order ys (arbitrated cs) (sorted_later precedes is_an_order ys sorted) (earlier_first cs) (λ x. stable x ∙ sym (ties_keep cs x))

-- a stable sort keeps the members
pub stable_in : {X : Type 0} (lt : X → X → Bool) → IsStrictWeakOrder lt → (xs ys : List X) → IsStableBy lt xs ys → (x : X) → In x xs → In x ys
stable_in lt order xs ys stable x i =
    (in_filter (ties lt x) x ys (subst (λ l. In x l) (sym (stable x)) (filter_in (ties lt x) x xs i (ties_itself lt order x)))).0

pub stable_back : {X : Type 0} (lt : X → X → Bool) → IsStrictWeakOrder lt → (xs ys : List X) → IsStableBy lt xs ys → (x : X) → In x ys → In x xs
stable_back lt order xs ys stable = stable_in lt order ys xs (λ x. sym (stable x))
