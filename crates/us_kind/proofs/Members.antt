-- Lists that have the same members, each once, are permutations of each other; and what holds of each member and each later one.
use Rattle.std.proofs.Common.{◌≡◌, ◌⊎◌, inl, inr, ⊎_elim, List, [], ◌∷◌, ◌++◌, Bool, true, false, map, refl, sym, ap, ◌∙◌, subst, cond, IsPermutation}
use Rattle.std.specs.Prelude.{filter}
use Rattle.std.proofs.lemmas.List.Sorted.{IsPermutation-refl, IsPermutation-sym, IsPermutation-cons, IsPermutation-middle, IsPermutation-trans}
use Rattle.us_kind.specs.Comparison.{In}
use Rattle.us_kind.specs.Updates.{All, AllLater}
use Rattle.us_kind.specs.Histories.{all_from}
use Rattle.us_kind.specs.Ascending.{all_in}
use Rattle.us_kind.proofs.ListLemmas.{in_front, in_back, in_either, in_filter}

-- EACH AND EACH LATER ONE
pub later_append : {X : Type 0} (R : X → X → Type 0) (xs ys : List X) → AllLater R xs → AllLater R ys → ((x y : X) → In x xs → In y ys → R x y) → AllLater R (xs ++ ys)
later_append R [] ys h k across = k
later_append R (x ∷ xs) ys h k across = (
  all_from (R x) (xs ++ ys) (λ z i. ⊎_elim (λ a. all_in (R x) xs z h.0 a) (λ b. across x z (inl refl) b) (in_either z xs ys i)),
  later_append R xs ys h.1 k (λ a b i j. across a b (inr i) j),
)

pub later_push : {X : Type 0} (R : X → X → Type 0) (xs : List X) (y : X) → AllLater R xs → ((x : X) → In x xs → R x y) → AllLater R (xs ++ y ∷ [])
later_push R xs y h new = later_append R xs (y ∷ []) h (tt, tt) (λ x z i j. ⊎_elim (λ e. subst (R x) e (new x i)) (λ n. absurd n) j)

pub later_filter : {X : Type 0} (R : X → X → Type 0) (test : X → Bool) (xs : List X) → AllLater R xs → AllLater R (filter test xs)
later_filter R test [] h = tt
later_filter R test (x ∷ xs) h = on (test x) (later_filter R test xs h.1)
  where
    on : (b : Bool) → AllLater R (filter test xs) → AllLater R (cond b (x ∷ filter test xs) (filter test xs))
    on true again = (all_from (R x) (filter test xs) (λ y i. all_in (R x) xs y h.0 (in_filter test y xs i).0), again)
    on false again = again

pub later_weaker : {X : Type 0} (R S : X → X → Type 0) → ((x y : X) → R x y → S x y) → (xs : List X) → AllLater R xs → AllLater S xs
later_weaker R S weaker [] h = tt
later_weaker R S weaker (x ∷ xs) h = (all_from (S x) xs (λ y i. weaker x y (all_in (R x) xs y h.0 i)), later_weaker R S weaker xs h.1)

-- a mapping that leaves what R reads
pub later_map : {X : Type 0} (R : X → X → Type 0) (f : X → X) → ((x y : X) → R x y → R (f x) (f y)) → (xs : List X) → AllLater R xs → AllLater R (map f xs)
later_map R f same [] h = tt
later_map R f same (x ∷ xs) h = (mapped xs h.0, later_map R f same xs h.1)
  where
    mapped : (ys : List _) → All (R x) ys → All (R (f x)) (map f ys)
    mapped [] h = tt
    mapped (y ∷ ys) h = (same x y h.0, mapped ys h.1)

-- EACH ONCE
abbrev pub Distinct : {X : Type 0} → List X → Type 0
Distinct {X} xs = AllLater (λ (x y : X). x ≡ y → ⊥) xs

-- where an item stands
pub record Stands {X : Type 0} (x : X) (xs : List X) : Type 0 where
  pub front : List X
  pub back : List X
  pub is : xs ≡ front ++ x ∷ back

pub stands : {X : Type 0} (x : X) (xs : List X) → In x xs → Stands x xs
stands x [] h = absurd h
stands x (y ∷ xs) (inl e) = record { front = []; back = xs; is = ap (λ z. z ∷ xs) e }
stands x (y ∷ xs) (inr h) = let s = stands x xs h in record { front = y ∷ s.front; back = s.back; is = ap (λ l. y ∷ l) s.is }

in_around : {X : Type 0} (z x : X) (front back : List X) → In z (front ++ back) → In z (front ++ x ∷ back)
in_around z x front back i = ⊎_elim (λ a. in_front z front (x ∷ back) a) (λ b. in_back z front (x ∷ back) (inr b)) (in_either z front back i)

in_but : {X : Type 0} (z x : X) (front back : List X) → In z (front ++ x ∷ back) → (x ≡ z) ⊎ In z (front ++ back)
in_but z x front back i = ⊎_elim (λ a. inr (in_front z front back a)) (λ b. ⊎_elim (λ e. inl e) (λ c. inr (in_back z front back c)) b) (in_either z front (x ∷ back) i)

-- without one of them, which is not among the others
without_one : {X : Type 0} (x : X) (front back : List X) → Distinct (front ++ x ∷ back) → Distinct (front ++ back) × ((z : X) → In z (front ++ back) → x ≡ z → ⊥)
without_one x [] back d = (d.1, λ z i. all_in (λ z. x ≡ z → ⊥) back z d.0 i)
without_one x (y ∷ front) back d =
    let m = without_one x front back d.1 in
    let off : (z : _) → In z (front ++ x ∷ back) → y ≡ z → ⊥ = λ z i. all_in (λ z. y ≡ z → ⊥) (front ++ x ∷ back) z d.0 i in (
      (all_from (λ z. y ≡ z → ⊥) (front ++ back) (λ z i. off z (in_around z x front back i)), m.0),
      λ z i e. ⊎_elim (λ f. off x (in_back x front (x ∷ back) (inl refl)) (f ∙ sym e)) (λ j. m.1 z j e) i,
    )

pub same_members : {X : Type 0} (xs ys : List X) → Distinct xs → Distinct ys → ((x : X) → In x xs → In x ys) → ((x : X) → In x ys → In x xs) → IsPermutation xs ys
same_members [] [] d e to from = IsPermutation-refl []
same_members [] (y ∷ ys) d e to from = absurd (from y (inl refl))
same_members (x ∷ xs) ys d e to from =
    let s = stands x ys (to x (inl refl)) in
    let w = without_one x s.front s.back (subst Distinct s.is e) in
    let rest = same_members xs (s.front ++ s.back) d.1 w.0
    (λ z i. ⊎_elim (λ f. absurd (all_in (λ y. x ≡ y → ⊥) xs z d.0 i f)) (λ j. j) (in_but z x s.front s.back (subst (In z) s.is (to z (inr i)))))
    (λ z i. ⊎_elim (λ f. absurd (w.1 z i f)) (λ j. j) (from z (subst (In z) (sym s.is) (in_around z x s.front s.back i)))) in
    subst (IsPermutation (x ∷ xs)) (sym s.is)
    (IsPermutation-trans (x ∷ xs) (x ∷ (s.front ++ s.back)) (s.front ++ x ∷ s.back) (IsPermutation-cons x xs (s.front ++ s.back) rest) (IsPermutation-sym (s.front ++ x ∷ s.back) (x ∷ (s.front ++ s.back)) (IsPermutation-middle s.front x s.back)))
