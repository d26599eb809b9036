-- The greatest that all of some group have is the greatest that enough of all reach.
use Rattle.std.proofs.Common.{◌≡◌, ◌∙◌, ℕ, zero, suc, ◌+◌, ◌≤◌, ◌<◌, List, [], ◌∷◌, ◌++◌, map, max, min, Bool, true, false, ◌&&◌, cond, refl, ap, sym, subst, arith, inl, inr}
use Rattle.std.specs.Prelude.{nat_le, nat_lt}
use Rattle.std.proofs.lemmas.Bool.Decides.{nat_tests}
use Rattle.us_kind.specs.Comparison.{In}
use Rattle.us_vectors.specs.Groups.{groups, least_of, greatest_of, uniform_number}
use Rattle.us_vectors.specs.Counts.{reaching, better, most_reached}

-- two numbers that the same positive numbers reach are one
same_reached : (a b : ℕ) → ((n : ℕ) → suc n ≤ a → suc n ≤ b) → ((n : ℕ) → suc n ≤ b → suc n ≤ a) → a ≡ b
same_reached zero zero f g = refl
same_reached zero (suc b) f g = let h = g b (omega arith) in absurd (omega arith)
same_reached (suc a) zero f g = let h = f a (omega arith) in absurd (omega arith)
same_reached (suc a) (suc b) f g = let h = f a (omega arith) in let k = g b (omega arith) in omega arith

-- ---- groups

greatest-append : (xs ys : List ℕ) → greatest_of (xs ++ ys) ≡ max (greatest_of xs) (greatest_of ys)
greatest-append [] ys = omega arith
greatest-append (x ∷ xs) ys = let e = greatest-append xs ys in omega arith

-- the number of a group that begins with x is that of the rest, where the own one has at most x
least-min : (own x : ℕ) (g : List ℕ) → least_of own (x ∷ g) ≡ least_of (min own x) g
least-min own x [] = omega arith
least-min own x (y ∷ g) = let e = least-min own x g in omega arith

least-map : (own x : ℕ) (gs : List (List ℕ)) → map (least_of own) (map (λ g. x ∷ g) gs) ≡ map (least_of (min own x)) gs
least-map own x [] = refl
least-map own x (g ∷ gs) = λ i. least-min own x g i ∷ least-map own x gs i

map-append : (own : ℕ) (gs hs : List (List ℕ)) → map (least_of own) (gs ++ hs) ≡ map (least_of own) gs ++ map (least_of own) hs
map-append own [] hs = refl
map-append own (g ∷ gs) hs = ap (λ l. least_of own g ∷ l) (map-append own gs hs)

-- with one more site, the best group has it or hasn't
one_more : (f own x : ℕ) (xs : List ℕ) → uniform_number (suc f) own (x ∷ xs) ≡ max (uniform_number f (min own x) xs) (uniform_number (suc f) own xs)
one_more f own x xs =
    ap greatest_of (map-append own (map (λ g. x ∷ g) (groups f xs)) (groups (suc f) xs))
    ∙ greatest-append (map (least_of own) (map (λ g. x ∷ g) (groups f xs))) (map (least_of own) (groups (suc f) xs))
    ∙ ap (λ l. max (greatest_of l) (uniform_number (suc f) own xs)) (least-map own x (groups f xs))

pub no_others : (own : ℕ) (xs : List ℕ) → uniform_number 0 own xs ≡ own
no_others own xs = omega arith

-- what reaches the number of the best group: the own one and f others
pub record Reached (f n mine : ℕ) (xs : List ℕ) : Type 0 where
  pub own : n ≤ mine
  pub others : f ≤ reaching n xs

to_reached : (f n own : ℕ) (xs : List ℕ) → suc n ≤ uniform_number f own xs → Reached f (suc n) own xs
to_reached zero n own xs h = let e = no_others own xs in record { own = omega arith; others = omega arith }
to_reached (suc f) n own [] h = absurd (omega arith)
to_reached (suc f) n own (x ∷ xs) h =
    on (nat_le (suc n) (uniform_number f (min own x) xs)) refl (λ le. to_reached f n (min own x) xs le) (λ le. to_reached (suc f) n own xs le)
  where
    counted : (b : Bool) → nat_le (suc n) x ≡ b → suc n ≤ x → cond {A = ℕ} b 1 0 ≡ 1
    counted true e h = refl
    counted false e h = absurd (grind (arith, nat_tests))

    on : (b : Bool) → nat_le (suc n) (uniform_number f (min own x) xs) ≡ b
        → (suc n ≤ uniform_number f (min own x) xs → Reached f (suc n) (min own x) xs)
        → (suc n ≤ uniform_number (suc f) own xs → Reached (suc f) (suc n) own xs)
        → Reached (suc f) (suc n) own (x ∷ xs)
    on true e with_it without =
        let r = with_it (grind (arith, nat_tests)) in
        let p = r.own in
        let q = r.others in
        let c = counted (nat_le (suc n) x) refl (omega arith) in
        record { own = omega arith; others = omega arith }
    on false e with_it without =
        let gt : uniform_number f (min own x) xs ≤ n = grind (arith, nat_tests) in
        let m = one_more f own x xs in
        let r = without (omega arith) in
        let q = r.others in
        record { own = r.own; others = omega arith }

from_reached : (f n own : ℕ) (xs : List ℕ) → Reached f (suc n) own xs → suc n ≤ uniform_number f own xs
from_reached zero n own xs r = let e = no_others own xs in let p = r.own in omega arith
from_reached (suc f) n own [] r = let q = r.others in absurd (omega arith)
from_reached (suc f) n own (x ∷ xs) r =
    on (nat_le (suc n) x) refl r.others (λ reached. from_reached f n (min own x) xs reached) (λ reached. from_reached (suc f) n own xs reached)
  where
    on : (b : Bool) → nat_le (suc n) x ≡ b → suc f ≤ cond b 1 0 + reaching (suc n) xs
        → (Reached f (suc n) (min own x) xs → suc n ≤ uniform_number f (min own x) xs)
        → (Reached (suc f) (suc n) own xs → suc n ≤ uniform_number (suc f) own xs)
        → suc n ≤ uniform_number (suc f) own (x ∷ xs)
    on true e q with_it without =
        let le : suc n ≤ x = grind (arith, nat_tests) in
        let p = r.own in
        let h = with_it (record { own = omega arith; others = omega arith }) in
        let m = one_more f own x xs in
        omega arith
    on false e q with_it without =
        let h = without (record { own = r.own; others = omega arith }) in
        let m = one_more f own x xs in
        omega arith

-- ---- the greatest that f of a list reach

-- a lesser number is reached by as many
reaching-less : (m n : ℕ) (xs : List ℕ) → m ≤ n → reaching n xs ≤ reaching m xs
reaching-less m n [] h = omega arith
reaching-less m n (x ∷ xs) h = on (nat_le n x) refl (nat_le m x) refl (reaching-less m n xs h)
  where
    on : (a : Bool) → nat_le n x ≡ a → (b : Bool) → nat_le m x ≡ b → reaching n xs ≤ reaching m xs → cond a 1 0 + reaching n xs ≤ cond b 1 0 + reaching m xs
    on true e true g k = omega arith
    on true e false g k = absurd (grind (arith, nat_tests))
    on false e b g k = omega arith

module _ (f : ℕ) (all : List ℕ) where
  -- a number that is a best so far is 0 or reached by f of all
  abbrev IsReached : ℕ → Type 0
  IsReached best = (n : ℕ) → suc n ≤ best → f ≤ reaching (suc n) all

  better_reached : (best x : ℕ) → IsReached best → IsReached (better f all best x)
  better_reached best x r = on (nat_lt best x) (nat_le f (reaching x all)) refl
    where
      on : (a b : Bool) → nat_le f (reaching x all) ≡ b → IsReached (cond (a && b) x best)
      on true true e =
          let le : f ≤ reaching x all = grind (arith, nat_tests) in
          λ n h. let k = reaching-less (suc n) x all h in omega arith
      on true false e = r
      on false b e = r

  pub most-reached : (best : ℕ) (xs : List ℕ) → IsReached best → IsReached (most_reached f all best xs)
  most-reached best [] r = r
  most-reached best (x ∷ xs) r = most-reached (better f all best x) xs (better_reached best x r)

  -- the best never falls
  better_rises : (best x : ℕ) → best ≤ better f all best x
  better_rises best x = on (nat_lt best x) refl (nat_le f (reaching x all))
    where
      on : (a : Bool) → nat_lt best x ≡ a → (b : Bool) → best ≤ cond (a && b) x best
      on true e true = grind (arith, nat_tests)
      on true e false = omega arith
      on false e b = omega arith

  most_rises : (best : ℕ) (xs : List ℕ) → best ≤ most_reached f all best xs
  most_rises best [] = omega arith
  most_rises best (x ∷ xs) =
      let a = better_rises best x in
      let b = most_rises (better f all best x) xs in
      omega arith

  -- one that f of all reach isn't passed over
  better_takes : (best x : ℕ) → f ≤ reaching x all → x ≤ better f all best x
  better_takes best x h = on (nat_lt best x) refl (nat_le f (reaching x all)) refl
    where
      on : (a : Bool) → nat_lt best x ≡ a → (b : Bool) → nat_le f (reaching x all) ≡ b → x ≤ cond (a && b) x best
      on true e true g = omega arith
      on true e false g = absurd (grind (arith, nat_tests))
      on false e b g = grind (arith, nat_tests)

  -- a member that f of all reach isn't passed over
  most_takes : (best x : ℕ) (xs : List ℕ) → In x xs → f ≤ reaching x all → x ≤ most_reached f all best xs
  most_takes best x [] i h = elim i [ ]
  most_takes best x (y ∷ xs) (inl e) h =
      let a = better_takes best y (subst (λ n. f ≤ reaching n all) (sym e) h) in
      let b = most_rises (better f all best y) xs in
      omega (arith, e)
  most_takes best x (y ∷ xs) (inr i) h = most_takes (better f all best y) x xs i h

-- the least member that is at least m
pub record Least (m : ℕ) (xs : List ℕ) : Type 0 where
  pub member : ℕ
  pub here : In member xs
  pub reaches : m ≤ member
  pub below : (x : ℕ) → In x xs → m ≤ x → member ≤ x

in_reaches : (m y : ℕ) (xs : List ℕ) → In y xs → m ≤ y → 1 ≤ reaching m xs
in_reaches m y [] i h = elim i [ ]
in_reaches m y (x ∷ xs) (inl e) h = on (nat_le m x) refl
  where
    on : (b : Bool) → nat_le m x ≡ b → 1 ≤ cond b 1 0 + reaching m xs
    on true g = omega arith
    on false g = let k : m ≤ x = subst (λ n. m ≤ n) (sym e) h in absurd (grind (arith, nat_tests))
in_reaches m y (x ∷ xs) (inr i) h = let k = in_reaches m y xs i h in omega arith

exists_least : (m : ℕ) (xs : List ℕ) → 1 ≤ reaching m xs → Least m xs
exists_least m [] h = absurd (omega arith)
exists_least m (x ∷ xs) h = on (nat_le m x) refl (nat_le 1 (reaching m xs)) refl h (λ some. exists_least m xs some)
  where
    first_alone : m ≤ x → reaching m xs ≤ 0 → (y : ℕ) → In y (x ∷ xs) → m ≤ y → x ≤ y
    first_alone a b y (inl e) k = omega (arith, e)
    first_alone a b y (inr i) k = let one = in_reaches m y xs i k in absurd (omega arith)

    first_least : (r : Least m xs) → x ≤ r.member → (y : ℕ) → In y (x ∷ xs) → m ≤ y → x ≤ y
    first_least r a y (inl e) k = omega (arith, e)
    first_least r a y (inr i) k = let low = r.below y i k in omega arith

    other_least : (r : Least m xs) → r.member ≤ x → (y : ℕ) → In y (x ∷ xs) → m ≤ y → r.member ≤ y
    other_least r a y (inl e) k = omega (arith, e)
    other_least r a y (inr i) k = r.below y i k

    not_first : (r : Least m xs) → x < m → (y : ℕ) → In y (x ∷ xs) → m ≤ y → r.member ≤ y
    not_first r a y (inl e) k = absurd (omega (arith, e))
    not_first r a y (inr i) k = r.below y i k

    lesser : m ≤ x → (r : Least m xs) → (b : Bool) → nat_le x r.member ≡ b → Least m (x ∷ xs)
    lesser a r true e = record { member = x; here = inl refl; reaches = a; below = first_least r (grind (arith, nat_tests)) }
    lesser a r false e = record { member = r.member; here = inr r.here; reaches = r.reaches; below = other_least r (grind (arith, nat_tests)) }

    on : (a : Bool) → nat_le m x ≡ a → (b : Bool) → nat_le 1 (reaching m xs) ≡ b → 1 ≤ cond a 1 0 + reaching m xs
        → (1 ≤ reaching m xs → Least m xs) → Least m (x ∷ xs)
    on true e true g h rest =
        let r = rest (grind (arith, nat_tests)) in
        lesser (grind (arith, nat_tests)) r (nat_le x r.member) refl
    on true e false g h rest =
        let a : m ≤ x = grind (arith, nat_tests) in
        record { member = x; here = inl refl; reaches = a; below = first_alone a (grind (arith, nat_tests)) }
    on false e b g h rest =
        let r = rest (omega arith) in
        record { member = r.member; here = inr r.here; reaches = r.reaches; below = not_first r (grind (arith, nat_tests)) }

-- as many reach a number as reach the least member that is at least it
reached_least : (m n : ℕ) (xs : List ℕ) → ((x : ℕ) → In x xs → m ≤ x → n ≤ x) → reaching m xs ≤ reaching n xs
reached_least m n [] h = omega arith
reached_least m n (x ∷ xs) h = on (nat_le m x) refl (nat_le n x) refl (reached_least m n xs (λ y i. h y (inr i)))
  where
    on : (a : Bool) → nat_le m x ≡ a → (b : Bool) → nat_le n x ≡ b → reaching m xs ≤ reaching n xs → cond a 1 0 + reaching m xs ≤ cond b 1 0 + reaching n xs
    on true e true g k = omega arith
    on true e false g k = let low = h x (inl refl) (grind (arith, nat_tests)) in absurd (grind (arith, nat_tests))
    on false e true g k = omega arith
    on false e false g k = omega arith

-- the best group of f others and the own one has the least of the own number and of the greatest that f others reach
pub uniform_is : (f own : ℕ) (xs : List ℕ) → 1 ≤ f → uniform_number f own xs ≡ min own (most_reached f xs 0 xs)
uniform_is f own xs some = same_reached (uniform_number f own xs) (min own (most_reached f xs 0 xs)) up down
  where
    nothing : IsReached f xs 0
    nothing n h = absurd (omega arith)

    up : (n : ℕ) → suc n ≤ uniform_number f own xs → suc n ≤ min own (most_reached f xs 0 xs)
    up n h =
        let r = to_reached f n own xs h in
        let p = r.own in
        let q = r.others in
        let least = exists_least (suc n) xs (omega arith) in
        let most = most_takes f xs 0 least.member xs least.here (let k = reached_least (suc n) least.member xs least.below in omega arith) in
        let reaches = least.reaches in
        omega arith

    down : (n : ℕ) → suc n ≤ min own (most_reached f xs 0 xs) → suc n ≤ uniform_number f own xs
    down n h = from_reached f n own xs (record { own = omega arith; others = most-reached f xs 0 xs nothing n (omega arith) })
