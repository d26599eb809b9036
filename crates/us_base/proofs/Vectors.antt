-- Vectors, entry by entry.
use Rattle.std.proofs.Common.{◌≡◌, ℕ, zero, suc, ◌+◌, ◌<◌, ◌≤◌, List, [], ◌∷◌, ◌++◌, true, refl, ap, arith, max, min}
use Rattle.std.proofs.lemmas.Bool.{leb-true, le-leb, and_parts, and_from}
use Rattle.us_base.specs.Vector.{entry, at_most, AtMost, join, meet, with_entry, sum_of}

-- AT MOST
pub at_most-true : (v w : List ℕ) → at_most v w ≡ true → (i : ℕ) → entry v i ≤ entry w i
unfolding at_most
at_most-true [] w h i = omega arith
at_most-true (x ∷ v) [] h zero = let e = and_parts _ _ h in leb-true x 0 e.0
at_most-true (x ∷ v) [] h (suc i) = let e = and_parts _ _ h in at_most-true v [] e.1 i
at_most-true (x ∷ v) (y ∷ w) h zero = let e = and_parts _ _ h in leb-true x y e.0
at_most-true (x ∷ v) (y ∷ w) h (suc i) = let e = and_parts _ _ h in at_most-true v w e.1 i

pub at_most-from : (v w : List ℕ) → ((i : ℕ) → entry v i ≤ entry w i) → at_most v w ≡ true
unfolding at_most
at_most-from [] w h = refl
at_most-from (x ∷ v) [] h = and_from _ _ (le-leb x 0 (h zero)) (at_most-from v [] (λ i. h (suc i)))
at_most-from (x ∷ v) (y ∷ w) h = and_from _ _ (le-leb x y (h zero)) (at_most-from v w (λ i. h (suc i)))

pub at_most-fact : (v w : List ℕ) → at_most v w ≡ true → AtMost v w
at_most-fact v w h = record { below = at_most-true v w h }

pub fact-at_most : (v w : List ℕ) → AtMost v w → at_most v w ≡ true
fact-at_most v w h = at_most-from v w h.below

pub at_most-refl : (v : List ℕ) → at_most v v ≡ true
at_most-refl v = at_most-from v v (λ i. omega arith)

pub at_most-trans : (u v w : List ℕ) → at_most u v ≡ true → at_most v w ≡ true → at_most u w ≡ true
at_most-trans u v w h k = at_most-from u w (λ i. omega (arith, at_most-true u v h i, at_most-true v w k i))

-- JOIN AND MEET
pub entry-join : (v w : List ℕ) (i : ℕ) → entry (join v w) i ≡ max (entry v i) (entry w i)
unfolding join
entry-join [] w i = omega arith
entry-join (x ∷ v) [] i = omega arith
entry-join (x ∷ v) (y ∷ w) zero = refl
entry-join (x ∷ v) (y ∷ w) (suc i) = entry-join v w i

pub entry-meet : (v w : List ℕ) (i : ℕ) → entry (meet v w) i ≡ min (entry v i) (entry w i)
unfolding meet
entry-meet [] w i = omega arith
entry-meet (x ∷ v) [] i = omega arith
entry-meet (x ∷ v) (y ∷ w) zero = refl
entry-meet (x ∷ v) (y ∷ w) (suc i) = entry-meet v w i

-- a join is above both, and the least such vector
pub at_most-join_left : (u v w : List ℕ) → at_most u v ≡ true → at_most u (join v w) ≡ true
at_most-join_left u v w h = at_most-from u (join v w) (λ i. omega (arith, at_most-true u v h i, entry-join v w i))

pub at_most-join_right : (u v w : List ℕ) → at_most u w ≡ true → at_most u (join v w) ≡ true
at_most-join_right u v w h = at_most-from u (join v w) (λ i. omega (arith, at_most-true u w h i, entry-join v w i))

pub join-at_most : (u v w : List ℕ) → at_most u w ≡ true → at_most v w ≡ true → at_most (join u v) w ≡ true
join-at_most u v w h k = at_most-from (join u v) w (λ i. omega (arith, at_most-true u w h i, at_most-true v w k i, entry-join u v i))

-- a meet is below both, and the greatest such vector
pub meet-at_most_left : (v w : List ℕ) → at_most (meet v w) v ≡ true
meet-at_most_left v w = at_most-from (meet v w) v (λ i. omega (arith, entry-meet v w i))

pub meet-at_most_right : (v w : List ℕ) → at_most (meet v w) w ≡ true
meet-at_most_right v w = at_most-from (meet v w) w (λ i. omega (arith, entry-meet v w i))

pub at_most-meet : (u v w : List ℕ) → at_most u v ≡ true → at_most u w ≡ true → at_most u (meet v w) ≡ true
at_most-meet u v w h k = at_most-from u (meet v w) (λ i. omega (arith, at_most-true u v h i, at_most-true u w k i, entry-meet v w i))

-- A CHANGED ENTRY
pub entry-with_same : (v : List ℕ) (i x : ℕ) → entry (with_entry v i x) i ≡ x
unfolding with_entry
entry-with_same [] zero x = refl
entry-with_same [] (suc i) x = entry-with_same [] i x
entry-with_same (y ∷ v) zero x = refl
entry-with_same (y ∷ v) (suc i) x = entry-with_same v i x

pub entry-with_other : (v : List ℕ) (i x j : ℕ) → (i ≡ j → ⊥) → entry (with_entry v i x) j ≡ entry v j
unfolding with_entry
entry-with_other [] zero x zero h = absurd (h refl)
entry-with_other [] zero x (suc j) h = refl
entry-with_other [] (suc i) x zero h = refl
entry-with_other [] (suc i) x (suc j) h = entry-with_other [] i x j (λ e. h (ap suc e))
entry-with_other (y ∷ v) zero x zero h = absurd (h refl)
entry-with_other (y ∷ v) zero x (suc j) h = refl
entry-with_other (y ∷ v) (suc i) x zero h = refl
entry-with_other (y ∷ v) (suc i) x (suc j) h = entry-with_other v i x j (λ e. h (ap suc e))

-- THE SUM
sum-empty : (v : List ℕ) → ((i : ℕ) → entry v i ≤ 0) → sum_of v ≡ 0
sum-empty [] h = refl
sum-empty (x ∷ v) h = omega (arith, h zero, sum-empty v (λ i. h (suc i)))

pub sum-at_most : (v w : List ℕ) → ((i : ℕ) → entry v i ≤ entry w i) → sum_of v ≤ sum_of w
sum-at_most [] w h = omega arith
sum-at_most (x ∷ v) [] h = omega (arith, sum-empty (x ∷ v) h)
sum-at_most (x ∷ v) (y ∷ w) h = omega (arith, h zero, sum-at_most v w (λ i. h (suc i)))

-- one entry strictly below
pub sum-below : (v w : List ℕ) → ((i : ℕ) → entry v i ≤ entry w i) → (k : ℕ) → entry v k < entry w k → sum_of v < sum_of w
sum-below [] [] h k less = omega arith
sum-below [] (y ∷ w) h zero less = omega arith
sum-below [] (y ∷ w) h (suc k) less = omega (arith, sum-below [] w (λ i. h (suc i)) k less)
sum-below (x ∷ v) [] h k less = omega arith
sum-below (x ∷ v) (y ∷ w) h zero less = omega (arith, sum-at_most v w (λ i. h (suc i)))
sum-below (x ∷ v) (y ∷ w) h (suc k) less = omega (arith, h zero, sum-below v w (λ i. h (suc i)) k less)

-- one number more
pub sum-push : (v : List ℕ) (x : ℕ) → sum_of (v ++ x ∷ []) ≡ sum_of v + x
sum-push [] x = omega arith
sum-push (y ∷ v) x = omega (arith, sum-push v x)
