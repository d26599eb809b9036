-- Vectors as the code makes them: ten entries, written one after the other.
use Rattle.std.proofs.Common.{◌≡◌, ℕ, zero, suc, ◌+◌, ◌<◌, ◌≤◌, List, [], ◌∷◌, length, take, Bool, true, false, refl, sym, ap, arith, max, min}
use Rattle.std.specs.Prelude.{slice_set, nat_lt}
use Rattle.std.proofs.lemmas.Bool.Decides.{nat_tests}
use Rattle.std.proofs.lemmas.List.{get_or_past}
use Rattle.us_base.specs.Vector.{entry, at_most, join, meet, with_entry, sum_of}
use Rattle.us_base.proofs.Vectors.{at_most-true, at_most-from}

pub join-is : (v w r : List ℕ) → length v ≡ length r → length w ≡ length r → ((i : ℕ) → i < length r → entry r i ≡ max (entry v i) (entry w i)) → r ≡ join v w
unfolding join
join-is [] w [] a b h = on w b
  where
    on : (w : List ℕ) → length w ≡ 0 → [] ≡ w
    on [] e = refl
    on (y ∷ w) e = absurd (omega arith)
join-is (x ∷ v) w [] a b h = absurd (omega arith)
join-is [] w (z ∷ r) a b h = absurd (omega arith)
join-is (x ∷ v) [] (z ∷ r) a b h = absurd (omega arith)
join-is (x ∷ v) (y ∷ w) (z ∷ r) a b h =
    let e0 : z ≡ max x y = h 0 (omega arith) in
    let e1 : r ≡ join v w = join-is v w r (omega arith) (omega arith) (λ i l. h (suc i) (omega arith)) in
    cc

pub meet-is : (v w r : List ℕ) → length v ≡ length r → length w ≡ length r → ((i : ℕ) → i < length r → entry r i ≡ min (entry v i) (entry w i)) → r ≡ meet v w
unfolding meet
meet-is [] w [] a b h = refl
meet-is (x ∷ v) w [] a b h = absurd (omega arith)
meet-is [] w (z ∷ r) a b h = absurd (omega arith)
meet-is (x ∷ v) [] (z ∷ r) a b h = absurd (omega arith)
meet-is (x ∷ v) (y ∷ w) (z ∷ r) a b h =
    let e0 : z ≡ min x y = h 0 (omega arith) in
    let e1 : r ≡ meet v w = meet-is v w r (omega arith) (omega arith) (λ i l. h (suc i) (omega arith)) in
    cc

pub with_entry-is : (v : List ℕ) (i x : ℕ) → i < length v → slice_set v i x ≡ with_entry v i x
unfolding with_entry
with_entry-is [] i x h = absurd (omega arith)
with_entry-is (y ∷ v) zero x h = refl
with_entry-is (y ∷ v) (suc i) x h = ap (λ l. y ∷ l) (with_entry-is v i x (omega arith))

pub sum-take : (v : List ℕ) (i : ℕ) → i < length v → sum_of (take (i + 1) v) ≡ sum_of (take i v) + entry v i
sum-take [] i h = absurd (omega arith)
sum-take (x ∷ v) zero h = omega arith
sum-take (x ∷ v) (suc i) h = let e : suc i + 1 ≡ suc (i + 1) = omega arith in rw e (omega (arith, sum-take v i (omega arith)))

-- the test, by what a look at each place finds
pub at_most-found : (v w : List ℕ) (i : ℕ) → entry w i < entry v i → false ≡ at_most v w
at_most-found v w i less = on (at_most v w) refl
  where
    on : (b : Bool) → at_most v w ≡ b → false ≡ b
    on false e = refl
    on true e = absurd (omega (arith, at_most-true v w e i))

pub at_most-all : (v w : List ℕ) → ((i : ℕ) → i < length v → entry v i ≤ entry w i) → true ≡ at_most v w
at_most-all v w h = sym (at_most-from v w (λ i. on i (nat_lt i (length v)) refl))
  where
    on : (i : ℕ) → (b : Bool) → nat_lt i (length v) ≡ b → entry v i ≤ entry w i
    on i true e = h i (lt-from i (length v) e)
      where
        lt-from : (a b : ℕ) → nat_lt a b ≡ true → a < b
        lt-from a b e = grind (arith, nat_tests)
    on i false e =
        let le : length v ≤ i = le-from i (length v) e in
        let z : entry v i ≡ 0 = get_or_past v i 0 le in
        omega arith
      where
        le-from : (a b : ℕ) → nat_lt a b ≡ false → b ≤ a
        le-from a b e = grind (arith, nat_tests)
