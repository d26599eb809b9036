-- Which place is the last of a key.
use Rattle.std.proofs.Common.{◌≡◌, ◌∙◌, ℕ, suc, zero, ◌+◌, ◌-◌, ◌≤◌, List, [], ◌∷◌, ◌++◌, length, Bool, true, false, cond, refl, ap, arith, length-append}
use Rattle.std.proofs.lemmas.Bool.Decides.{nat_tests}
use Rattle.std.specs.Prelude.{Some, ◌==◌, slice_get}
use Rattle.us_index.specs.Places.{places_of, is_number, ends_in, put_last}

pub slice_get_seam : {X : Type 0} (xs : List X) (y : X) (ys : List X) → slice_get (xs ++ y ∷ ys) (length xs) ≡ Some y
slice_get_seam [] y ys = refl
slice_get_seam (x ∷ xs) y ys = slice_get_seam xs y ys

itself : (n : ℕ) → (n == n) ≡ true
itself n = grind (arith, nat_tests)

other : (i n : ℕ) → suc i ≤ n → (i == n) ≡ false
other i n h = grind (arith, nat_tests)

-- a place that was put at the end is there
pub ends_in-put : (n : ℕ) (ns : List ℕ) → ends_in n (ns ++ n ∷ []) ≡ true
ends_in-put n ns =
    let at : length (ns ++ n ∷ []) - 1 ≡ length ns = omega (arith, length-append ns (n ∷ [])) in
    ap (λ j. is_number n (slice_get (ns ++ n ∷ []) j)) at ∙ ap (is_number n) (slice_get_seam ns n []) ∙ itself n

-- one more place in front
not_in_front : (n i : ℕ) (ns : List ℕ) → suc i ≤ n → ((j : ℕ) → is_number n (slice_get ns j) ≡ false) → (b : Bool) (j : ℕ)
    → is_number n (slice_get (cond b (i ∷ ns) ns) j) ≡ false
not_in_front n i ns h rest true zero = other i n h
not_in_front n i ns h rest true (suc j) = rest j
not_in_front n i ns h rest false j = rest j

-- each place is below the end of the list
not_at : {K : Type 0} (p : K → Bool) (ks : List K) (i n : ℕ) → i + length ks ≤ n → (j : ℕ) → is_number n (slice_get (places_of p i ks) j) ≡ false
not_at p [] i n h j = refl
not_at p (k ∷ ks) i n h j = not_in_front n i (places_of p (i + 1) ks) (omega arith) (not_at p ks (i + 1) n (omega arith)) (p k) j

-- so none of them is the place of what comes next
pub comes_next : {K : Type 0} (p : K → Bool) (ks : List K) (n : ℕ) → length ks ≤ n → ends_in n (places_of p 0 ks) ≡ false
comes_next p ks n h = not_at p ks 0 n (omega arith) (length (places_of p 0 ks) - 1)

pub put_last-there : (n : ℕ) (ns : List ℕ) → ends_in n ns ≡ true → put_last n ns ≡ ns
unfolding put_last
put_last-there n ns h = ap (λ b. cond b ns (ns ++ n ∷ [])) h

pub put_last-next : (n : ℕ) (ns : List ℕ) → ends_in n ns ≡ false → put_last n ns ≡ ns ++ n ∷ []
unfolding put_last
put_last-next n ns h = ap (λ b. cond b ns (ns ++ n ∷ [])) h
