-- One more key at the end.
use Rattle.std.proofs.Common.{◌≡◌, ◌∙◌, ℕ, suc, ◌+◌, List, [], ◌∷◌, ◌++◌, length, Bool, true, false, cond, ap, sym, arith, append-nil}
use Rattle.us_index.specs.Places.{places_of, ends_in, put_last}
use Rattle.us_index.proofs.LastPlace.{comes_next, put_last-next}

one_place : (b : Bool) (i j : ℕ) → i ≡ j → cond b (i ∷ []) [] ≡ cond b (j ∷ []) []
one_place b i j e = ap (λ n. cond b (n ∷ []) []) e

pub places_of_push : {K : Type 0} (p : K → Bool) (i : ℕ) (ks : List K) (k : K) → places_of p i (ks ++ k ∷ []) ≡ places_of p i ks ++ cond (p k) ((i + length ks) ∷ []) []
places_of_push p i [] k = one_place (p k) i (i + 0) (omega arith)
places_of_push p i (x ∷ ks) k =
    let next : i + 1 + length ks ≡ i + suc (length ks) = omega arith in
    on (p x) (places_of_push p (i + 1) ks k ∙ ap (λ n. places_of p (i + 1) ks ++ cond (p k) (n ∷ []) []) next)
  where
    on : (b : Bool) → places_of p (i + 1) (ks ++ k ∷ []) ≡ places_of p (i + 1) ks ++ cond (p k) ((i + suc (length ks)) ∷ []) []
        → cond b (i ∷ places_of p (i + 1) (ks ++ k ∷ [])) (places_of p (i + 1) (ks ++ k ∷ []))
        ≡ cond b (i ∷ places_of p (i + 1) ks) (places_of p (i + 1) ks) ++ cond (p k) ((i + suc (length ks)) ∷ []) []
    on true e = ap (λ ns. i ∷ ns) e
    on false e = e

-- the places that are kept, where a key comes with place n
pub placed : {K : Type 0} (p : K → Bool) (ks ms : List K) (k : K) (n : ℕ) (was now : List ℕ) → n ≡ length ks → ms ≡ ks ++ k ∷ []
    → was ≡ places_of p 0 ks → now ≡ cond (p k) (put_last n was) was → now ≡ places_of p 0 ms
placed p ks ms k n was now at more before after =
    after ∙ ap (λ ns. cond (p k) ns was) (put_last-next n was next) ∙ on (p k) ∙ sym (ap (places_of p 0) more ∙ places_of_push p 0 ks k)
  where
    next : ends_in n was ≡ false
    next = ap (ends_in n) before ∙ comes_next p ks n (omega arith)

    zero-more : n ≡ 0 + length ks
    zero-more = omega arith

    on : (b : Bool) → cond b (was ++ n ∷ []) was ≡ places_of p 0 ks ++ cond b ((0 + length ks) ∷ []) []
    on true = (λ i. before i ++ zero-more i ∷ [])
    on false = before ∙ sym (append-nil (places_of p 0 ks))
