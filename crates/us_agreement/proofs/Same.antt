-- Lists that agree on their first n.
use Rattle.std.proofs.Common.{◌≡◌, ◌⊎◌, inl, inr, ⊎_elim, ℕ, zero, suc, ◌+◌, ◌-◌, ◌<◌, ◌≤◌, List, [], ◌∷◌, ◌++◌, length, drop, refl, sym, ap, ◌∙◌, subst, arith}
use Rattle.std.specs.Prelude.{Some, None, Option, slice_get}
use Rattle.std.proofs.lemmas.Bool.{cases_eq}

-- two values are one or not
abbrev pub Apart : {E : Type 0} → E → E → Type 0
Apart x y = x ≡ y → ⊥

abbrev pub IsDecided : Type 0 → Type 0
IsDecided E = (x y : E) → (x ≡ y) ⊎ Apart x y

-- c, and then what stands in l behind as many entries
unfoldable pub merged : {E : Type 0} → List E → List E → List E
merged c l = c ++ drop (length c) l

pub record Same {E : Type 0} (n : ℕ) (xs ys : List E) : Type 0 where
  pub at : (k : ℕ) → k < n → slice_get xs k ≡ slice_get ys k

module _ {E : Type 0} where
  pub same_refl : (n : ℕ) (xs : List E) → Same n xs xs
  same_refl n xs = record { at = λ k h. refl }

  pub same_sym : {n : ℕ} {xs ys : List E} → Same n xs ys → Same n ys xs
  same_sym h = record { at = λ k l. sym (h.at k l) }

  pub same_trans : {n : ℕ} {xs ys zs : List E} → Same n xs ys → Same n ys zs → Same n xs zs
  same_trans g h = record { at = λ k l. g.at k l ∙ h.at k l }

  pub same_less : {n : ℕ} {xs ys : List E} (m : ℕ) → m ≤ n → Same n xs ys → Same m xs ys
  same_less m le h = record { at = λ k l. h.at k (omega arith) }

  pub some_below : (xs : List E) (k : ℕ) (x : E) → slice_get xs k ≡ Some x → k < length xs
  some_below [] k x e = absurd (cc)
  some_below (y ∷ xs) zero x e = omega arith
  some_below (y ∷ xs) (suc k) x e = let h = some_below xs k x e in omega arith

  pub below_some : (xs : List E) (k : ℕ) → k < length xs → (x : E) × (slice_get xs k ≡ Some x)
  below_some [] k h = absurd (omega arith)
  below_some (y ∷ xs) zero h = (y, refl)
  below_some (y ∷ xs) (suc k) h = below_some xs k (omega arith)

  -- agreeing within the one's length bounds the other's
  pub same_length : (n : ℕ) (xs ys : List E) → n ≤ length ys → Same n xs ys → n ≤ length xs
  same_length zero xs ys le h = omega arith
  same_length (suc n) xs ys le h = let b = below_some ys n (omega arith) in let k = some_below xs n b.0 (h.at n (omega arith) ∙ b.1) in omega arith

module _ {E : Type 0} (dec : IsDecided E) where
  get_eq : (a b : Option E) → (a ≡ b) ⊎ (a ≡ b → ⊥)
  get_eq None None = inl refl
  get_eq None (Some y) = inr (λ e. cc)
  get_eq (Some x) None = inr (λ e. cc)
  get_eq (Some x) (Some y) = ⊎_elim (λ e. inl (ap Some e)) (λ n. inr (λ e. n (cc))) (dec x y)

  pub decide_same : (n : ℕ) (xs ys : List E) → Same n xs ys ⊎ (Same n xs ys → ⊥)
  decide_same zero xs ys = inl (record { at = λ k l. absurd (omega arith) })
  decide_same (suc n) xs ys = on (decide_same n xs ys) (get_eq (slice_get xs n) (slice_get ys n))
    where
      more : Same n xs ys → slice_get xs n ≡ slice_get ys n → (k : ℕ) → k < suc n → slice_get xs k ≡ slice_get ys k
      more h e k l = ⊎_elim (λ (s : k ≡ n). subst (λ j. slice_get xs j ≡ slice_get ys j) (sym s) e) (λ (s : k ≡ n → ⊥). h.at k (omega arith)) (cases_eq k n)

      on : Same n xs ys ⊎ (Same n xs ys → ⊥) → (slice_get xs n ≡ slice_get ys n) ⊎ (slice_get xs n ≡ slice_get ys n → ⊥)
          → Same (suc n) xs ys ⊎ (Same (suc n) xs ys → ⊥)
      on (inl h) (inl e) = inl (record { at = more h e })
      on (inl h) (inr e) = inr (λ s. e (s.at n (omega arith)))
      on (inr h) e = inr (λ s. h (same_less n (omega arith) s))

module _ {E : Type 0} where
  pub get_drop : (n : ℕ) (xs : List E) (k : ℕ) → slice_get (drop n xs) k ≡ slice_get xs (n + k)
  get_drop zero xs k = let P : ℕ → Type 0 = λ j. slice_get xs k ≡ slice_get xs j in let e : k ≡ 0 + k = omega arith in subst P e refl
  get_drop (suc n) [] k = refl
  get_drop (suc n) (x ∷ xs) k =
      let P : ℕ → Type 0 = λ j. slice_get (drop n xs) k ≡ slice_get (x ∷ xs) j in let e : suc (n + k) ≡ suc n + k = omega arith in subst P e
      (get_drop n xs k)

  pub get_front : (xs ys : List E) (k : ℕ) → k < length xs → slice_get (xs ++ ys) k ≡ slice_get xs k
  get_front [] ys k h = absurd (omega arith)
  get_front (x ∷ xs) ys zero h = refl
  get_front (x ∷ xs) ys (suc k) h = get_front xs ys k (omega arith)

  pub get_back : (xs ys : List E) (k : ℕ) → slice_get (xs ++ ys) (length xs + k) ≡ slice_get ys k
  get_back [] ys k = let P : ℕ → Type 0 = λ j. slice_get ys j ≡ slice_get ys k in let e : k ≡ 0 + k = omega arith in subst P e refl
  get_back (x ∷ xs) ys k =
      let P : ℕ → Type 0 = λ j. slice_get (x ∷ xs ++ ys) j ≡ slice_get ys k in let e : suc (length xs + k) ≡ suc (length xs) + k = omega arith
      in subst P e (get_back xs ys k)

  pub same_front : (xs ys : List E) → Same (length xs) (xs ++ ys) xs
  same_front xs ys = record { at = λ k l. get_front xs ys k l }

  pub merged-front : (c l : List E) → Same (length c) (merged c l) c
  unfolding merged
  merged-front c l = same_front c (drop (length c) l)

  pub merged-back : (c l : List E) (k : ℕ) → length c ≤ k → slice_get (merged c l) k ≡ slice_get l k
  unfolding merged
  merged-back c l k h =
      let j = k - length c in
      let e : length c + j ≡ k = omega arith in
      subst (λ i. slice_get (c ++ drop (length c) l) i ≡ slice_get l i) e (get_back c (drop (length c) l) j ∙ get_drop (length c) l j)
