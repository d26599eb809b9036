-- Fields that are made of fields are read as they are encoded.
use Rattle.std.proofs.Common.{◌≡◌, ℕ, suc, ◌^◌, ◌<◌, ◌≤◌, ◌%◌, ◌==◌, ◌⊎◌, inl, inr, Bool, true, false, cond, List, [], ◌∷◌, ◌++◌, length, Option, Some, None, refl, sym, ap, subst, ◌∙◌, arith}
use Rattle.std.specs.Int.{w8, w16, w64, to_be_bytes}
use Rattle.std.specs.List.{AllByRecursion}
use Rattle.std.proofs.lemmas.Bool.{eqb-true, eq-eqb, cases_lt}
use Rattle.us_wire.specs.Fields.{StandsAt, number_at}
use Rattle.us_wire.specs.Decoders.{Decoder, and_then, many_at, many_encoding, number_between_at, largest_number, IsCodec, IsCodecWithin, IsBetween}
use Rattle.us_wire.proofs.Encoded.{some, wide8, wide16, wide64, reads_numbers}
use Rattle.us_wire.proofs.Combined.{on, split, found_one, reads, refit, reads_then, reads_made, reads_made_two, reads_nothing, reads_none, reads_either, reads_passing, reads_many, reads_between}
use Rattle.us_fields.specs.Lists.{both_at, made_at, coded_at, list_encoding, ListFits, list_at, is_in_order, ordered_at}

-- ---- bytes and numbers

pub reads_bytes : IsCodec (λ n. n ≤ 255) (λ n. n ∷ []) (number_at w8)
reads_bytes =
    let law = reads_numbers w8 wide8 in
    refit (λ n. n < 256 ^ 1) (λ n. n ≤ 255) (to_be_bytes w8) (λ n. n ∷ []) (number_at w8) (reads (λ n. n < 256 ^ 1) (to_be_bytes w8) (number_at w8) law.found law.again)
    (λ n f. omega (arith, f)) (λ n f. omega (arith, f)) (λ n f. λ i. same n (omega (arith, f)) i ∷ [])
  where
    same : (n : ℕ) → n < 256 → n % 256 ≡ n
    same n lt = omega arith

pub reads_number : IsCodec (λ n. n ≤ largest_number) (to_be_bytes w64) (number_between_at w64 0 largest_number)
reads_number = refit (IsBetween (256 ^ 8) 0 largest_number) (λ n. n ≤ largest_number) (to_be_bytes w64) (to_be_bytes w64) (number_between_at w64 0 largest_number) (reads_between w64 wide64 0 largest_number)
    (λ n f. f.not_more) (λ n f. record { fits = omega (arith, f); enough = omega arith; not_more = f }) (λ n f. refl)

-- ---- one behind the other

pub reads_both : {A B : Type 0} (F : A → Type 0) (s : A → List ℕ) (r : Decoder A) (G : B → Type 0) (t : B → List ℕ) (q : Decoder B) → IsCodec F s r → IsCodec G t q
    → IsCodec {A = A × B} (λ p. F p.0 × G p.1) (λ p. s p.0 ++ t p.1) (both_at r q)
reads_both {A = A} {B = B} F s r G t q one two =
    reads_made_two F s r G t q (λ (a : A) (b : B). (a, b)) (λ (p : A × B). F p.0 × G p.1) (λ p. s p.0 ++ t p.1) one two
    (λ a b f g. (f, g)) (λ a b f g. refl) (λ p h. (p.0, p.1, refl, h.0, h.1))

-- one value made of what is read at a place within the input
reads_made_on : {A B : Type 0} (F : A → Type 0) (s : A → List ℕ) (r : Decoder A) (make : A → B) (G : B → Type 0) (t : B → List ℕ)
    → IsCodecWithin F s r → ((a : A) → F a → G (make a)) → ((a : A) → F a → s a ≡ t (make a)) → ((b : B) → G b → (a : A) × (make a ≡ b) × F a) → IsCodecWithin G t (made_at make r)
reads_made_on {A = A} {B = B} F s r make G t law to same back = record {
  found = λ input at b next are within e.
      let p = split (r input at) (λ a next. Some (make a, next)) b next e in
      let f = law.found input at p.first p.mid are within p.is in
      let one = found_one (make p.first) b p.mid next p.rest in
      let P : B → ℕ → Type 0 = λ c n. StandsAt (t c) input at n × G c in
      let stands : StandsAt (t (make p.first)) input at p.mid = subst (λ (w : List ℕ). StandsAt w input at p.mid) (same p.first f.1) f.0 in
      subst (λ (n : ℕ). P b n) one.1 (subst (λ (c : B). P c p.mid) one.0 (stands, to p.first f.1));
  again = λ input at b next fits stands.
      let p = back b fits in
      let encoded : s p.0 ≡ t b = same p.0 p.2 ∙ ap t p.1 in
      ap (λ (o : Option (A × ℕ)). and_then o (λ a next. Some (make a, next))) (law.again input at p.0 next p.2 (subst (λ (w : List ℕ). StandsAt w input at next) (sym encoded) stands))
      ∙ ap (λ (c : B). some {A = B × ℕ} (c, next)) p.1;
}

-- a field, and another whose encoding may be empty
pub reads_both_on : {A B : Type 0} (F : A → Type 0) (s : A → List ℕ) (r : Decoder A) (G : B → Type 0) (t : B → List ℕ) (q : Decoder B) → IsCodec F s r → IsCodecWithin G t q
    → IsCodec {A = A × B} (λ p. F p.0 × G p.1) (λ p. s p.0 ++ t p.1) (both_at r q)
reads_both_on {A = A} {B = B} F s r G t q one two =
    reads_then F s r (λ (p : A × B). p.0) (λ p. G p.1) (λ p. t p.1) (λ a. made_at (λ b. (a, b)) q) one
    (λ a f. reads_made_on G t q (λ (b : B). (a, b)) (λ (p : A × B). (p.0 ≡ a) × G p.1) (λ p. t p.1) two (λ b g. (refl, g)) (λ b g. refl) (λ p h. (p.1, (λ i. (sym h.0 i, p.1)), h.1)))

-- ---- a code, and what it tells

pub reads_coded : {A : Type 0} (code : A → ℕ) (F : A → Type 0) (s : A → List ℕ) (fields : ℕ → Decoder A) → ((a : A) → code a ≤ 255) → ((n : ℕ) → IsCodecWithin (λ a. (code a ≡ n) × F a) s (fields n))
    → IsCodec F (λ a. code a ∷ s a) (coded_at fields)
reads_coded {A = A} code F s fields small law =
    refit _ F _ (λ a. code a ∷ s a) (coded_at fields)
    (reads_then (λ n. n ≤ 255) (λ n. n ∷ []) (number_at w8) code F s fields reads_bytes (λ n f. law n))
    (λ a f. f.1) (λ a f. (small a, f)) (λ a f. refl)

-- the code is this one, or a greater one
pub reads_next : {A : Type 0} (n k : ℕ) (G : A → Type 0) (t : A → List ℕ) (x y : Decoder A) → k ≤ n → (n ≡ k → IsCodecWithin G t x) → (suc k ≤ n → IsCodecWithin G t y)
    → IsCodecWithin G t (λ input at. cond (n == k) (x input at) (y input at))
reads_next n k G t x y le here there = reads_either (n == k) G t x y (λ e. here (eqb-true n k e)) (λ e. there (above e (cases_lt k n)))
  where
    above : (n == k) ≡ false → ((k < n) ⊎ (n ≤ k)) → suc k ≤ n
    above e (inl lt) = omega (arith, lt)
    above e (inr ge) = let same : n ≡ k = omega (arith, le, ge) in let yes' = eq-eqb n k same in absurd (cc)

-- what has this code and no fields
pub reads_bare : {A : Type 0} (code : A → ℕ) (F : A → Type 0) (s : A → List ℕ) (n k : ℕ) (c : A) → n ≡ k → code c ≡ k → F c → s c ≡ [] → ((a : A) → code a ≡ k → c ≡ a)
    → IsCodecWithin (λ a. (code a ≡ n) × F a) s (λ input at. Some (c, at))
reads_bare code F s n k c e is fits empty only = reads_nothing c (λ a. (code a ≡ n) × F a) s (λ a h. only a (h.0 ∙ e)) (is ∙ sym e, fits) empty

-- what has this code and is made of a field
pub reads_case : {A B : Type 0} (code : B → ℕ) (G : B → Type 0) (t : B → List ℕ) (n k : ℕ) (F : A → Type 0) (s : A → List ℕ) (r : Decoder A) (make : A → B) → n ≡ k → IsCodec F s r
    → ((a : A) → F a → (code (make a) ≡ k) × G (make a)) → ((a : A) → F a → s a ≡ t (make a)) → ((b : B) → code b ≡ k → G b → (a : A) × (make a ≡ b) × F a)
    → IsCodecWithin (λ b. (code b ≡ n) × G b) t (made_at make r)
reads_case code G t n k F s r make e law to same back =
    on _ _ _ (reads_made F s r make (λ b. (code b ≡ n) × G b) t law (λ a f. let h = to a f in (h.0 ∙ sym e, h.1)) same (λ b h. back b (h.0 ∙ e) h.1))

-- no code is any of these
pub reads_no_code : {A : Type 0} (code : A → ℕ) (F : A → Type 0) (s : A → List ℕ) (n : ℕ) → ((a : A) → code a ≡ n → ⊥) → IsCodecWithin (λ a. (code a ≡ n) × F a) s (λ input at. None)
reads_no_code code F s n never = reads_none (λ a. (code a ≡ n) × F a) s (λ a h. never a h.0)

-- ---- lists

pub reads_lists : {A : Type 0} (F : A → Type 0) (s : A → List ℕ) (r : Decoder A) (least most : ℕ) → most ≤ 65535 → IsCodec F s r → IsCodec (ListFits least most F) (list_encoding s) (list_at least most r)
unfolding list_at
reads_lists {A = A} F s r least most few law =
    refit _ (ListFits least most F) _ (list_encoding s) (list_at least most r)
    (reads_then (IsBetween (256 ^ 2) least most) (to_be_bytes w16) (number_between_at w16 least most) (λ (xs : List A). length xs) (AllByRecursion F) (many_encoding s) (λ count. many_at r count)
    (reads_between w16 wide16 least most) (λ count f. reads_many F s r law count))
    (λ xs f. record { enough = f.0.enough; not_more = f.0.not_more; each = f.1 })
    (λ xs f. (record { fits = omega (arith, f.not_more, few); enough = f.enough; not_more = f.not_more }, f.each)) (λ xs f. refl)

pub reads_ordered : {A : Type 0} (F : List A → Type 0) (s : List A → List ℕ) (r : Decoder (List A)) (before : A → A → Bool) → IsCodec F s r
    → IsCodec (λ xs. F xs × (is_in_order before xs ≡ true)) s (ordered_at before r)
reads_ordered F s r before law = reads_passing F s r (is_in_order before) (λ xs. is_in_order before xs ≡ true) law (λ xs e. e) (λ xs e. e)
