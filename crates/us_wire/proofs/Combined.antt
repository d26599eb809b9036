-- Readings that are made of readings.
use Rattle.std.proofs.Common.{◌≡◌, ℕ, zero, suc, ◌+◌, ◌-◌, append_assoc, append-nil, ◌^◌, ◌%◌, ◌<◌, ◌≤◌, Bool, true, false, cond, leb, ◌&&◌, List, [], ◌∷◌, ◌++◌, length, drop, Option, Some, None, refl, sym, ap, subst, ◌∙◌, arith}
use Rattle.std.specs.Int.{Width, w8, byte_len, to_be_bytes}
use Rattle.std.specs.List.{AllByRecursion}
use Rattle.std.proofs.Math.Seq.{append_snoc}
use Rattle.std.proofs.lemmas.Bool.{leb-true, le-leb, and_parts, and_from, cond-true}
use Rattle.us_wire.specs.Fields.{StandsAt, AreBytes, number_at}
use Rattle.us_wire.specs.Decoders.{Decoder, and_then, if_passes, many_at, many_encoding, number_between_at, IsCodec, IsCodecWithin, IsBetween}
use Rattle.us_wire.proofs.Encoded.{Stands-then, Stands-first, some, IsWide, reads_numbers, wide8}

pub Stands-nothing : (input : List ℕ) (at : ℕ) → at ≤ length input → StandsAt [] input at at
Stands-nothing input at within = record { parts = refl; next_is = omega arith; within = within }

-- what the first found, and what was read behind it
pub record Split {A B : Type 0} (o : Option (A × ℕ)) (on : A → ℕ → Option (B × ℕ)) (b : B) (next : ℕ) : Type 0 where
  pub first : A
  pub mid : ℕ
  pub is : o ≡ Some (first, mid)
  pub rest : on first mid ≡ Some (b, next)

pub split : {A B : Type 0} (o : Option (A × ℕ)) (on : A → ℕ → Option (B × ℕ)) (b : B) (next : ℕ) → and_then o on ≡ Some (b, next) → Split o on b next
split None on b next e = absurd (cc)
split (Some (a, mid)) on b next e = record { first = a; mid = mid; is = refl; rest = e }

pub found_one : {A : Type 0} (x y : A) (m n : ℕ) → ◌≡◌ {A = Option (A × ℕ)} (Some (x, m)) (Some (y, n)) → (x ≡ y) × (m ≡ n)
found_one {A = A} x y m n e = let P : A × ℕ → Type 0 = λ p. (x ≡ p.0) × (m ≡ p.1) in let pair : ◌≡◌ {A = A × ℕ} (x, m) (y, n) = cc in subst P pair (refl, refl)

clash : {A : Type 0} (o : Option A) (x : A) → o ≡ None → o ≡ Some x → ⊥
clash o x e f = cc

-- the third law follows from the second
pub reads : {A : Type 0} (F : A → Type 0) (s : A → List ℕ) (r : Decoder A)
    → ((input : List ℕ) (at : ℕ) (a : A) (next : ℕ) → AreBytes input → r input at ≡ Some (a, next) → StandsAt (s a) input at next × F a)
    → ((input : List ℕ) (at : ℕ) (a : A) (next : ℕ) → F a → StandsAt (s a) input at next → r input at ≡ Some (a, next))
    → IsCodec F s r
reads F s r found again = record {
  found = found;
  again = again;
  none = λ input at nothing a next fits stands. clash (r input at) (a, next) nothing (again input at a next fits stands);
}

pub on : {A : Type 0} (F : A → Type 0) (s : A → List ℕ) (r : Decoder A) → IsCodec F s r → IsCodecWithin F s r
on F s r law = record { found = λ input at a next are within e. law.found input at a next are e; again = law.again }

-- other words for the same values and encodings
pub refit : {A : Type 0} (F G : A → Type 0) (s t : A → List ℕ) (r : Decoder A) → IsCodec F s r → ((a : A) → F a → G a) → ((a : A) → G a → F a) → ((a : A) → F a → s a ≡ t a) → IsCodec G t r
refit F G s t r law to back same = reads G t r
    (λ input at a next are e. let f = law.found input at a next are e in
    (subst (λ (w : List ℕ). StandsAt w input at next) (same a f.1) f.0, to a f.1))
    (λ input at a next fits stands. law.again input at a next (back a fits) (subst (λ (w : List ℕ). StandsAt w input at next) (sym (same a (back a fits))) stands))

pub refit_on : {A : Type 0} (F G : A → Type 0) (s t : A → List ℕ) (r : Decoder A) → IsCodecWithin F s r → ((a : A) → F a → G a) → ((a : A) → G a → F a) → ((a : A) → F a → s a ≡ t a) → IsCodecWithin G t r
refit_on F G s t r law to back same = record {
  found = λ input at a next are within e. let f = law.found input at a next are within e in
      (subst (λ (w : List ℕ). StandsAt w input at next) (same a f.1) f.0, to a f.1);
  again = λ input at a next fits stands. law.again input at a next (back a fits) (subst (λ (w : List ℕ). StandsAt w input at next) (sym (same a (back a fits))) stands);
}

-- a field, and what it tells to read behind it
pub reads_then : {A B : Type 0} (F : A → Type 0) (s : A → List ℕ) (r : Decoder A) (first : B → A) (G : B → Type 0) (t : B → List ℕ) (k : A → Decoder B)
    → IsCodec F s r → ((a : A) → F a → IsCodecWithin (λ b. (first b ≡ a) × G b) t (k a))
    → IsCodec (λ b. F (first b) × G b) (λ b. s (first b) ++ t b) (λ input at. and_then (r input at) (λ a next. k a input next))
reads_then {A = A} {B = B} F s r first G t k law rest = reads (λ b. F (first b) × G b) (λ b. s (first b) ++ t b) (λ input at. and_then (r input at) (λ a next. k a input next))
    (λ input at b next are e.
    let p = split (r input at) (λ a next. k a input next) b next e in
    let f = law.found input at p.first p.mid are p.is in
    let g = (rest p.first f.1).found input p.mid b next are f.0.within p.rest in
    let back : p.first ≡ first b = sym g.1.0 in
    let stands : StandsAt (s (first b)) input at p.mid = subst (λ (a : A). StandsAt (s a) input at p.mid) back f.0 in
    (Stands-then (s (first b)) (t b) input at p.mid next stands g.0, (subst F back f.1, g.1.1)))
    (λ input at b next fits stands.
    let parts = Stands-first (s (first b)) (t b) input at next stands in
    let mid = at + length (s (first b)) in
    ap (λ (o : Option (A × ℕ)). and_then o (λ a next. k a input next)) (law.again input at (first b) mid fits.0 parts.0)
    ∙ (rest (first b) fits.0).again input mid b next (refl, fits.1) parts.1)

-- one value made of what is read
pub reads_made : {A B : Type 0} (F : A → Type 0) (s : A → List ℕ) (r : Decoder A) (make : A → B) (G : B → Type 0) (t : B → List ℕ)
    → IsCodec F s r → ((a : A) → F a → G (make a)) → ((a : A) → F a → s a ≡ t (make a)) → ((b : B) → G b → (a : A) × (make a ≡ b) × F a)
    → IsCodec G t (λ input at. and_then (r input at) (λ a next. Some (make a, next)))
reads_made {A = A} {B = B} F s r make G t law to same back = reads G t (λ input at. and_then (r input at) (λ a next. Some (make a, next)))
    (λ input at b next are e.
    let p = split (r input at) (λ a next. Some (make a, next)) b next e in
    let f = law.found input at p.first p.mid are p.is in
    let one = found_one (make p.first) b p.mid next p.rest in
    let P : B → ℕ → Type 0 = λ c n. StandsAt (t c) input at n × G c in
    let stands : StandsAt (t (make p.first)) input at p.mid = subst (λ (w : List ℕ). StandsAt w input at p.mid) (same p.first f.1) f.0 in
    subst (λ (n : ℕ). P b n) one.1 (subst (λ (c : B). P c p.mid) one.0 (stands, to p.first f.1)))
    (λ input at b next fits stands.
    let p = back b fits in
    let encoded : s p.0 ≡ t b = same p.0 p.2 ∙ ap t p.1 in
    ap (λ (o : Option (A × ℕ)). and_then o (λ a next. Some (make a, next))) (law.again input at p.0 next p.2 (subst (λ (w : List ℕ). StandsAt w input at next) (sym encoded) stands))
    ∙ ap (λ (c : B). some {A = B × ℕ} (c, next)) p.1)

-- one value made of two that are read
pub reads_made_two : {A B C : Type 0} (F : A → Type 0) (s : A → List ℕ) (r : Decoder A) (G : B → Type 0) (t : B → List ℕ) (q : Decoder B) (make : A → B → C) (H : C → Type 0) (u : C → List ℕ)
    → IsCodec F s r → IsCodec G t q → ((a : A) (b : B) → F a → G b → H (make a b)) → ((a : A) (b : B) → F a → G b → s a ++ t b ≡ u (make a b)) → ((c : C) → H c → (a : A) × (b : B) × (make a b ≡ c) × F a × G b)
    → IsCodec H u (λ input at. and_then (r input at) (λ a mid. and_then (q input mid) (λ b next. Some (make a b, next))))
reads_made_two {A = A} {B = B} {C = C} F s r G t q make H u one two to same back = reads H u (λ input at. and_then (r input at) (λ a mid. and_then (q input mid) (λ b next. Some (make a b, next))))
    (λ input at c next are e.
    let p = split (r input at) (λ a mid. and_then (q input mid) (λ b next. Some (make a b, next))) c next e in
    let f = one.found input at p.first p.mid are p.is in
    let k = split (q input p.mid) (λ b next. Some (make p.first b, next)) c next p.rest in
    let g = two.found input p.mid k.first k.mid are k.is in
    let made = found_one (make p.first k.first) c k.mid next k.rest in
    let P : C → ℕ → Type 0 = λ d n. StandsAt (u d) input at n × H d in
    let stands : StandsAt (u (make p.first k.first)) input at k.mid =
    subst (λ (w : List ℕ). StandsAt w input at k.mid) (same p.first k.first f.1 g.1) (Stands-then (s p.first) (t k.first) input at p.mid k.mid f.0 g.0) in
    subst (λ (n : ℕ). P c n) made.1 (subst (λ (d : C). P d k.mid) made.0 (stands, to p.first k.first f.1 g.1)))
    (λ input at c next fits stands.
    let p = back c fits in
    let encoded : s p.0 ++ t p.1 ≡ u c = same p.0 p.1 p.3 p.4 ∙ ap u p.2 in
    let parts = Stands-first (s p.0) (t p.1) input at next (subst (λ (w : List ℕ). StandsAt w input at next) (sym encoded) stands) in
    let mid = at + length (s p.0) in
    ap (λ (o : Option (A × ℕ)). and_then o (λ a mid. and_then (q input mid) (λ b next. some {A = C × ℕ} (make a b, next)))) (one.again input at p.0 mid p.3 parts.0)
    ∙ ap (λ (o : Option (B × ℕ)). and_then o (λ b next. some {A = C × ℕ} (make p.0 b, next))) (two.again input mid p.1 next p.4 parts.1)
    ∙ ap (λ (d : C). some {A = C × ℕ} (d, next)) p.2)

-- no bytes, and one value
pub reads_nothing : {B : Type 0} (c : B) (G : B → Type 0) (t : B → List ℕ) → ((b : B) → G b → c ≡ b) → G c → t c ≡ [] → IsCodecWithin G t (λ input at. Some (c, at))
reads_nothing {B = B} c G t only fits empty = record {
  found = λ input at b next are within e.
      let one = found_one c b at next e in
      let P : B → ℕ → Type 0 = λ d n. StandsAt (t d) input at n × G d in
      let stands : StandsAt (t c) input at at = subst (λ (w : List ℕ). StandsAt w input at at) (sym empty) (Stands-nothing input at within) in
      subst (λ (n : ℕ). P b n) one.1 (subst (λ (d : B). P d at) one.0 (stands, fits));
  again = λ input at b next holds stands.
      let is = only b holds in
      let bare : StandsAt [] input at next = subst (λ (w : List ℕ). StandsAt w input at next) (ap t (sym is) ∙ empty) stands in
      let there : at ≡ next = omega (arith, bare.next_is) in
      ap (λ (d : B). some {A = B × ℕ} (d, at)) is ∙ ap (λ (n : ℕ). some {A = B × ℕ} (b, n)) there;
}

-- no bytes are any of these
pub reads_none : {B : Type 0} (G : B → Type 0) (t : B → List ℕ) → ((b : B) → G b → ⊥) → IsCodecWithin G t (λ input at. None)
reads_none G t never = record {
  found = λ input at b next are within e. absurd (cc);
  again = λ input at b next holds stands. absurd (never b holds);
}

-- one of two, by a test
pub reads_either : {B : Type 0} (test : Bool) (G : B → Type 0) (t : B → List ℕ) (x y : Decoder B) → (test ≡ true → IsCodecWithin G t x) → (test ≡ false → IsCodecWithin G t y)
    → IsCodecWithin G t (λ input at. cond test (x input at) (y input at))
reads_either true G t x y here there = here refl
reads_either false G t x y here there = there refl

-- what passes a test was found, and passes it
passing : {A : Type 0} (test : A → Bool) (o : Option (A × ℕ)) (a : A) (next : ℕ) → if_passes test o ≡ Some (a, next) → (o ≡ Some (a, next)) × (test a ≡ true)
passing test None a next e = absurd (cc)
passing {A = A} test (Some (c, mid)) a next e = chosen (test c) refl e
  where
    chosen : (b : Bool) → test c ≡ b → cond {A = Option (A × ℕ)} b (Some (c, mid)) None ≡ Some (a, next) → (◌≡◌ {A = Option (A × ℕ)} (Some (c, mid)) (Some (a, next))) × (test a ≡ true)
    chosen true is e = (e, ap test (sym (found_one c a mid next e).0) ∙ is)
    chosen false is e = absurd (cc)

-- only what passes a test
pub reads_passing : {A : Type 0} (F : A → Type 0) (s : A → List ℕ) (r : Decoder A) (test : A → Bool) (P : A → Type 0) → IsCodec F s r → ((a : A) → test a ≡ true → P a) → ((a : A) → P a → test a ≡ true)
    → IsCodec (λ a. F a × P a) s (λ input at. if_passes test (r input at))
reads_passing {A = A} F s r test P law to back = reads (λ a. F a × P a) s (λ input at. if_passes test (r input at))
    (λ input at a next are e.
    let p = passing test (r input at) a next e in
    let f = law.found input at a next are p.0 in
    (f.0, (f.1, to a p.1)))
    (λ input at a next fits stands. ap (if_passes test) (law.again input at a next fits.0 stands) ∙ cond-true _ _ _ (back a fits.1))

pub reads_passing_on : {A : Type 0} (F : A → Type 0) (s : A → List ℕ) (r : Decoder A) (test : A → Bool) (P : A → Type 0) → IsCodecWithin F s r → ((a : A) → test a ≡ true → P a) → ((a : A) → P a → test a ≡ true)
    → IsCodecWithin (λ a. F a × P a) s (λ input at. if_passes test (r input at))
reads_passing_on {A = A} F s r test P law to back = record {
  found = λ input at a next are within e.
      let p = passing test (r input at) a next e in
      let f = law.found input at a next are within p.0 in
      (f.0, (f.1, to a p.1));
  again = λ input at a next fits stands. ap (if_passes test) (law.again input at a next fits.0 stands) ∙ cond-true _ _ _ (back a fits.1);
}

-- one more of a kind
reads_more : {A : Type 0} (F : A → Type 0) (s : A → List ℕ) (r : Decoder A) → IsCodec F s r → (n : ℕ) → IsCodecWithin (λ xs. (length xs ≡ n) × AllByRecursion F xs) (many_encoding s) (many_at r n)
    → IsCodec (λ xs. (length xs ≡ suc n) × AllByRecursion F xs) (many_encoding s) (many_at r (suc n))
unfolding many_at many_encoding
reads_more {A = A} F s r law n others = reads (λ xs. (length xs ≡ suc n) × AllByRecursion F xs) (many_encoding s) (many_at r (suc n))
    (λ input at xs next are e.
    let p = split (r input at) (λ a next. and_then (many_at r n input next) (λ others end. Some (a ∷ others, end))) xs next e in
    let q = split (many_at r n input p.mid) (λ others end. Some (p.first ∷ others, end)) xs next p.rest in
    let one = found_one (p.first ∷ q.first) xs q.mid next q.rest in
    let f = law.found input at p.first p.mid are p.is in
    let g = others.found input p.mid q.first q.mid are f.0.within q.is in
    let P : List A → ℕ → Type 0 = λ ys m. StandsAt (many_encoding s ys) input at m × ((length ys ≡ suc n) × AllByRecursion F ys) in
    let len : length (p.first ∷ q.first) ≡ suc n = omega (arith, g.1.0) in
    subst (λ (m : ℕ). P xs m) one.1 (subst (λ (ys : List A). P ys q.mid) one.0
    (Stands-then (s p.first) (many_encoding s q.first) input at p.mid q.mid f.0 g.0, (len, (f.1, g.1.1)))))
    again
  where
    again : (input : List ℕ) (at : ℕ) (xs : List A) (next : ℕ) → ((length xs ≡ suc n) × AllByRecursion F xs) → StandsAt (many_encoding s xs) input at next → many_at r (suc n) input at ≡ Some (xs, next)
    again input at [] next fits stands = absurd (omega (arith, fits.0))
    again input at (x ∷ xs) next fits stands =
        let parts = Stands-first (s x) (many_encoding s xs) input at next stands in
        let mid = at + length (s x) in
        let len : length xs ≡ n = omega (arith, fits.0) in
        ap (λ (o : Option (A × ℕ)). and_then o (λ a next. and_then (many_at r n input next) (λ others end. some {A = List A × ℕ} (a ∷ others, end)))) (law.again input at x mid fits.1.0 parts.0)
        ∙ ap (λ (o : Option (List A × ℕ)). and_then o (λ others end. some {A = List A × ℕ} (x ∷ others, end))) (others.again input mid xs next (len, fits.1.1) parts.1)

-- so many of a kind
pub reads_many : {A : Type 0} (F : A → Type 0) (s : A → List ℕ) (r : Decoder A) → IsCodec F s r → (n : ℕ) → IsCodecWithin (λ xs. (length xs ≡ n) × AllByRecursion F xs) (many_encoding s) (many_at r n)
unfolding many_at many_encoding
reads_many {A = A} F s r law zero = reads_nothing [] (λ xs. (length xs ≡ 0) × AllByRecursion F xs) (many_encoding s) (λ xs fits. empty xs fits.0) (refl, tt) refl
  where
    empty : (xs : List A) → length xs ≡ 0 → [] ≡ xs
    empty [] e = refl
    empty (x ∷ xs) e = absurd (omega arith)
reads_many F s r law (suc n) = on (λ xs. (length xs ≡ suc n) × AllByRecursion F xs) (many_encoding s) (many_at r (suc n)) (reads_more F s r law n (reads_many F s r law n))

-- so many of a kind, one at least
pub reads_some : {A : Type 0} (F : A → Type 0) (s : A → List ℕ) (r : Decoder A) → IsCodec F s r → (n : ℕ) → IsCodec (λ xs. (length xs ≡ suc n) × AllByRecursion F xs) (many_encoding s) (many_at r (suc n))
reads_some F s r law n = reads_more F s r law n (reads_many F s r law n)

pub reads_between : (w : Width) → IsWide w → (least most : ℕ) → IsCodec (IsBetween (256 ^ byte_len w) least most) (to_be_bytes w) (number_between_at w least most)
unfolding number_between_at
reads_between w wide least most =
    let numbers = reads_numbers w wide in
    let law = reads (λ n. n < 256 ^ byte_len w) (to_be_bytes w) (number_at w) numbers.found numbers.again in
    let test : ℕ → Bool = λ n. leb least n && leb n most in
    let P : ℕ → Type 0 = λ n. (least ≤ n) × (n ≤ most) in
    let within = reads_passing (λ n. n < 256 ^ byte_len w) (to_be_bytes w) (number_at w) test P law
    (λ n e. let both = and_parts _ _ e in (leb-true _ _ both.0, leb-true _ _ both.1))
    (λ n p. and_from _ _ (le-leb _ _ p.0) (le-leb _ _ p.1)) in
    refit (λ n. (n < 256 ^ byte_len w) × P n) (IsBetween (256 ^ byte_len w) least most) (to_be_bytes w) (to_be_bytes w) (number_between_at w least most) within
    (λ n f. record { fits = f.0; enough = f.1.0; not_more = f.1.1 }) (λ n f. (f.fits, (f.enough, f.not_more))) (λ n f. refl)

-- a byte is encoded as itself
pub reads_byte : (least most : ℕ) → most < 256 → IsCodec (λ n. (least ≤ n) × (n ≤ most)) (λ n. n ∷ []) (number_between_at w8 least most)
reads_byte least most small = refit (IsBetween 256 least most) (λ n. (least ≤ n) × (n ≤ most)) (to_be_bytes w8) (λ n. n ∷ []) (number_between_at w8 least most) (reads_between w8 wide8 least most)
    (λ n f. (f.enough, f.not_more)) (λ n f. record { fits = omega (arith, f.1, small); enough = f.0; not_more = f.1 }) (λ n f. λ i. same n f.fits i ∷ [])
  where
    same : (n : ℕ) → n < 256 → n % 256 ≡ n
    same n lt = omega arith

-- one more at the end
pub many_encoding-push : {A : Type 0} (s : A → List ℕ) (xs : List A) (x : A) → many_encoding s (xs ++ x ∷ []) ≡ many_encoding s xs ++ s x
unfolding many_encoding
many_encoding-push s [] x = append-nil (s x)
many_encoding-push s (y ∷ xs) x = ap (λ (w : List ℕ). s y ++ w) (many_encoding-push s xs x) ∙ sym (append_assoc (s y) (many_encoding s xs) (s x))

-- what was read already, in front of what is read further on
abbrev pub in_front : {A : Type 0} → List A → Option (List A × ℕ) → Option (List A × ℕ)
in_front xs o = and_then o (λ ys end. Some (xs ++ ys, end))

pub in_front-none : {A : Type 0} (o : Option (List A × ℕ)) → in_front [] o ≡ o
in_front-none None = refl
in_front-none (Some (ys, end)) = refl

-- reading so many is reading some and then the others
pub many_at-start : {A : Type 0} (r : Decoder A) (n : ℕ) (input : List ℕ) (at : ℕ) → many_at r n input at ≡ in_front [] (many_at r n input at)
many_at-start r n input at = sym (in_front-none (many_at r n input at))

pub many_at-turn : {A : Type 0} (r : Decoder A) (n i : ℕ) (input : List ℕ) (at mid next : ℕ) (xs : List A) (x : A) → i < n → many_at r n input at ≡ in_front xs (many_at r (n - i) input mid) → r input mid ≡ Some (x, next)
    → many_at r n input at ≡ in_front (xs ++ x ∷ []) (many_at r (n - (i + 1)) input next)
unfolding many_at
many_at-turn {A = A} r n i input at mid next xs x lt so_far here =
    let left : n - i ≡ suc (n - (i + 1)) = omega arith in
    so_far
    ∙ ap (λ (k : ℕ). in_front xs (many_at r k input mid)) left
    ∙ ap (λ (o : Option (A × ℕ)). in_front xs (and_then o (λ a after. and_then (many_at r (n - (i + 1)) input after) (λ others end. some {A = List A × ℕ} (a ∷ others, end))))) here
    ∙ joined (many_at r (n - (i + 1)) input next)
  where
    joined : (o : Option (List A × ℕ)) → in_front xs (and_then o (λ others end. some {A = List A × ℕ} (x ∷ others, end))) ≡ in_front (xs ++ x ∷ []) o
    joined None = refl
    joined (Some (ys, end)) = ap (λ (zs : List A). some {A = List A × ℕ} (zs, end)) (sym (append_snoc xs x ys))

-- the next is none, and so are all
pub many_at-stop : {A : Type 0} (r : Decoder A) (n i : ℕ) (input : List ℕ) (at mid : ℕ) (xs : List A) → i < n → many_at r n input at ≡ in_front xs (many_at r (n - i) input mid) → r input mid ≡ None → many_at r n input at ≡ None
unfolding many_at
many_at-stop {A = A} r n i input at mid xs lt so_far here =
    let left : n - i ≡ suc (n - (i + 1)) = omega arith in
    so_far
    ∙ ap (λ (k : ℕ). in_front xs (many_at r k input mid)) left
    ∙ ap (λ (o : Option (A × ℕ)). in_front xs (and_then o (λ a after. and_then (many_at r (n - (i + 1)) input after) (λ others end. some {A = List A × ℕ} (a ∷ others, end))))) here

-- all were read
pub many_at-end : {A : Type 0} (r : Decoder A) (n i : ℕ) (input : List ℕ) (at mid : ℕ) (xs : List A) → n ≤ i → many_at r n input at ≡ in_front xs (many_at r (n - i) input mid) → many_at r n input at ≡ Some (xs, mid)
unfolding many_at
many_at-end {A = A} r n i input at mid xs le so_far =
    let left : n - i ≡ 0 = omega arith in
    so_far ∙ ap (λ (k : ℕ). in_front xs (many_at r k input mid)) left ∙ ap (λ (ys : List A). some {A = List A × ℕ} (ys, mid)) (append-nil xs)
