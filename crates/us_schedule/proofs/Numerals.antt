-- The words of numbers and of bytes: what is read of them is encoded so, and what is encoded so is read.
use Rattle.std.proofs.Common.{◌≡◌, ℕ, ◌+◌, ◌*◌, ◌/◌, ◌%◌, ◌^◌, ◌<◌, ◌≤◌, Bool, true, false, cond, eqb, ltb, leb, ◌&&◌, ◌||◌, inl, inr, List, [], ◌∷◌, map, length, get_or, slice_index, Option, Some, None, Result, Ok, Err, refl, sym, ap, ◌∙◌, subst, zero, suc, arith}
use Rattle.std.specs.Prelude.{◌==◌}
use Rattle.std.specs.Fmt.{decimal}
use Rattle.std.specs.Str.{all_ascii_digits}
use Rattle.std.specs.Str.Parse.{digits_value, AllDigits}
use Rattle.std.proofs.lemmas.Bool.{cases_lt, cases_eq, and_parts, and_left, and_right, and_from, eqb-true, ltb-true, lt-ltb, le-ltb, lt-leb, ne_eqb, eq-eqb, agree_below_at}
use Rattle.std.proofs.lemmas.Fmt.{decimal-digits_value, digits_decimal, digits_value-decimal, decimal_nonempty, first_decimal, decimal_digit}
use Rattle.std.proofs.lemmas.Str.Parse.{digit_from_value}
use Rattle.hex.specs.Hex.{IsBytes, decode_of, decode_pairs, digit_or_error, ◌>>=◌, hex_digit_value, encode_lower, encode_with, lower_digits}
use Rattle.hex.specs.declared.error.FromHexError.{FromHexError}
use Rattle.hex.proofs.HexLemmas.{decode_of-encode_lower}
use Rattle.us_schedule.specs.declared.fault.LineFault.{LineFault}
use Rattle.us_schedule.specs.declared.fault.LineFault.TheVariants as fault
use Rattle.us_schedule.specs.Lines.{number_in, has_leading_zero, or_bad_number, number, hex_of, hex, lower_digit}
use Rattle.us_schedule.proofs.Digits.{own, digits_decide}

-- ---- numbers

or_some : (o : Option ℕ) (n : ℕ) → or_bad_number o ≡ Ok n → o ≡ Some n
or_some (Some m) n e = let k : m ≡ n = cc in ap Some k
or_some None n e = absurd cc

-- a test that passed
passed : {A : Type 0} (b : Bool) (x y : A) → cond b (Some x) None ≡ Some y → (b ≡ true) × (x ≡ y)
passed true x y e = (refl, cc)
passed false x y e = absurd cc

not_refused : {A : Type 0} (b : Bool) (e : LineFault) (r : Result A LineFault) (y : A) → cond b (Err e) r ≡ Ok y → (b ≡ false) × (r ≡ Ok y)
not_refused true e r y h = absurd cc
not_refused false e r y h = (refl, h)

or_false : (a b : Bool) → (a || b) ≡ false → (a ≡ false) × (b ≡ false)
or_false true b e = absurd cc
or_false false b e = (refl, e)

-- a number's word is the decimal encoding of its value
pub record IsNumber (word : List ℕ) (n : ℕ) : Type 0 where
  pub encoded : word ≡ decimal n
  pub below : n < 2 ^ 64

pub number_ok : (word : List ℕ) (n : ℕ) → number word ≡ Ok n → IsNumber word n
number_ok word n e =
    let a = not_refused ((length word == 0) || has_leading_zero word) fault.BadNumber (or_bad_number (number_in word)) n e in
    let b = passed (all_ascii_digits word && ltb (digits_value 10 word) (2 ^ 64)) (digits_value 10 word) n (or_some (number_in word) n a.1) in
    let digits = and_parts (all_ascii_digits word) (ltb (digits_value 10 word) (2 ^ 64)) b.0 in
    let below : digits_value 10 word < 2 ^ 64 = ltb-true _ _ digits.1 in
    let front = or_false (length word == 0) (has_leading_zero word) a.0 in
    let some : 0 < length word = elim (cases_eq (length word) 0) [ inl z ↦ absurd (let t = eq-eqb (length word) 0 z in cc) | inr z ↦ omega arith ] in
    let zero_alone : get_or word 0 0 ≡ 48 → length word ≡ 1 = λ z. elim (cases_lt 1 (length word)) [
      | inl more ↦ absurd (let t = and_from _ _ (eq-eqb (get_or word 0 0) 48 z) (lt-ltb 1 (length word) more) in cc)
      | inr one ↦ omega arith
    ] in
    let is = decimal-digits_value own word digits.0 some zero_alone below in
    record { encoded = sym is ∙ ap decimal b.1; below = omega (arith, b.1) }

pub number_again : (n : ℕ) → n < 2 ^ 64 → number (decimal n) ≡ Ok n
number_again n lt =
    let some = decimal_nonempty n lt in
    let digits = digits_decimal own n lt in
    let value = digits_value-decimal own n lt in
    let e0 : (length (decimal n) == 0) ≡ false = ne_eqb (length (decimal n)) 0 (λ z. omega arith) in
    let e1 : has_leading_zero (decimal n) ≡ false = elim (cases_lt 0 n) [
      | inl positive ↦ let first = first_decimal n positive lt in and_left (eqb (get_or (decimal n) 0 0) 48) _ (ne_eqb _ _ (λ z. omega arith))
      | inr none ↦ let z : n ≡ 0 = omega arith in let one = ap length (decimal_digit n (omega arith)) in and_right (eqb (get_or (decimal n) 0 0) 48) (ltb 1 (length (decimal n))) (le-ltb 1 (length (decimal n)) (omega (arith, one)))
    ] in
    let below : ltb (digits_value 10 (decimal n)) (2 ^ 64) ≡ true = lt-ltb _ _ (omega (arith, value)) in
    rw (e0, e1, digits, below, value) refl

-- digits have no case
lower_digits_same : (word : List ℕ) → AllDigits 10 word → map lower_digit word ≡ word
lower_digits_same [] h = refl
lower_digits_same (c ∷ word) h =
    let range = digit_from_value c h.0 in
    let same : lower_digit c ≡ c = let t = and_left (leb 65 c) (leb c 70) (lt-leb 65 c (omega arith)) in rw t refl in
    rw (same, lower_digits_same word h.1) refl

pub lower_decimal : (n : ℕ) → n < 2 ^ 64 → map lower_digit (decimal n) ≡ decimal n
lower_decimal n lt = lower_digits_same (decimal n) ((digits_decide (decimal n)).0 (digits_decimal own n lt))

-- ---- hex

-- a digit is that of its value, but for its case
tested : ℕ → Option ℕ → Bool
tested c None = true
tested c (Some v) = (lower_digit c == slice_index lower_digits v) && ltb v 16

tested_below : (c : ℕ) → c < 103 → tested c (hex_digit_value c) ≡ true
unfolding tested
tested_below c lt = agree_below_at (λ c. tested c (hex_digit_value c)) (λ _. true) 103 c refl lt

no_digit_above : (c : ℕ) → 103 ≤ c → hex_digit_value c ≡ None
no_digit_above c le =
    let a = and_right (leb 65 c) (leb c 70) (lt-leb c 70 (omega arith)) in
    let b = and_right (leb 97 c) (leb c 102) (lt-leb c 102 (omega arith)) in
    let d = and_right (leb 48 c) (leb c 57) (lt-leb c 57 (omega arith)) in
    rw (a, b, d) refl

digit_is : (c v : ℕ) → hex_digit_value c ≡ Some v → (lower_digit c ≡ slice_index lower_digits v) × (v < 16)
unfolding tested
digit_is c v e =
    elim (cases_lt c 103) [
      | inl lt ↦
          let t : ((lower_digit c == slice_index lower_digits v) && ltb v 16) ≡ true = subst (λ o. tested c o ≡ true) e (tested_below c lt) in
          let p = and_parts _ _ t in
          (eqb-true (lower_digit c) (slice_index lower_digits v) p.0, ltb-true v 16 p.1)
      | inr le ↦ absurd (let n = no_digit_above c le in cc)
    ]

-- the bytes of a hex text
pub record IsHex (text bytes : List ℕ) : Type 0 where
  pub encoded : map lower_digit text ≡ encode_lower bytes
  pub fits : IsBytes bytes

byte_parts : (h l : ℕ) → l < 16 → ((h * 16 + l) / 16 ≡ h) × ((h * 16 + l) % 16 ≡ l)
byte_parts h l lt = (omega arith, omega arith)

cons_bytes : (b : ℕ) (bytes : List ℕ) → b < 256 → IsBytes bytes → IsBytes (b ∷ bytes)
cons_bytes b bytes lt h zero = lt
cons_bytes b bytes lt h (suc i) = h i

-- the byte of two digits, and the bytes behind it
pair_is : (i high low : ℕ) (rest bytes : List ℕ) (o p : Option ℕ) (r : Result (List ℕ) FromHexError)
    → hex_digit_value high ≡ o → hex_digit_value low ≡ p → ((more : List ℕ) → r ≡ Ok more → IsHex rest more)
    → ((digit_or_error high i o >>= λ h. digit_or_error low (i + 1) p >>= λ l. Ok (h * 16 + l)) >>= λ b. r >>= λ more. Ok (b ∷ more)) ≡ Ok bytes
    → IsHex (high ∷ low ∷ rest) bytes
unfolding encode_with
pair_is i high low rest bytes None p r eo ep ih e = absurd cc
pair_is i high low rest bytes (Some h) None r eo ep ih e = absurd cc
pair_is i high low rest bytes (Some h) (Some l) (Err d) eo ep ih e = absurd cc
pair_is i high low rest bytes (Some h) (Some l) (Ok more) eo ep ih e =
    let a = digit_is high h eo in
    let b = digit_is low l ep in
    let parts = byte_parts h l b.1 in
    let tail = ih more refl in
    let is : (h * 16 + l) ∷ more ≡ bytes = cc in
    let encoded : map lower_digit (high ∷ low ∷ rest) ≡ encode_lower ((h * 16 + l) ∷ more) = rw (a.0, b.0, parts.0, parts.1, tail.encoded) refl in
    subst (λ (bs : List ℕ). IsHex (high ∷ low ∷ rest) bs) is (record { encoded = encoded; fits = cons_bytes (h * 16 + l) more (omega (arith, a.1, b.1)) tail.fits })

pairs_are : (i : ℕ) (text bytes : List ℕ) → decode_pairs i text ≡ Ok bytes → IsHex text bytes
unfolding decode_pairs encode_with
pairs_are i [] bytes e =
    let is : [] ≡ bytes = cc in
    subst (λ (bs : List ℕ). IsHex [] bs) is (record { encoded = refl; fits = λ i. omega arith })
pairs_are i (digit ∷ []) bytes e = absurd cc
pairs_are i (high ∷ low ∷ rest) bytes e =
    pair_is i high low rest bytes (hex_digit_value high) (hex_digit_value low) (decode_pairs (i + 2) rest) refl refl (λ more q. pairs_are (i + 2) rest more q) e

hex_of_ok : {E : Type 0} (r : Result (List ℕ) E) (bytes : List ℕ) → hex_of r ≡ Ok bytes → r ≡ Ok bytes
hex_of_ok (Ok x) bytes e = let k : x ≡ bytes = cc in ap Ok k
hex_of_ok (Err d) bytes e = absurd cc

refused_odd : {A E : Type 0} (b : Bool) (e : E) (r : Result A E) (y : A) → cond b (Err e) r ≡ Ok y → r ≡ Ok y
refused_odd true e r y h = absurd cc
refused_odd false e r y h = h

pub hex_ok : (text bytes : List ℕ) → hex text ≡ Ok bytes → IsHex text bytes
hex_ok text bytes e = pairs_are 0 text bytes (refused_odd (length text % 2 == 1) _ (decode_pairs 0 text) bytes (hex_of_ok (decode_of text) bytes e))

pub hex_again : (bytes : List ℕ) → IsBytes bytes → hex (encode_lower bytes) ≡ Ok bytes
hex_again bytes h = rw (decode_of-encode_lower bytes h) refl
