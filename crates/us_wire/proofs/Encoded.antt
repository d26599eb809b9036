-- What is read at a place is encoded there, and what is encoded there is read.
use Rattle.std.proofs.Common.{◌≡◌, ℕ, ◌+◌, ◌-◌, ◌*◌, ◌/◌, ◌%◌, ◌^◌, ◌<◌, ◌≤◌, Bool, true, false, cond, leb, ◌&&◌, List, [], ◌∷◌, ◌++◌, length, get_or, take, drop, Option, Some, None, ℤ, to_z, of_z, refl, sym, ap, subst, ◌∙◌, append_assoc, arith, inl, inr}
use Rattle.std.specs.Int.{Width, w8, w16, w32, w64, w128, byte_len, from_be_bytes, to_be_bytes}
use mir.Val.{bits, SFits}
use mir.ValLaws as laws
use native.Mathlib.Nat.{div-div-eq-div-mul}
use borrow.Author.Differences.{fits_in, read_fits}
use Rattle.std.proofs.lemmas.Bool.{leb-true, le-leb, and_parts, cases_lt}
use Rattle.std.proofs.lemmas.Int.{to_z-of_z, of_z-to_z}
use Rattle.std.proofs.lemmas.List.{take_at, drop_at, take-append-drop, drop-drop, length-append, length-take-le, length-take, length-drop, get_or-drop, get_or-take, get_or_past}
use Rattle.std.proofs.lemmas.Slice.{between_to_end}
use Rattle.std.proofs.lemmas.Nat.{be_bytes_2, be_bytes_4, be_bytes_8, from_be_bytes-to_be_bytes_2, from_be_bytes-to_be_bytes_4, from_be_bytes-to_be_bytes_8}
use Rattle.us_wire.specs.Fields.{StandsAt, AreBytes, bytes_at, number_of, number_at, signed_of, integer_at, integer, value, value_of, value_at, longest_value, ReadsNumbers, ReadsIntegers, ReadsValues}

AreBytes-drop : (n : ℕ) (bytes : List ℕ) → AreBytes bytes → AreBytes (drop n bytes)
AreBytes-drop n bytes h i = rw get_or-drop (h (n + i))

AreBytes-take : (n : ℕ) (bytes : List ℕ) → AreBytes bytes → AreBytes (take n bytes)
AreBytes-take n bytes h i =
    elim (cases_lt i n) [
      | inl lt ↦ rw (get_or-take n bytes i 0 lt) (h i)
      | inr le ↦ rw (get_or_past (take n bytes) i 0 (omega (arith, length-take n bytes))) (omega arith)
    ]

-- what the bytes of a number are worth
pub record IsWide (w : Width) : Type 0 where
  pub len : (n : ℕ) → length (to_be_bytes w n) ≡ byte_len w
  pub back : (bytes : List ℕ) → length bytes ≡ byte_len w → AreBytes bytes → to_be_bytes w (from_be_bytes w bytes) ≡ bytes
  pub again : (n : ℕ) → n < 256 ^ byte_len w → from_be_bytes w (to_be_bytes w n) ≡ n
  pub below : (bytes : List ℕ) → AreBytes bytes → from_be_bytes w bytes < 256 ^ byte_len w

-- a text that stands at a place
pub Stands-front : (text input : List ℕ) (at next : ℕ) → StandsAt text input at next → take (length text) (drop at input) ≡ text
Stands-front text input at next s = rw s.parts (take_at text (drop next input) (length text) refl)

-- a text that is cut out at a place stands there
pub Stands-cut : (len at : ℕ) (input : List ℕ) → at + len ≤ length input → StandsAt (take len (drop at input)) input at (at + len)
Stands-cut len at input fits =
    let long : length (take len (drop at input)) ≡ len = length-take-le len (drop at input) (omega (arith, length-drop at input)) in
    record {
      parts = sym (take-append-drop len (drop at input)) ∙ ap (λ (xs : List ℕ). take len (drop at input) ++ xs) (drop-drop len at input);
      next_is = ap (λ (k : ℕ). at + k) (sym long);
      within = fits;
    }

-- one text and then another
pub Stands-then : (one other input : List ℕ) (at between next : ℕ) → StandsAt one input at between → StandsAt other input between next → StandsAt (one ++ other) input at next
Stands-then one other input at between next s t = record {
  parts = s.parts ∙ ap (λ (xs : List ℕ). one ++ xs) t.parts ∙ sym (append_assoc one other (drop next input));
  next_is = t.next_is ∙ ap (λ (k : ℕ). k + length other) s.next_is ∙ omega (arith, length-append one other);
  within = t.within;
}

-- the first of two texts, and the second behind it
pub Stands-first : (one other input : List ℕ) (at next : ℕ) → StandsAt (one ++ other) input at next → StandsAt one input at (at + length one) × StandsAt other input (at + length one) next
Stands-first one other input at next s =
    let grouped : drop at input ≡ one ++ (other ++ drop next input) = s.parts ∙ append_assoc one other (drop next input) in
    let behind : drop (at + length one) input ≡ other ++ drop next input = sym (drop-drop (length one) at input) ∙ ap (drop (length one)) grouped ∙ drop_at one (other ++ drop next input) (length one) refl in
    let far : next ≡ at + length one + length other = s.next_is ∙ omega (arith, length-append one other) in (
      record { parts = grouped ∙ ap (λ (xs : List ℕ). one ++ xs) (sym behind); next_is = refl; within = omega (arith, s.within, far) },
      record { parts = behind; next_is = far; within = s.within },
    )

abbrev pub some : {A : Type 0} → A → Option A
some x = Some x

abbrev none_of : {A : Type 0} → Option A
none_of = None

some_is : {A : Type 0} (x y : A) → some x ≡ some y → x ≡ y
some_is x y e = cc

pub bytes_found : (len at : ℕ) (input bytes : List ℕ) → bytes_at len input at ≡ Some bytes → StandsAt bytes input at (at + len) × (length bytes ≡ len)
bytes_found len at input bytes = on (leb (at + len) (length input)) refl where
  on : (b : Bool) → leb (at + len) (length input) ≡ b → cond b (Some (take len (drop at input))) None ≡ Some bytes → StandsAt bytes input at (at + len) × (length bytes ≡ len)
  on true e is =
      let same : take len (drop at input) ≡ bytes = cc in
      let fits : at + len ≤ length input = leb-true _ _ e in
      subst (λ (xs : List ℕ). StandsAt xs input at (at + len) × (length xs ≡ len)) same (Stands-cut len at input fits, length-take-le len (drop at input) (omega (arith, length-drop at input)))
  on false e is = absurd cc

pub bytes_again : (len at : ℕ) (input bytes : List ℕ) (next : ℕ) → length bytes ≡ len → StandsAt bytes input at next → bytes_at len input at ≡ Some bytes
bytes_again len at input bytes next long s =
    let fits : leb (at + len) (length input) ≡ true = le-leb _ _ (omega (arith, s.within, s.next_is)) in
    rw fits (ap Some (ap (λ (k : ℕ). take k (drop at input)) (sym long) ∙ Stands-front bytes input at next s))

-- ---- a signed number, as code reads it

pub integer_taken : (w : Width) (input rest field : List ℕ) (at : ℕ) (z : ℤ) → at ≤ length input → rest ≡ take (length input - at) (drop at input) → byte_len w ≤ length rest → field ≡ take (byte_len w) rest → z ≡ to_z w (from_be_bytes w field) → SFits w z
    → some (to_z w (of_z w z), at + byte_len w) ≡ integer_at w input at
integer_taken w input rest field at z within rest_is long field_is z_is fits =
    let all : rest ≡ drop at input = rest_is ∙ between_to_end input at (length input) (omega arith) in
    let room : leb (at + byte_len w) (length input) ≡ true = le-leb _ _ (let k = length-drop at input in let e : length rest ≡ length (drop at input) = ap length all in omega (arith, k, e, long, within)) in
    let number : number_at w input at ≡ Some (from_be_bytes w field, at + byte_len w) = rw room (ap (λ (xs : List ℕ). some (from_be_bytes w xs, at + byte_len w)) (ap (take (byte_len w)) (sym all) ∙ sym field_is)) in
    ap (λ (y : ℤ). some (y, at + byte_len w)) (to_z-of_z w z fits ∙ z_is) ∙ sym (ap (signed_of w) number)

-- ---- numbers

one_byte : (bytes : List ℕ) → length bytes ≡ 1 → get_or bytes 0 0 < 256 → get_or bytes 0 0 % 256 ∷ [] ≡ bytes
one_byte [] len lt = absurd (omega arith)
one_byte (b ∷ []) len lt = ap (λ (x : ℕ). x ∷ []) (omega arith)
one_byte (b ∷ c ∷ bs) len lt = absurd (omega arith)

pub wide8 : IsWide w8
wide8 = record {
  len = λ n. refl;
  back = λ bytes len fits. one_byte bytes len (fits 0);
  again = λ n lt. omega arith;
  below = λ bytes fits. fits 0;
}

pub wide16 : IsWide w16
wide16 = record {
  len = λ n. refl;
  back = λ bytes len fits. be_bytes_2 bytes _ len fits refl;
  again = λ n lt. from_be_bytes-to_be_bytes_2 n lt;
  below = λ bytes fits. omega (arith, fits 0, fits 1);
}

pub wide32 : IsWide w32
wide32 = record {
  len = λ n. refl;
  back = λ bytes len fits. be_bytes_4 bytes _ len fits refl;
  again = λ n lt. from_be_bytes-to_be_bytes_4 n lt;
  below = λ bytes fits. omega (arith, fits 0, fits 1, fits 2, fits 3);
}

pub wide64 : IsWide w64
wide64 = record {
  len = λ n. refl;
  back = λ bytes len fits. be_bytes_8 bytes _ len fits refl;
  again = λ n lt. from_be_bytes-to_be_bytes_8 n lt;
  below = λ bytes fits. omega (arith, fits 0, fits 1, fits 2, fits 3, fits 4, fits 5, fits 6, fits 7);
}

number_found : (w : Width) → IsWide w → (input : List ℕ) (at n next : ℕ) → AreBytes input → number_at w input at ≡ Some (n, next) → StandsAt (to_be_bytes w n) input at next × (n < 256 ^ byte_len w)
number_found w wide input at n next are = on (bytes_at (byte_len w) input at) refl where
  on : (o : Option (List ℕ)) → bytes_at (byte_len w) input at ≡ o → number_of w (at + byte_len w) o ≡ Some (n, next) → StandsAt (to_be_bytes w n) input at next × (n < 256 ^ byte_len w)
  on None e is = absurd cc
  on (Some bytes) e is =
      let found = bytes_found (byte_len w) at input bytes e in
      let cut : bytes ≡ take (byte_len w) (drop at input) = sym (Stands-front bytes input at (at + byte_len w) found.0) ∙ ap (λ (k : ℕ). take k (drop at input)) found.1 in
      let small : AreBytes bytes = subst (λ (xs : List ℕ). AreBytes xs) (sym cut) (AreBytes-take (byte_len w) (drop at input) (AreBytes-drop at input are)) in
      let pair : ◌≡◌ {A = ℕ × ℕ} (from_be_bytes w bytes, at + byte_len w) (n, next) = some_is _ _ is in
      let n_is : from_be_bytes w bytes ≡ n = ap (λ (p : ℕ × ℕ). p.0) pair in
      let next_is : at + byte_len w ≡ next = ap (λ (p : ℕ × ℕ). p.1) pair in
      subst (λ (p : ℕ × ℕ). StandsAt (to_be_bytes w p.0) input at p.1 × (p.0 < 256 ^ byte_len w)) pair
      (subst (λ (xs : List ℕ). StandsAt xs input at (at + byte_len w)) (sym (wide.back bytes found.1 small)) found.0, wide.below bytes small)

number_again : (w : Width) → IsWide w → (input : List ℕ) (at n next : ℕ) → n < 256 ^ byte_len w → StandsAt (to_be_bytes w n) input at next → number_at w input at ≡ Some (n, next)
number_again w wide input at n next lt s =
    let far : at + byte_len w ≡ next = ap (λ (k : ℕ). at + k) (sym (wide.len n)) ∙ sym s.next_is in
    ap (number_of w (at + byte_len w)) (bytes_again (byte_len w) at input (to_be_bytes w n) next (wide.len n) s)
    ∙ ap (λ (m : ℕ). some (m, at + byte_len w)) (wide.again n lt) ∙ ap (λ (m : ℕ). some (n, m)) far

is_none : {A : Type 0} (o : Option A) (x : A) → o ≡ None → o ≡ Some x → ⊥
is_none o x e f = let clash : none_of ≡ some x = sym e ∙ f in cc

pub reads_numbers : (w : Width) → IsWide w → ReadsNumbers w
reads_numbers w wide = record {
  found = λ input at n next are is. number_found w wide input at n next are is;
  again = λ input at n next lt s. number_again w wide input at n next lt s;
  none = λ input at nothing n next lt s. is_none (number_at w input at) (n, next) nothing (number_again w wide input at n next lt s);
}

-- ---- sixteen bytes

halves_div : (h l : ℕ) → l < 18446744073709551616 → (h * 18446744073709551616 + l) / 18446744073709551616 ≡ h
halves_div h l lt = omega arith

halves_mod : (h l : ℕ) → l < 18446744073709551616 → (h * 18446744073709551616 + l) % 18446744073709551616 ≡ l
halves_mod h l lt = omega arith

-- a number of sixteen bytes is two of eight
from_halves : (xs ys : List ℕ) → length xs ≡ 8 → from_be_bytes w128 (xs ++ ys) ≡ from_be_bytes w64 xs * 18446744073709551616 + from_be_bytes w64 ys
from_halves (a ∷ b ∷ c ∷ d ∷ e ∷ f ∷ g ∷ h ∷ []) ys len = omega arith
from_halves xs ys len = absurd (omega arith)

high_byte : (n p q : ℕ) → 18446744073709551616 * p ≡ q → n / q % 256 ≡ n / 18446744073709551616 / p % 256
high_byte n p q e = ap (λ (m : ℕ). m % 256) (ap (λ (k : ℕ). n / k) (sym e) ∙ sym (div-div-eq-div-mul n 18446744073709551616 p))

low_byte0 : (n : ℕ) → n % 256 ≡ n % 18446744073709551616 % 256
low_byte0 n = omega arith

low_byte1 : (n : ℕ) → n / 256 % 256 ≡ n % 18446744073709551616 / 256 % 256
low_byte1 n = omega arith

low_byte2 : (n : ℕ) → n / 65536 % 256 ≡ n % 18446744073709551616 / 65536 % 256
low_byte2 n = omega arith

low_byte3 : (n : ℕ) → n / 16777216 % 256 ≡ n % 18446744073709551616 / 16777216 % 256
low_byte3 n = omega arith

low_byte4 : (n : ℕ) → n / 4294967296 % 256 ≡ n % 18446744073709551616 / 4294967296 % 256
low_byte4 n = omega arith

low_byte5 : (n : ℕ) → n / 1099511627776 % 256 ≡ n % 18446744073709551616 / 1099511627776 % 256
low_byte5 n = omega arith

low_byte6 : (n : ℕ) → n / 281474976710656 % 256 ≡ n % 18446744073709551616 / 281474976710656 % 256
low_byte6 n = omega arith

low_byte7 : (n : ℕ) → n / 72057594037927936 % 256 ≡ n % 18446744073709551616 / 72057594037927936 % 256
low_byte7 n = omega arith

to_halves : (n : ℕ) → to_be_bytes w128 n ≡ to_be_bytes w64 (n / 18446744073709551616) ++ to_be_bytes w64 (n % 18446744073709551616)
to_halves n = λ i. (high_byte n 72057594037927936 1329227995784915872903807060280344576 refl) i ∷ (high_byte n 281474976710656 5192296858534827628530496329220096 refl) i ∷ (high_byte n 1099511627776 20282409603651670423947251286016 refl) i ∷ (high_byte n 4294967296 79228162514264337593543950336 refl) i ∷ (high_byte n 16777216 309485009821345068724781056 refl) i ∷ (high_byte n 65536 1208925819614629174706176 refl) i ∷ (high_byte n 256 4722366482869645213696 refl) i ∷ (n / 18446744073709551616 % 256) ∷ (low_byte7 n) i ∷ (low_byte6 n) i ∷ (low_byte5 n) i ∷ (low_byte4 n) i ∷ (low_byte3 n) i ∷ (low_byte2 n) i ∷ (low_byte1 n) i ∷ (low_byte0 n) i ∷ []

pub wide128 : IsWide w128
wide128 = record {
  len = λ n. refl;
  back = λ bytes len fits.
      let high = take 8 bytes in
      let low = drop 8 bytes in
      let parts : high ++ low ≡ bytes = take-append-drop 8 bytes in
      let len_high : length high ≡ 8 = length-take-le 8 bytes (omega (arith, len)) in
      let len_low : length low ≡ 8 = length-drop 8 bytes ∙ omega (arith, len) in
      let fits_high = AreBytes-take 8 bytes fits in
      let fits_low = AreBytes-drop 8 bytes fits in
      let h = from_be_bytes w64 high in
      let l = from_be_bytes w64 low in
      let n : from_be_bytes w128 bytes ≡ h * 18446744073709551616 + l = ap (from_be_bytes w128) (sym parts) ∙ from_halves high low len_high in
      let h_fits = wide64.below high fits_high in
      let l_fits = wide64.below low fits_low in
      let upper : (h * 18446744073709551616 + l) / 18446744073709551616 ≡ h = halves_div h l l_fits in
      let lower : (h * 18446744073709551616 + l) % 18446744073709551616 ≡ l = halves_mod h l l_fits in
      ap (to_be_bytes w128) n ∙ to_halves (h * 18446744073709551616 + l)
      ∙ ap (λ (k : ℕ). to_be_bytes w64 k ++ to_be_bytes w64 ((h * 18446744073709551616 + l) % 18446744073709551616)) upper
      ∙ ap (λ (k : ℕ). to_be_bytes w64 h ++ to_be_bytes w64 k) lower
      ∙ ap (λ (xs : List ℕ). xs ++ to_be_bytes w64 l) (wide64.back high len_high fits_high)
      ∙ ap (λ (xs : List ℕ). high ++ xs) (wide64.back low len_low fits_low)
      ∙ parts;
  again = λ n lt.
      let h = n / 18446744073709551616 in
      let l = n % 18446744073709551616 in
      ap (from_be_bytes w128) (to_halves n) ∙ from_halves (to_be_bytes w64 h) (to_be_bytes w64 l) refl
      ∙ ap (λ (k : ℕ). k * 18446744073709551616 + from_be_bytes w64 (to_be_bytes w64 l)) (wide64.again h (omega (arith, lt)))
      ∙ ap (λ (k : ℕ). h * 18446744073709551616 + k) (wide64.again l (omega arith))
      ∙ omega arith;
  below = λ bytes fits. omega (arith, fits 0, fits 1, fits 2, fits 3, fits 4, fits 5, fits 6, fits 7, fits 8, fits 9, fits 10, fits 11, fits 12, fits 13, fits 14, fits 15);
}

-- ---- signed numbers

integer_found : (w : Width) → IsWide w → 256 ^ byte_len w ≡ 2 ^ bits w → (input : List ℕ) (at : ℕ) (z : ℤ) (next : ℕ) → AreBytes input → integer_at w input at ≡ Some (z, next) → StandsAt (integer w z) input at next × SFits w z
integer_found w wide range input at z next are = on (number_at w input at) refl where
  on : (o : Option (ℕ × ℕ)) → number_at w input at ≡ o → signed_of w o ≡ Some (z, next) → StandsAt (integer w z) input at next × SFits w z
  on None e is = absurd cc
  on (Some read) e is =
      let pair : ◌≡◌ {A = ℤ × ℕ} (to_z w read.0, read.1) (z, next) = some_is _ _ is in
      let found = number_found w wide input at read.0 read.1 are e in
      let small : read.0 < 2 ^ bits w = rw (← range) found.1 in
      let back : read.0 ≡ of_z w (to_z w read.0) = sym (of_z-to_z w read.0 small) in
      let fits : SFits w (to_z w read.0) = omega (arith, fits_in, read_fits w read.0) in
      subst (λ (p : ℤ × ℕ). StandsAt (integer w p.0) input at p.1 × SFits w p.0) pair
      (subst (λ (n : ℕ). StandsAt (to_be_bytes w n) input at read.1) back found.0, fits)

integer_again : (w : Width) → IsWide w → 256 ^ byte_len w ≡ 2 ^ bits w → (input : List ℕ) (at : ℕ) (z : ℤ) (next : ℕ) → SFits w z → StandsAt (integer w z) input at next → integer_at w input at ≡ Some (z, next)
integer_again w wide range input at z next fits s =
    let small : of_z w z < 256 ^ byte_len w = rw range (laws.of_z_fits w z fits).fits in
    ap (signed_of w) (number_again w wide input at (of_z w z) next small s) ∙ ap (λ (y : ℤ). some (y, next)) (to_z-of_z w z fits)

pub reads_integers : (w : Width) → IsWide w → 256 ^ byte_len w ≡ 2 ^ bits w → ReadsIntegers w
reads_integers w wide range = record {
  found = λ input at z next are is. integer_found w wide range input at z next are is;
  again = λ input at z next fits s. integer_again w wide range input at z next fits s;
  none = λ input at nothing z next fits s. is_none (integer_at w input at) (z, next) nothing (integer_again w wide range input at z next fits s);
}

-- ---- values

value_found : (input : List ℕ) (at : ℕ) (bytes : List ℕ) (next : ℕ) → AreBytes input → value_at input at ≡ Some (bytes, next) → StandsAt (value bytes) input at next × (length bytes ≤ longest_value)
value_found input at bytes next are = on (number_at w16 input at) refl where
  goes : (n start : ℕ) → StandsAt (to_be_bytes w16 n) input at start → (b : Bool) → (leb n longest_value && leb (start + n) (length input)) ≡ b → cond {A = Option (List ℕ × ℕ)} b (Some (take n (drop start input), start + n)) None ≡ Some (bytes, next)
      → StandsAt (value bytes) input at next × (length bytes ≤ longest_value)
  goes n start s true e is =
      let both = and_parts _ _ e in
      let short : n ≤ longest_value = leb-true _ _ both.0 in
      let fits : start + n ≤ length input = leb-true _ _ both.1 in
      let len : length (take n (drop start input)) ≡ n = length-take-le n (drop start input) (omega (arith, length-drop start input)) in
      let pair : ◌≡◌ {A = List ℕ × ℕ} (take n (drop start input), start + n) (bytes, next) = some_is _ _ is in
      let stands : StandsAt (to_be_bytes w16 n ++ take n (drop start input)) input at (start + n) = Stands-then (to_be_bytes w16 n) (take n (drop start input)) input at start (start + n) s (Stands-cut n start input fits) in
      subst (λ (p : List ℕ × ℕ). StandsAt (value p.0) input at p.1 × (length p.0 ≤ longest_value)) pair
      (subst (λ (k : ℕ). StandsAt (to_be_bytes w16 k ++ take n (drop start input)) input at (start + n)) (sym len) stands, omega (arith, len, short))
  goes n start s false e is = absurd cc

  on : (o : Option (ℕ × ℕ)) → number_at w16 input at ≡ o → value_of input o ≡ Some (bytes, next) → StandsAt (value bytes) input at next × (length bytes ≤ longest_value)
  on None e is = absurd cc
  on (Some (n, start)) e is =
      let found = number_found w16 wide16 input at n start are e in
      goes n start found.0 (leb n longest_value && leb (start + n) (length input)) refl is

value_again : (input : List ℕ) (at : ℕ) (bytes : List ℕ) (next : ℕ) → length bytes ≤ longest_value → StandsAt (value bytes) input at next → value_at input at ≡ Some (bytes, next)
value_again input at bytes next short s =
    let parts = Stands-first (to_be_bytes w16 (length bytes)) bytes input at next s in
    let start = at + length (to_be_bytes w16 (length bytes)) in
    let field : number_at w16 input at ≡ Some (length bytes, start) = number_again w16 wide16 input at (length bytes) start (omega (arith, short)) parts.0 in
    let one : leb (length bytes) longest_value ≡ true = le-leb _ _ short in
    let two : leb (start + length bytes) (length input) ≡ true = le-leb _ _ (omega (arith, parts.1.within, parts.1.next_is)) in
    ap (value_of input) field ∙ rw (one, two) (ap (λ (p : List ℕ × ℕ). some p) (λ i. (Stands-front bytes input start next parts.1 i, sym parts.1.next_is i)))

pub reads_values : ReadsValues
reads_values = record {
  found = λ input at bytes next are is. value_found input at bytes next are is;
  again = λ input at bytes next short s. value_again input at bytes next short s;
  none = λ input at nothing bytes next short s. is_none (value_at input at) (bytes, next) nothing (value_again input at bytes next short s);
}
