-- The hex text of bytes, byte by byte.
use Rattle.std.proofs.Common.{◌≡◌, ℕ, zero, suc, ◌+◌, ◌<◌, length, take, get_or, ◌/◌, ◌%◌, ◌==◌, Bool, true, ◌&&◌, inl, inr, List, [], ◌∷◌, ◌++◌, slice_index, refl, sym, ap, ◌∙◌, arith}
use Rattle.std.proofs.lemmas.Bool.{and_parts, cases_lt, eqb-true}
use Rattle.std.proofs.lemmas.Fmt.{hex_byte}
use Rattle.std.proofs.lemmas.List.{take_more}
use Rattle.std.specs.Fmt.{digits, digit_glyph, padded_integral, format_spec}
use Rattle.std.specs.Prelude.{false, ◌^◌, ◌-◌, Option, Some, option_map}
use Rattle.hex.specs.Hex.{encode_lower, encode_with, lower_digits}

pub encode_lower-nil : encode_lower [] ≡ []
unfolding encode_with
encode_lower-nil = refl

pub encode_with-append : (t xs ys : List ℕ) → encode_with t (xs ++ ys) ≡ encode_with t xs ++ encode_with t ys
unfolding encode_with
encode_with-append t [] ys = refl
encode_with-append t (x ∷ xs) ys = let again = encode_with-append t xs ys in cc

-- the test that the first digits are those of the table, which computes
abbrev same_digits : ℕ → Bool
same_digits zero = true
same_digits (suc n) = (digit_glyph false n == slice_index lower_digits n) && same_digits n

same_digits-at : (n d : ℕ) → same_digits n ≡ true → d < n → digit_glyph false d ≡ slice_index lower_digits d
same_digits-at zero d h lt = absurd (omega arith)
same_digits-at (suc n) d h lt =
    let parts = and_parts (digit_glyph false n == slice_index lower_digits n) (same_digits n) h in
    elim (cases_lt d n) [
      | inl below ↦ same_digits-at n d parts.1 below
      | inr top ↦
          let e : d ≡ n = omega arith in
          rw e (eqb-true _ _ parts.0)
    ]

digit_glyph-lower : (d : ℕ) → d < 16 → digit_glyph false d ≡ slice_index lower_digits d
digit_glyph-lower d lt = same_digits-at 16 d refl lt

-- what is printed of one byte
pub encode_lower-byte : (n : ℕ) → n < 256 → padded_integral (format_spec 32 0 4 2 (2 ^ 64 - 1)) false [] (digits 16 false n) ≡ encode_lower (n ∷ [])
unfolding encode_with
encode_lower-byte n lt =
    let high = digit_glyph-lower (n / 16) (omega arith) in
    let low = digit_glyph-lower (n % 16) (omega arith) in
    hex_byte false n lt ∙ cc

-- the same where the digits are told
pub shown_byte : (n : ℕ) (o : Option (List ℕ)) → o ≡ Some (digits 16 false n) → n < 256
    → option_map (padded_integral (format_spec 32 0 4 2 (2 ^ 64 - 1)) false []) o ≡ Some (encode_lower (n ∷ []))
shown_byte n o text lt = rw text (ap Some (encode_lower-byte n lt))

-- one byte more
pub encode_lower-more : (xs : List ℕ) (i n : ℕ) → i < length xs → n ≡ get_or xs i 0 → encode_lower (take i xs) ++ encode_lower (n ∷ []) ≡ encode_lower (take (i + 1) xs)
encode_lower-more xs i n lt is =
    sym (encode_with-append lower_digits (take i xs) (n ∷ [])) ∙ ap (λ (ys : List ℕ). encode_lower (take i xs ++ ys)) (ap (λ (m : ℕ). m ∷ []) is)
    ∙ ap encode_lower (sym (take_more xs i 0 lt))
