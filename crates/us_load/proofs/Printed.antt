-- No line holds what ends one.
use Rattle.std.proofs.Common.{◌≡◌, ℕ, suc, ◌-◌, ◌/◌, ◌%◌, ◌^◌, ◌<◌, true, ltb, List, [], ◌∷◌, ◌++◌, map, length, get_or, slice_index, append_assoc}
use Rattle.std.proofs.Common.{length-append, lit<, refl, ap, ◌∙◌, arith}
use Rattle.std.specs.List.{AllByRecursion, join_with_byte, flat_map}
use Rattle.std.specs.Fmt.{decimal}
use Rattle.std.specs.Str.Parse.{AllDigits}
use Rattle.std.specs.Str.Lines.{strip_carriage_return}
use Rattle.std.proofs.lemmas.Bool.{ltb-true, ne_eqb, agree_below_at}
use Rattle.std.proofs.lemmas.Fmt.{digits_decimal}
use Rattle.std.proofs.lemmas.List.{take_at}
use Rattle.std.proofs.lemmas.Str.Parse.{digit_from_value}
use Rattle.hex.specs.Hex.{IsBytes, encode_with, encode_lower, lower_digits}
use Rattle.us_schedule.specs.declared.line.Line.{Line}
use Rattle.us_schedule.specs.Lines.{encoding_of}
use Rattle.us_schedule.specs.Text.{raw_lines, without_end, text_lines}
use Rattle.us_schedule.proofs.Digits.{own, digits_decide}
use Rattle.us_load.specs.Load.{ended, line_text}
use Rattle.us_load.proofs.Frames.{all_append}

-- each byte is above those that end a line
abbrev pub IsPrinted : List ℕ → Type 0
IsPrinted bytes = AllByRecursion (λ b. 13 < b) bytes

digits_printed : (word : List ℕ) → AllDigits 10 word → IsPrinted word
digits_printed [] h = tt
digits_printed (c ∷ word) h = let range = digit_from_value c h.0 in (omega arith, digits_printed word h.1)

pub decimal_printed : (n : ℕ) → n < 2 ^ 64 → IsPrinted (decimal n)
decimal_printed n lt = digits_printed (decimal n) ((digits_decide (decimal n)).0 (digits_decimal own n lt))

pub hex_printed : (bytes : List ℕ) → IsBytes bytes → IsPrinted (encode_lower bytes)
unfolding encode_with
hex_printed [] h = tt
hex_printed (b ∷ bytes) h =
    let fits : b < 256 = h 0 in
    let high = agree_below_at (λ d. ltb 13 (slice_index lower_digits d)) (λ _. true) 16 (b / 16) refl (omega arith) in
    let low = agree_below_at (λ d. ltb 13 (slice_index lower_digits d)) (λ _. true) 16 (b % 16) refl (omega arith) in
    (ltb-true 13 _ high, (ltb-true 13 _ low, hex_printed bytes (λ i. h (suc i))))

pub joined_printed : (words : List (List ℕ)) → AllByRecursion IsPrinted words → IsPrinted (join_with_byte 32 words)
joined_printed [] f = tt
joined_printed (w ∷ []) f = f.0
joined_printed (w ∷ x ∷ words) f = all_append (λ b. 13 < b) w (32 ∷ join_with_byte 32 (x ∷ words)) f.0 (lit< tt, joined_printed (x ∷ words) f.1)

-- ---- the lines of a text that is written line by line

raw_ended : (line rest : List ℕ) → IsPrinted line → raw_lines (line ++ 10 ∷ rest) ≡ (line ++ 10 ∷ []) ∷ raw_lines rest
raw_ended [] rest f = refl
raw_ended (b ∷ line) rest f = let t = ne_eqb b 10 (λ e. omega (arith, f.0, e)) in rw (t, raw_ended line rest f.1) refl

last_at : (line : List ℕ) → get_or (line ++ 10 ∷ []) (length line) 0 ≡ 10
last_at [] = refl
last_at (b ∷ line) = last_at line

last_printed : (line : List ℕ) → IsPrinted line → get_or line (length line - 1) 0 ≡ 13 → ⊥
last_printed [] f e = absurd (cc)
last_printed (b ∷ []) f e = omega (arith, f.0, e)
last_printed (b ∷ c ∷ line) f e =
    let k : length (b ∷ c ∷ line) - 1 ≡ suc (length (c ∷ line) - 1) = omega arith in
    last_printed (c ∷ line) f.1 (rw k at e)

no_return : (line : List ℕ) → IsPrinted line → strip_carriage_return line ≡ line
no_return line f = let t = ne_eqb (get_or line (length line - 1) 0) 13 (last_printed line f) in rw t refl

end_taken : (line : List ℕ) → IsPrinted line → without_end (line ++ 10 ∷ []) ≡ line
end_taken line f =
    let len : length (line ++ 10 ∷ []) - 1 ≡ length line = omega (arith, length-append line (10 ∷ [])) in
    rw (len, last_at line, take_at line (10 ∷ []) (length line) refl) (no_return line f)

pub lines_again : (lines : List Line) → AllByRecursion (λ line. IsPrinted (encoding_of line)) lines
    → text_lines (flat_map line_text lines) ≡ map encoding_of lines
lines_again [] f = refl
lines_again (line ∷ lines) f =
    let text = encoding_of line in
    let cut : raw_lines (line_text line ++ flat_map line_text lines) ≡ ended text ∷ raw_lines (flat_map line_text lines) =
    ap raw_lines (append_assoc text (10 ∷ []) (flat_map line_text lines)) ∙ raw_ended text (flat_map line_text lines) f.0 in
    ap (map without_end) cut ∙ (λ i. end_taken text f.0 i ∷ lines_again lines f.1 i)
