-- The number that digits write.
use Rattle.std.proofs.Common.{◌≡◌, ℕ, ◌+◌, ◌-◌, ◌*◌, ◌^◌, ◌<◌, ◌≤◌, Bool, true, false, ltb, ◌&&◌, List, [], length, get_or, take, Some, None, refl, sym, ap, ◌∙◌, subst, arith}
use Rattle.std.specs.Char.{digit_value, IsAsciiDigit, IsNotAsciiDigit}
use Rattle.std.specs.Str.{all_ascii_digits}
use Rattle.std.specs.Str.Parse.{digits_value, AllDigits}
use Rattle.std.proofs.lemmas.Bool.{and_right, le-ltb, lt-ltb}
use Rattle.std.proofs.lemmas.List.{take_all}
use Rattle.std.proofs.lemmas.Bool.Decides.{nat_tests}
use Rattle.std.proofs.lemmas.Int.Digits.{digits_value_more, digits_more}
use Rattle.std.proofs.lemmas.Str.Parse.{IsNumeralModel, numerals_by_value, tells_all_ascii_digits, digit_at, digits_value-take-le}
use Rattle.us_schedule.specs.Lines.{number_in}

-- the digits, and what they write
pub record IsValue (word : List ℕ) (value : ℕ) : Type 0 where
  pub digits : AllDigits 10 word
  pub is : value ≡ digits_value 10 word

pub own : IsNumeralModel (λ ds. all_ascii_digits ds ≡ true) (digits_value 10)
own = numerals_by_value (λ ds. all_ascii_digits ds ≡ true) tells_all_ascii_digits

pub digits_decide : (word : List ℕ) → (all_ascii_digits word ≡ true → AllDigits 10 word) × (AllDigits 10 word → all_ascii_digits word ≡ true)
digits_decide word = (own.to word, own.from word)

pub false_unless : (b : Bool) → (b ≡ true → ⊥) → b ≡ false
false_unless true h = absurd (h refl)
false_unless false h = refl

pub no_digit : (word : List ℕ) (i : ℕ) → i < length word → IsNotAsciiDigit (get_or word i 0) → number_in word ≡ None
no_digit word i lt h =
    let e = false_unless (all_ascii_digits word) (λ t. let r = digit_at word i (own.to word t) lt in grind (arith)) in
    rw e refl

pub too_large : (word : List ℕ) (i : ℕ) → i < length word → 2 ^ 64 ≤ digits_value 10 (take (i + 1) word) → number_in word ≡ None
too_large word i lt h =
    let le = digits_value-take-le 10 word (i + 1) (omega arith) in
    let e : ltb (digits_value 10 word) (2 ^ 64) ≡ false = le-ltb _ _ (omega arith) in
    let both : (all_ascii_digits word && ltb (digits_value 10 word) (2 ^ 64)) ≡ false = and_right (all_ascii_digits word) (ltb (digits_value 10 word) (2 ^ 64)) e in
    rw both refl

value_of_digit : (c : ℕ) → IsAsciiDigit c → digit_value c ≡ c - 48
value_of_digit c h = grind (arith, nat_tests)

pub value_more : (word : List ℕ) (i value : ℕ) → i < length word → IsAsciiDigit (get_or word i 0) → IsValue (take i word) value → IsValue (take (i + 1) word) (value * 10 + (get_or word i 0 - 48))
value_more word i value lt d h =
    let v = value_of_digit (get_or word i 0) d in
    let more = digits_value_more 10 word i lt in
    record { digits = digits_more 10 word i lt h.digits (omega arith); is = ap (λ n. n * 10 + (get_or word i 0 - 48)) h.is ∙ ap (λ n. digits_value 10 (take i word) * 10 + n) (sym v) ∙ sym more }

pub value_all : (word : List ℕ) (i value : ℕ) → length word ≤ i → IsValue (take i word) value → value < 2 ^ 64 → number_in word ≡ Some value
value_all word i value le h lt =
    let whole = take_all i word le in
    let digits : AllDigits 10 word = subst (λ (w : List ℕ). AllDigits 10 w) whole h.digits in
    let is : value ≡ digits_value 10 word = h.is ∙ ap (digits_value 10) whole in
    let e : all_ascii_digits word ≡ true = own.from word digits in
    let f : ltb (digits_value 10 word) (2 ^ 64) ≡ true = lt-ltb _ _ (omega arith) in
    rw (e, f) (ap Some (sym is))
