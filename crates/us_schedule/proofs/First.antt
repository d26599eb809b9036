-- A line is refused for the first fault that holds.
use Rattle.std.proofs.Common.{◌≡◌, ℕ, ◌<◌, Bool, true, false, cond, ◌&&◌, ◌||◌, not, inl, inr, List, [], ◌∷◌, length, Option, Some, None, Result, Ok, Err, is_ok, refl, sym, ap, ◌∙◌, subst, arith}
use Rattle.std.specs.Prelude.{◌==◌, codes}
use Rattle.std.specs.List.{slice_split}
use Rattle.std.specs.Str.{bytes_eq}
use Rattle.std.proofs.lemmas.Bool.{ne_eqb}
use Rattle.hex.specs.Hex.{decode_of}
use Rattle.us_base.specs.declared.shape.Shape.{Shape}
use Rattle.us_schedule.specs.declared.fault.LineFault.{LineFault}
use Rattle.us_schedule.specs.declared.fault.LineFault.TheVariants as fault
use Rattle.us_schedule.specs.declared.line.Line.{Line}
use Rattle.us_schedule.specs.declared.line.Line.TheVariants.{Open, Bytes, Close, Tick, Deliver, Flush, Lead, Forward, Crash, Settle}
use Rattle.us_schedule.specs.Lines.{◌>>=◌, number_in, has_leading_zero, or_bad_number, number, hex_of, hex, within, in_range, one, two, three, three_and_hex, said_by_one, said_by_two, said_by_three, said_by_four, said, Reading, Skipped, Refused, read_of, is_skipped, is_form, first_fault, RefusedIsFirst}
use Rattle.us_schedule.proofs.Grammar.{chosen, named}

-- the only fault of a step
abbrev pub Only : {A : Type 0} → LineFault → Result A LineFault → Type 0
Only e (Ok x) = Unit {0}
Only e (Err d) = d ≡ e

only_or : (o : Option ℕ) → Only fault.BadNumber (or_bad_number o)
only_or None = refl
only_or (Some n) = tt

only_cond : (b : Bool) (r : Result ℕ LineFault) → Only fault.BadNumber r → Only fault.BadNumber (cond b (Err fault.BadNumber) r)
only_cond true r h = refl
only_cond false r h = h

pub only_number : (word : List ℕ) → Only fault.BadNumber (number word)
only_number word = only_cond ((length word == 0) || has_leading_zero word) (or_bad_number (number_in word)) (only_or (number_in word))

pub only_hex_of : {E : Type 0} (r : Result (List ℕ) E) → Only fault.BadHex (hex_of r)
only_hex_of (Ok bytes) = tt
only_hex_of (Err e) = refl

only_cut : {L : Type 0} (line : L) (b : Bool) → Only fault.OutOfRange (cond b (Ok line) (Err fault.OutOfRange))
only_cut line true = tt
only_cut line false = refl

only_within : {L : Type 0} (ranges : L → Bool) (line : L) → Only fault.OutOfRange (within ranges line)
only_within ranges line = only_cut line (ranges line)

-- of the numbers, the hex and the ranges
abbrev pub pick : Bool → Bool → LineFault
pick numbers hexes = cond (not numbers) fault.BadNumber (cond (not hexes) fault.BadHex fault.OutOfRange)

abbrev pub failed : {A : Type 0} → LineFault → Result A LineFault
failed e = Err e

pub ends : {A : Type 0} (r : Result A LineFault) (d e : LineFault) → Only d r → r ≡ Err e → e ≡ d
ends (Ok x) d e h q = absurd (cc)
ends (Err x) d e h q = let k : x ≡ e = cc in sym k ∙ h

pub one_step : {L : Type 0} (ranges : L → Bool) (make : ℕ → L) (a : Result ℕ LineFault) (e : LineFault) → Only fault.BadNumber a → (a >>= λ x. within ranges (make x)) ≡ Err e → e ≡ pick (is_ok a && true) true
one_step ranges make (Ok x) e ha q = ends (within ranges (make x)) fault.OutOfRange e (only_within ranges (make x)) q
one_step {L} ranges make (Err d) e ha q = ends (failed {A = L} d) fault.BadNumber e ha q

pub two_step : {L : Type 0} (ranges : L → Bool) (make : ℕ → ℕ → L) (a b : Result ℕ LineFault) (e : LineFault) → Only fault.BadNumber a → Only fault.BadNumber b → (a >>= λ x. b >>= λ y. within ranges (make x y)) ≡ Err e → e ≡ pick (is_ok a && (is_ok b && true)) true
two_step ranges make (Ok x) b e ha hb q = one_step ranges (λ y. make x y) b e hb q
two_step {L} ranges make (Err d) b e ha hb q = ends (failed {A = L} d) fault.BadNumber e ha q

three_step : {L : Type 0} (ranges : L → Bool) (make : ℕ → ℕ → ℕ → L) (a b c : Result ℕ LineFault) (e : LineFault) → Only fault.BadNumber a → Only fault.BadNumber b → Only fault.BadNumber c
    → (a >>= λ x. b >>= λ y. c >>= λ z. within ranges (make x y z)) ≡ Err e → e ≡ pick (is_ok a && (is_ok b && (is_ok c && true))) true
three_step ranges make (Ok x) b c e ha hb hc q = two_step ranges (λ y z. make x y z) b c e hb hc q
three_step {L} ranges make (Err d) b c e ha hb hc q = ends (failed {A = L} d) fault.BadNumber e ha q

pub hex_step : {L : Type 0} (ranges : L → Bool) (make : List ℕ → L) (d : Result (List ℕ) LineFault) (e : LineFault) → Only fault.BadHex d → (d >>= λ bytes. within ranges (make bytes)) ≡ Err e → e ≡ pick true (is_ok d && true)
hex_step ranges make (Ok bytes) e hd q = ends (within ranges (make bytes)) fault.OutOfRange e (only_within ranges (make bytes)) q
hex_step {L} ranges make (Err f) e hd q = ends (failed {A = L} f) fault.BadHex e hd q

pub two_and_hex_step : {L : Type 0} (ranges : L → Bool) (make : ℕ → ℕ → List ℕ → L) (a b : Result ℕ LineFault) (d : Result (List ℕ) LineFault) (e : LineFault) → Only fault.BadNumber a → Only fault.BadNumber b → Only fault.BadHex d
    → (a >>= λ x. b >>= λ y. d >>= λ bytes. within ranges (make x y bytes)) ≡ Err e → e ≡ pick (is_ok a && (is_ok b && true)) (is_ok d && true)
two_and_hex_step ranges make (Ok x) (Ok y) d e ha hb hd q = hex_step ranges (λ bytes. make x y bytes) d e hd q
two_and_hex_step {L} ranges make (Ok x) (Err f) d e ha hb hd q = ends (failed {A = L} f) fault.BadNumber e hb q
two_and_hex_step {L} ranges make (Err f) b d e ha hb hd q = ends (failed {A = L} f) fault.BadNumber e ha q

three_and_hex_step : {L : Type 0} (ranges : L → Bool) (make : ℕ → ℕ → ℕ → List ℕ → L) (a b c : Result ℕ LineFault) (d : Result (List ℕ) LineFault) (e : LineFault) → Only fault.BadNumber a → Only fault.BadNumber b → Only fault.BadNumber c → Only fault.BadHex d
    → (a >>= λ x. b >>= λ y. c >>= λ z. d >>= λ bytes. within ranges (make x y z bytes)) ≡ Err e → e ≡ pick (is_ok a && (is_ok b && (is_ok c && true))) (is_ok d && true)
three_and_hex_step ranges make (Ok x) b c d e ha hb hc hd q = two_and_hex_step ranges (λ y z bytes. make x y z bytes) b c d e hb hc hd q
three_and_hex_step {L} ranges make (Err f) b c d e ha hb hc hd q = ends (failed {A = L} f) fault.BadNumber e ha q

-- ---- by names

one_first : (shape : Shape) (make : ℕ → Line) (name lit a : List ℕ) (e : LineFault) → bytes_eq name lit ≡ true → is_form (lit ∷ a ∷ []) ≡ true → one (in_range shape) make a ≡ Err e → e ≡ first_fault (name ∷ a ∷ [])
one_first shape make name lit a e same form q =
    let P : List ℕ → Type 0 = λ n. e ≡ first_fault (n ∷ a ∷ []) in
    subst P (sym (named name lit same)) (rw form (one_step (in_range shape) make (number a) e (only_number a) q))

two_first : (shape : Shape) (make : ℕ → ℕ → Line) (name lit a b : List ℕ) (e : LineFault) → bytes_eq name lit ≡ true → is_form (lit ∷ a ∷ b ∷ []) ≡ true → two (in_range shape) make a b ≡ Err e → e ≡ first_fault (name ∷ a ∷ b ∷ [])
two_first shape make name lit a b e same form q =
    let P : List ℕ → Type 0 = λ n. e ≡ first_fault (n ∷ a ∷ b ∷ []) in
    subst P (sym (named name lit same)) (rw form (two_step (in_range shape) make (number a) (number b) e (only_number a) (only_number b) q))

three_first : (shape : Shape) (make : ℕ → ℕ → ℕ → Line) (name lit a b c : List ℕ) (e : LineFault) → bytes_eq name lit ≡ true → is_form (lit ∷ a ∷ b ∷ c ∷ []) ≡ true → three (in_range shape) make a b c ≡ Err e → e ≡ first_fault (name ∷ a ∷ b ∷ c ∷ [])
three_first shape make name lit a b c e same form q =
    let P : List ℕ → Type 0 = λ n. e ≡ first_fault (n ∷ a ∷ b ∷ c ∷ []) in
    subst P (sym (named name lit same)) (rw form (three_step (in_range shape) make (number a) (number b) (number c) e (only_number a) (only_number b) (only_number c) q))

unknown : (words : List (List ℕ)) (e : LineFault) → is_form words ≡ false → failed {A = Line} fault.BadWord ≡ Err e → e ≡ first_fault words
unknown words e form q = ends (failed {A = Line} fault.BadWord) fault.BadWord e refl q ∙ (rw form refl)

by_one : (shape : Shape) (name a : List ℕ) (e : LineFault) → said_by_one shape name a ≡ Err e → e ≡ first_fault (name ∷ a ∷ [])
by_one shape name a e q =
    elim (chosen (bytes_eq name (codes "deliver")) (one (in_range shape) Deliver a) _ (Err e) q) [
      | inl h ↦ one_first shape Deliver name (codes "deliver") a e h.0 refl h.1
      | inr g ↦ elim (chosen (bytes_eq name (codes "lead")) (one (in_range shape) Lead a) _ (Err e) g.1) [
        | inl h ↦ one_first shape Lead name (codes "lead") a e h.0 refl h.1
        | inr h ↦ elim (chosen (bytes_eq name (codes "crash")) (one (in_range shape) Crash a) _ (Err e) h.1) [
          | inl k ↦ one_first shape Crash name (codes "crash") a e k.0 refl k.1
          | inr k ↦ unknown (name ∷ a ∷ []) e (rw (g.0, h.0, k.0) refl) k.1
        ]
      ]
    ]

by_two : (shape : Shape) (name a b : List ℕ) (e : LineFault) → said_by_two shape name a b ≡ Err e → e ≡ first_fault (name ∷ a ∷ b ∷ [])
by_two shape name a b e q =
    elim (chosen (bytes_eq name (codes "open")) (two (in_range shape) Open a b) _ (Err e) q) [
      | inl h ↦ two_first shape Open name (codes "open") a b e h.0 refl h.1
      | inr f ↦ elim (chosen (bytes_eq name (codes "flush")) (two (in_range shape) Flush a b) _ (Err e) f.1) [
        | inl h ↦ two_first shape Flush name (codes "flush") a b e h.0 refl h.1
        | inr g ↦ elim (chosen (bytes_eq name (codes "forward")) (two (in_range shape) Forward a b) _ (Err e) g.1) [
          | inl h ↦ two_first shape Forward name (codes "forward") a b e h.0 refl h.1
          | inr h ↦ elim (chosen (bytes_eq name (codes "settle")) (two (in_range shape) Settle a b) _ (Err e) h.1) [
            | inl k ↦ two_first shape Settle name (codes "settle") a b e k.0 refl k.1
            | inr k ↦ unknown (name ∷ a ∷ b ∷ []) e (rw (f.0, g.0, h.0, k.0) refl) k.1
          ]
        ]
      ]
    ]

by_three : (shape : Shape) (name a b c : List ℕ) (e : LineFault) → said_by_three shape name a b c ≡ Err e → e ≡ first_fault (name ∷ a ∷ b ∷ c ∷ [])
by_three shape name a b c e q =
    elim (chosen (bytes_eq name (codes "close")) (three (in_range shape) Close a b c) _ (Err e) q) [
      | inl h ↦ three_first shape Close name (codes "close") a b c e h.0 refl h.1
      | inr h ↦ elim (chosen (bytes_eq name (codes "tick")) (three (in_range shape) Tick a b c) _ (Err e) h.1) [
        | inl k ↦ three_first shape Tick name (codes "tick") a b c e k.0 refl k.1
        | inr k ↦ unknown (name ∷ a ∷ b ∷ c ∷ []) e (rw (h.0, k.0) refl) k.1
      ]
    ]

by_four : (shape : Shape) (name a b c d : List ℕ) (e : LineFault) → said_by_four shape name a b c d ≡ Err e → e ≡ first_fault (name ∷ a ∷ b ∷ c ∷ d ∷ [])
by_four shape name a b c d e q =
    let P : List ℕ → Type 0 = λ n. e ≡ first_fault (n ∷ a ∷ b ∷ c ∷ d ∷ []) in
    elim (chosen (bytes_eq name (codes "bytes")) (three_and_hex (in_range shape) Bytes a b c d) _ (Err e) q) [
      | inl h ↦ subst P (sym (named name (codes "bytes") h.0)) (three_and_hex_step (in_range shape) Bytes (number a) (number b) (number c) (hex d) e (only_number a) (only_number b) (only_number c) (only_hex_of (decode_of d)) h.1)
      | inr h ↦ unknown (name ∷ a ∷ b ∷ c ∷ d ∷ []) e (rw h.0 refl) h.1
    ]

too_many : (name : List ℕ) (words : List (List ℕ)) → 4 < length words → is_form (name ∷ words) ≡ false
too_many name words more =
    let e1 = ne_eqb (length words) 1 (λ z. omega arith) in
    let e2 = ne_eqb (length words) 2 (λ z. omega arith) in
    let e3 = ne_eqb (length words) 3 (λ z. omega arith) in
    let e4 = ne_eqb (length words) 4 (λ z. omega arith) in
    rw (e1, e2, e3, e4) refl

said_first : (shape : Shape) (words : List (List ℕ)) (e : LineFault) → said shape words ≡ Err e → e ≡ first_fault words
unfolding said
said_first shape [] e q = unknown [] e refl q
said_first shape (name ∷ []) e q = unknown (name ∷ []) e refl q
said_first shape (name ∷ a ∷ []) e q = by_one shape name a e q
said_first shape (name ∷ a ∷ b ∷ []) e q = by_two shape name a b e q
said_first shape (name ∷ a ∷ b ∷ c ∷ []) e q = by_three shape name a b c e q
said_first shape (name ∷ a ∷ b ∷ c ∷ d ∷ []) e q = by_four shape name a b c d e q
said_first shape (name ∷ a ∷ b ∷ c ∷ d ∷ f ∷ more) e q = unknown (name ∷ a ∷ b ∷ c ∷ d ∷ f ∷ more) e (too_many name (a ∷ b ∷ c ∷ d ∷ f ∷ more) (omega arith)) q

pub refused_said : {L : Type 0} (r : Result L LineFault) (e : LineFault) → read_of r ≡ Refused e → r ≡ Err e
refused_said (Ok line) e q = absurd (cc)
refused_said (Err d) e q = let k : d ≡ e = cc in ap Err k

pub refused_read : {L : Type 0} (b : Bool) (read : Reading L) (e : LineFault) → cond b Skipped read ≡ Refused e → read ≡ Refused e
refused_read true read e q = absurd (cc)
refused_read false read e q = q

pub refused_is_first : RefusedIsFirst
refused_is_first shape text e q =
    let words = slice_split (λ b. b == 32) text in
    said_first shape words e (refused_said (said shape words) e (refused_read (is_skipped text) (read_of (said shape words)) e q))
