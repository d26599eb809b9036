-- What the words of a trace's line say, and what is in range.
use Rattle.std.proofs.Common.{◌≡◌, ℕ, ◌<◌, Bool, true, false, cond, ◌⊎◌, inl, inr, List, [], ◌∷◌, map, length, get_or, Result, Ok, Err, refl, sym, ap, ◌∙◌, subst, arith, count_by}
use Rattle.std.specs.List.{slice_split}
use Rattle.std.specs.Str.{bytes_eq}
use Rattle.std.specs.Prelude.{◌==◌, codes}
use Rattle.std.proofs.lemmas.Bool.{ne_eqb}
use Rattle.std.proofs.lemmas.List.Splits.{length-slice_split}
use Rattle.us_base.specs.declared.shape.Shape.{Shape}
use Rattle.us_schedule.specs.declared.fault.LineFault.{LineFault}
use Rattle.us_schedule.specs.declared.fault.LineFault.TheVariants as fault
use Rattle.us_schedule.specs.declared.trace_line.TraceLine.{TraceLine}
use Rattle.us_schedule.specs.declared.trace_line.TraceLine.TheVariants.{Node, Open, Bytes, Close, Tick, Take, Lead, Forward, Lost, NoPoll, Bad, End}
use Rattle.us_schedule.specs.Lines.{one, two, lower_digit, is_skipped, Refused}
use Rattle.us_schedule.specs.Trace.{in_trace_range, trace_bytes_of, trace_words_of, IsAllowedTrace, hex_alone, two_and_hex, trace_by_none, trace_by_one, trace_by_two, trace_by_three, trace_said, trace_read}
use Rattle.us_schedule.proofs.Grammar.{chosen, named, Encoding, IsReadBy, not_skipped, read_plain, one_ok, two_ok, hex_alone_ok, two_and_hex_ok, plain, brings, unknown, bad_word, lower_words}

-- no line has no word, or more than four
pub trace_said_other : (shape : Shape) (words : List (List ℕ)) → (length words < 1) ⊎ (4 < length words) → trace_said shape words ≡ Err fault.BadWord
unfolding trace_said
trace_said_other shape [] h = refl
trace_said_other shape (name ∷ []) h = absurd (grind arith)
trace_said_other shape (name ∷ a ∷ []) h = absurd (grind arith)
trace_said_other shape (name ∷ a ∷ b ∷ []) h = absurd (grind arith)
trace_said_other shape (name ∷ a ∷ b ∷ c ∷ []) h = absurd (grind arith)
trace_said_other shape (name ∷ a ∷ b ∷ c ∷ d ∷ more) h = refl

pub trace_refused_long : (shape : Shape) (text : List ℕ) → (length text == 0) ≡ false → (get_or text 0 0 ≡ 35 → ⊥) → 3 < count_by (λ b. b == 32) text → trace_read shape text ≡ Refused fault.BadWord
trace_refused_long shape text some other h =
    let len = length-slice_split (λ b. b == 32) text in
    let skipped : is_skipped text ≡ false = not_skipped text some other in
    rw (skipped, trace_said_other shape (slice_split (λ b. b == 32) text) (inr (omega (arith, len)))) refl

-- ---- what is read is encoded so, and is in range

abbrev pub trace_encoding : Shape → Encoding TraceLine
trace_encoding shape = record { words = trace_words_of; bytes = trace_bytes_of; ranges = in_trace_range shape }

pub record IsTraceRead (shape : Shape) (words : List (List ℕ)) (line : TraceLine) : Type 0 where
  pub encoded : lower_words words ≡ trace_words_of line
  pub allowed : IsAllowedTrace shape line

abbrev found : TraceLine → Result TraceLine LineFault
found line = Ok line

-- a line of its name alone
none_ok : (shape : Shape) (name : List ℕ) (made line : TraceLine) → map lower_digit name ≡ name → trace_words_of made ≡ name ∷ [] → trace_bytes_of made ≡ [] → in_trace_range shape made ≡ true → found made ≡ Ok line → IsReadBy TraceLine (trace_encoding shape) (name ∷ []) line
none_ok shape name made line low words none ranges e =
    read_plain (trace_encoding shape) name [] [] made line low refl (plain words none) (rw ranges e)

by_none : (shape : Shape) (name : List ℕ) (line : TraceLine) → trace_by_none name ≡ Ok line → IsReadBy TraceLine (trace_encoding shape) (name ∷ []) line
by_none shape name line e =
    let P : List ℕ → Type 0 = λ n. IsReadBy TraceLine (trace_encoding shape) (n ∷ []) line in
    elim (chosen (bytes_eq name (codes "lead")) (Ok Lead) _ (Ok line) e) [
      | inl h ↦ subst P (sym (named name (codes "lead") h.0)) (none_ok shape (codes "lead") Lead line refl refl refl refl h.1)
      | inr h0 ↦ elim (chosen (bytes_eq name (codes "nopoll")) (Ok NoPoll) _ (Ok line) h0.1) [
        | inl h ↦ subst P (sym (named name (codes "nopoll") h.0)) (none_ok shape (codes "nopoll") NoPoll line refl refl refl refl h.1)
        | inr h1 ↦ bad_word line _ h1.1
      ]
    ]

by_one : (shape : Shape) (name a : List ℕ) (line : TraceLine) → trace_by_one shape name a ≡ Ok line → IsReadBy TraceLine (trace_encoding shape) (name ∷ a ∷ []) line
by_one shape name a line e =
    let P : List ℕ → Type 0 = λ n. IsReadBy TraceLine (trace_encoding shape) (n ∷ a ∷ []) line in
    elim (chosen (bytes_eq name (codes "node")) (one (in_trace_range shape) Node a) _ (Ok line) e) [
      | inl h ↦ subst P (sym (named name (codes "node") h.0)) (one_ok (trace_encoding shape) Node (codes "node") a line refl (λ x. plain refl refl) h.1)
      | inr h0 ↦ elim (chosen (bytes_eq name (codes "open")) (one (in_trace_range shape) Open a) _ (Ok line) h0.1) [
        | inl h ↦ subst P (sym (named name (codes "open") h.0)) (one_ok (trace_encoding shape) Open (codes "open") a line refl (λ x. plain refl refl) h.1)
        | inr h1 ↦ elim (chosen (bytes_eq name (codes "take")) (hex_alone (in_trace_range shape) Take a) _ (Ok line) h1.1) [
          | inl h ↦ subst P (sym (named name (codes "take") h.0)) (hex_alone_ok (trace_encoding shape) Take (codes "take") a line refl (λ bytes. brings refl refl) h.1)
          | inr h2 ↦ elim (chosen (bytes_eq name (codes "lost")) (one (in_trace_range shape) Lost a) _ (Ok line) h2.1) [
            | inl h ↦ subst P (sym (named name (codes "lost") h.0)) (one_ok (trace_encoding shape) Lost (codes "lost") a line refl (λ x. plain refl refl) h.1)
            | inr h3 ↦ elim (chosen (bytes_eq name (codes "bad")) (one (in_trace_range shape) Bad a) _ (Ok line) h3.1) [
              | inl h ↦ subst P (sym (named name (codes "bad") h.0)) (one_ok (trace_encoding shape) Bad (codes "bad") a line refl (λ x. plain refl refl) h.1)
              | inr h4 ↦ elim (chosen (bytes_eq name (codes "end")) (one (in_trace_range shape) End a) _ (Ok line) h4.1) [
                | inl h ↦ subst P (sym (named name (codes "end") h.0)) (one_ok (trace_encoding shape) End (codes "end") a line refl (λ x. plain refl refl) h.1)
                | inr h5 ↦ bad_word line _ h5.1
              ]
            ]
          ]
        ]
      ]
    ]

by_two : (shape : Shape) (name a b : List ℕ) (line : TraceLine) → trace_by_two shape name a b ≡ Ok line → IsReadBy TraceLine (trace_encoding shape) (name ∷ a ∷ b ∷ []) line
by_two shape name a b line e =
    let P : List ℕ → Type 0 = λ n. IsReadBy TraceLine (trace_encoding shape) (n ∷ a ∷ b ∷ []) line in
    elim (chosen (bytes_eq name (codes "close")) (two (in_trace_range shape) Close a b) _ (Ok line) e) [
      | inl h ↦ subst P (sym (named name (codes "close") h.0)) (two_ok (trace_encoding shape) Close (codes "close") a b line refl (λ x y. plain refl refl) h.1)
      | inr h0 ↦ elim (chosen (bytes_eq name (codes "tick")) (two (in_trace_range shape) Tick a b) _ (Ok line) h0.1) [
        | inl h ↦ subst P (sym (named name (codes "tick") h.0)) (two_ok (trace_encoding shape) Tick (codes "tick") a b line refl (λ x y. plain refl refl) h.1)
        | inr h1 ↦ elim (chosen (bytes_eq name (codes "forward")) (two (in_trace_range shape) Forward a b) _ (Ok line) h1.1) [
          | inl h ↦ subst P (sym (named name (codes "forward") h.0)) (two_ok (trace_encoding shape) Forward (codes "forward") a b line refl (λ x y. plain refl refl) h.1)
          | inr h2 ↦ bad_word line _ h2.1
        ]
      ]
    ]

by_three : (shape : Shape) (name a b c : List ℕ) (line : TraceLine) → trace_by_three shape name a b c ≡ Ok line → IsReadBy TraceLine (trace_encoding shape) (name ∷ a ∷ b ∷ c ∷ []) line
by_three shape name a b c line e =
    let P : List ℕ → Type 0 = λ n. IsReadBy TraceLine (trace_encoding shape) (n ∷ a ∷ b ∷ c ∷ []) line in
    elim (chosen (bytes_eq name (codes "bytes")) (two_and_hex (in_trace_range shape) Bytes a b c) _ (Ok line) e) [
      | inl h ↦ subst P (sym (named name (codes "bytes") h.0)) (two_and_hex_ok (trace_encoding shape) Bytes (codes "bytes") a b c line refl (λ x y bytes. brings refl refl) h.1)
      | inr h ↦ bad_word line _ h.1
    ]

is_read : (shape : Shape) (words : List (List ℕ)) (line : TraceLine) → IsReadBy TraceLine (trace_encoding shape) words line → IsTraceRead shape words line
is_read shape words line h = record { encoded = h.encoded; allowed = record { ranges = h.ranges; bytes = h.bytes } }

pub trace_said_is_read : (shape : Shape) (words : List (List ℕ)) (line : TraceLine) → trace_said shape words ≡ Ok line → IsTraceRead shape words line
unfolding trace_said
trace_said_is_read shape [] line e = bad_word line _ e
trace_said_is_read shape (name ∷ []) line e = is_read shape _ line (by_none shape name line e)
trace_said_is_read shape (name ∷ a ∷ []) line e = is_read shape _ line (by_one shape name a line e)
trace_said_is_read shape (name ∷ a ∷ b ∷ []) line e = is_read shape _ line (by_two shape name a b line e)
trace_said_is_read shape (name ∷ a ∷ b ∷ c ∷ []) line e = is_read shape _ line (by_three shape name a b c line e)
trace_said_is_read shape (name ∷ a ∷ b ∷ c ∷ d ∷ more) line e = bad_word line _ e
