-- A line of a trace is refused for the first fault that holds.
use Rattle.std.proofs.Common.{◌≡◌, ℕ, ◌<◌, Bool, true, false, cond, ◌&&◌, not, inl, inr, List, [], ◌∷◌, length, Result, Ok, Err, is_ok, refl, sym, ap, ◌∙◌, subst, arith}
use Rattle.std.specs.Prelude.{◌==◌, codes}
use Rattle.std.specs.List.{slice_split}
use Rattle.std.specs.Str.{bytes_eq}
use Rattle.std.proofs.lemmas.Bool.{ne_eqb}
use Rattle.hex.specs.Hex.{decode_of}
use Rattle.us_base.specs.declared.shape.Shape.{Shape}
use Rattle.us_schedule.specs.declared.fault.LineFault.{LineFault}
use Rattle.us_schedule.specs.declared.fault.LineFault.TheVariants as fault
use Rattle.us_schedule.specs.declared.trace_line.TraceLine.{TraceLine}
use Rattle.us_schedule.specs.declared.trace_line.TraceLine.TheVariants.{Node, Open, Bytes, Close, Tick, Take, Lead, Forward, Lost, NoPoll, Bad, End}
use Rattle.us_schedule.specs.Lines.{number, hex, one, two, read_of, is_skipped}
use Rattle.us_schedule.specs.Trace.{in_trace_range, hex_alone, two_and_hex, trace_by_none, trace_by_one, trace_by_two, trace_by_three, trace_said, is_trace_form, numbers_behind, first_trace_fault, TraceRefusedIsFirst}
use Rattle.us_schedule.proofs.Grammar.{chosen, named}
use Rattle.us_schedule.proofs.First.{Only, only_number, only_hex_of, pick, failed, ends, one_step, two_step, hex_step, two_and_hex_step, refused_said, refused_read}

one_first : (shape : Shape) (make : ℕ → TraceLine) (name lit a : List ℕ) (e : LineFault) → bytes_eq name lit ≡ true → is_trace_form (lit ∷ a ∷ []) ≡ true → numbers_behind lit ≡ 2 → one (in_trace_range shape) make a ≡ Err e → e ≡ first_trace_fault (name ∷ a ∷ [])
one_first shape make name lit a e same form numbers q =
    let P : List ℕ → Type 0 = λ n. e ≡ first_trace_fault (n ∷ a ∷ []) in
    subst P (sym (named name lit same)) (rw (form, numbers) (one_step (in_trace_range shape) make (number a) e (only_number a) q))

hex_first : (shape : Shape) (make : List ℕ → TraceLine) (name lit a : List ℕ) (e : LineFault) → bytes_eq name lit ≡ true → is_trace_form (lit ∷ a ∷ []) ≡ true → numbers_behind lit ≡ 0 → hex_alone (in_trace_range shape) make a ≡ Err e → e ≡ first_trace_fault (name ∷ a ∷ [])
hex_first shape make name lit a e same form numbers q =
    let P : List ℕ → Type 0 = λ n. e ≡ first_trace_fault (n ∷ a ∷ []) in
    subst P (sym (named name lit same)) (rw (form, numbers) (hex_step (in_trace_range shape) make (hex a) e (only_hex_of (decode_of a)) q))

two_first : (shape : Shape) (make : ℕ → ℕ → TraceLine) (name lit a b : List ℕ) (e : LineFault) → bytes_eq name lit ≡ true → is_trace_form (lit ∷ a ∷ b ∷ []) ≡ true → numbers_behind lit ≡ 2 → two (in_trace_range shape) make a b ≡ Err e → e ≡ first_trace_fault (name ∷ a ∷ b ∷ [])
two_first shape make name lit a b e same form numbers q =
    let P : List ℕ → Type 0 = λ n. e ≡ first_trace_fault (n ∷ a ∷ b ∷ []) in
    subst P (sym (named name lit same)) (rw (form, numbers) (two_step (in_trace_range shape) make (number a) (number b) e (only_number a) (only_number b) q))

bytes_first : (shape : Shape) (name a b c : List ℕ) (e : LineFault) → bytes_eq name (codes "bytes") ≡ true → two_and_hex (in_trace_range shape) Bytes a b c ≡ Err e → e ≡ first_trace_fault (name ∷ a ∷ b ∷ c ∷ [])
bytes_first shape name a b c e same q =
    let P : List ℕ → Type 0 = λ n. e ≡ first_trace_fault (n ∷ a ∷ b ∷ c ∷ []) in
    subst P (sym (named name (codes "bytes") same)) (two_and_hex_step (in_trace_range shape) Bytes (number a) (number b) (hex c) e (only_number a) (only_number b) (only_hex_of (decode_of c)) q)

unknown : (words : List (List ℕ)) (e : LineFault) → is_trace_form words ≡ false → failed {A = TraceLine} fault.BadWord ≡ Err e → e ≡ first_trace_fault words
unknown [] e form q = ends (failed {A = TraceLine} fault.BadWord) fault.BadWord e refl q
unknown (name ∷ words) e form q = ends (failed {A = TraceLine} fault.BadWord) fault.BadWord e refl q ∙ (rw form refl)

never : (line : TraceLine) (e : LineFault) (A : Type 0) → Ok line ≡ Err e → A
never line e A q = absurd (cc)

by_none : (name : List ℕ) (e : LineFault) → trace_by_none name ≡ Err e → e ≡ first_trace_fault (name ∷ [])
by_none name e q =
    elim (chosen (bytes_eq name (codes "lead")) (Ok Lead) _ (Err e) q) [
      | inl h ↦ never Lead e _ h.1
      | inr h0 ↦ elim (chosen (bytes_eq name (codes "nopoll")) (Ok NoPoll) _ (Err e) h0.1) [
        | inl h ↦ never NoPoll e _ h.1
        | inr h1 ↦ unknown (name ∷ []) e (rw (h0.0, h1.0) refl) h1.1
      ]
    ]

by_one : (shape : Shape) (name a : List ℕ) (e : LineFault) → trace_by_one shape name a ≡ Err e → e ≡ first_trace_fault (name ∷ a ∷ [])
by_one shape name a e q =
    elim (chosen (bytes_eq name (codes "node")) (one (in_trace_range shape) Node a) _ (Err e) q) [
      | inl h ↦ one_first shape Node name (codes "node") a e h.0 refl refl h.1
      | inr h0 ↦ elim (chosen (bytes_eq name (codes "open")) (one (in_trace_range shape) Open a) _ (Err e) h0.1) [
        | inl h ↦ one_first shape Open name (codes "open") a e h.0 refl refl h.1
        | inr h1 ↦ elim (chosen (bytes_eq name (codes "take")) (hex_alone (in_trace_range shape) Take a) _ (Err e) h1.1) [
          | inl h ↦ hex_first shape Take name (codes "take") a e h.0 refl refl h.1
          | inr h2 ↦ elim (chosen (bytes_eq name (codes "lost")) (one (in_trace_range shape) Lost a) _ (Err e) h2.1) [
            | inl h ↦ one_first shape Lost name (codes "lost") a e h.0 refl refl h.1
            | inr h3 ↦ elim (chosen (bytes_eq name (codes "bad")) (one (in_trace_range shape) Bad a) _ (Err e) h3.1) [
              | inl h ↦ one_first shape Bad name (codes "bad") a e h.0 refl refl h.1
              | inr h4 ↦ elim (chosen (bytes_eq name (codes "end")) (one (in_trace_range shape) End a) _ (Err e) h4.1) [
                | inl h ↦ one_first shape End name (codes "end") a e h.0 refl refl h.1
                | inr h5 ↦ unknown (name ∷ a ∷ []) e (rw (h0.0, h1.0, h2.0, h3.0, h4.0, h5.0) refl) h5.1
              ]
            ]
          ]
        ]
      ]
    ]

by_two : (shape : Shape) (name a b : List ℕ) (e : LineFault) → trace_by_two shape name a b ≡ Err e → e ≡ first_trace_fault (name ∷ a ∷ b ∷ [])
by_two shape name a b e q =
    elim (chosen (bytes_eq name (codes "close")) (two (in_trace_range shape) Close a b) _ (Err e) q) [
      | inl h ↦ two_first shape Close name (codes "close") a b e h.0 refl refl h.1
      | inr h0 ↦ elim (chosen (bytes_eq name (codes "tick")) (two (in_trace_range shape) Tick a b) _ (Err e) h0.1) [
        | inl h ↦ two_first shape Tick name (codes "tick") a b e h.0 refl refl h.1
        | inr h1 ↦ elim (chosen (bytes_eq name (codes "forward")) (two (in_trace_range shape) Forward a b) _ (Err e) h1.1) [
          | inl h ↦ two_first shape Forward name (codes "forward") a b e h.0 refl refl h.1
          | inr h2 ↦ unknown (name ∷ a ∷ b ∷ []) e (rw (h0.0, h1.0, h2.0) refl) h2.1
        ]
      ]
    ]

by_three : (shape : Shape) (name a b c : List ℕ) (e : LineFault) → trace_by_three shape name a b c ≡ Err e → e ≡ first_trace_fault (name ∷ a ∷ b ∷ c ∷ [])
by_three shape name a b c e q =
    elim (chosen (bytes_eq name (codes "bytes")) (two_and_hex (in_trace_range shape) Bytes a b c) _ (Err e) q) [
      | inl h ↦ bytes_first shape name a b c e h.0 h.1
      | inr h ↦ unknown (name ∷ a ∷ b ∷ c ∷ []) e (rw h.0 refl) h.1
    ]

too_many : (name : List ℕ) (words : List (List ℕ)) → 3 < length words → is_trace_form (name ∷ words) ≡ false
too_many name words more =
    let e0 = ne_eqb (length words) 0 (λ z. omega arith) in
    let e1 = ne_eqb (length words) 1 (λ z. omega arith) in
    let e2 = ne_eqb (length words) 2 (λ z. omega arith) in
    let e3 = ne_eqb (length words) 3 (λ z. omega arith) in
    rw (e0, e1, e2, e3) refl

said_first : (shape : Shape) (words : List (List ℕ)) (e : LineFault) → trace_said shape words ≡ Err e → e ≡ first_trace_fault words
unfolding trace_said
said_first shape [] e q = unknown [] e refl q
said_first shape (name ∷ []) e q = by_none name e q
said_first shape (name ∷ a ∷ []) e q = by_one shape name a e q
said_first shape (name ∷ a ∷ b ∷ []) e q = by_two shape name a b e q
said_first shape (name ∷ a ∷ b ∷ c ∷ []) e q = by_three shape name a b c e q
said_first shape (name ∷ a ∷ b ∷ c ∷ d ∷ more) e q = unknown (name ∷ a ∷ b ∷ c ∷ d ∷ more) e (too_many name (a ∷ b ∷ c ∷ d ∷ more) (omega arith)) q

pub trace_refused_is_first : TraceRefusedIsFirst
trace_refused_is_first shape text e q =
    let words = slice_split (λ b. b == 32) text in
    said_first shape words e (refused_said (trace_said shape words) e (refused_read (is_skipped text) (read_of (trace_said shape words)) e q))
