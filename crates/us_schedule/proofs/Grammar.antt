-- What words say, and what is in range.
use Rattle.std.proofs.Common.{◌≡◌, ℕ, ◌<◌, Bool, true, false, cond, ◌⊎◌, inl, inr, List, [], ◌∷◌, ◌++◌, map, length, get_or, Result, Ok, Err, refl, sym, ap, ◌∙◌, subst, arith, count_by}
use Rattle.std.specs.List.{slice_split}
use Rattle.std.specs.Fmt.{decimal}
use Rattle.std.proofs.lemmas.Slice.Eq.{bytes_eq-Decides}
use Rattle.std.specs.Str.{bytes_eq}
use Rattle.std.specs.Prelude.{◌==◌, codes, IsTrue}
use Rattle.std.proofs.lemmas.Bool.{ne_eqb}
use Rattle.std.proofs.lemmas.List.Splits.{length-slice_split}
use Rattle.std.proofs.lemmas.List.{map-append}
use Rattle.hex.specs.Hex.{IsBytes, encode_lower}
use Rattle.us_base.specs.declared.shape.Shape.{Shape}
use Rattle.us_schedule.specs.declared.fault.LineFault.{LineFault}
use Rattle.us_schedule.specs.declared.fault.LineFault.TheVariants as fault
use Rattle.us_schedule.specs.declared.line.Line.{Line}
use Rattle.us_schedule.specs.declared.line.Line.TheVariants.{Open, Bytes, Close, Tick, Deliver, Flush, Lead, Forward, Crash, Settle}
use Rattle.us_schedule.specs.Lines.{◌>>=◌, number, hex, within, one, two, three, three_and_hex, said_by_one, said_by_two, said_by_three, said_by_four, said, in_range, bytes_of, IsAllowed, words_of, lower_digit, Refused, is_skipped, line_read}
use Rattle.us_schedule.specs.Trace.{hex_alone, two_and_hex}
use Rattle.us_schedule.proofs.Numerals.{number_ok, lower_decimal, hex_ok}

-- no line has one word, or more than five
pub said_other : (shape : Shape) (words : List (List ℕ)) → (length words < 2) ⊎ (5 < length words) → said shape words ≡ Err fault.BadWord
unfolding said
said_other shape [] h = refl
said_other shape (name ∷ []) h = refl
said_other shape (name ∷ a ∷ []) h = absurd (grind arith)
said_other shape (name ∷ a ∷ b ∷ []) h = absurd (grind arith)
said_other shape (name ∷ a ∷ b ∷ c ∷ []) h = absurd (grind arith)
said_other shape (name ∷ a ∷ b ∷ c ∷ d ∷ []) h = absurd (grind arith)
said_other shape (name ∷ a ∷ b ∷ c ∷ d ∷ e ∷ more) h = refl

pub not_skipped : (text : List ℕ) → (length text == 0) ≡ false → (get_or text 0 0 ≡ 35 → ⊥) → is_skipped text ≡ false
not_skipped text some other = rw (some, ne_eqb (get_or text 0 0) 35 other) refl

pub refused_long : (shape : Shape) (text : List ℕ) → (length text == 0) ≡ false → (get_or text 0 0 ≡ 35 → ⊥) → 4 < count_by (λ b. b == 32) text → line_read shape text ≡ Refused fault.BadWord
refused_long shape text some other h =
    let len = length-slice_split (λ b. b == 32) text in
    let skipped : is_skipped text ≡ false = not_skipped text some other in
    rw (skipped, said_other shape (slice_split (λ b. b == 32) text) (inr (omega (arith, len)))) refl

-- ---- steps that did not fail

pub bind_ok : {A B : Type 0} (r : Result A LineFault) (f : A → Result B LineFault) (y : B) → (r >>= f) ≡ Ok y → (x : A) × (r ≡ Ok x) × (f x ≡ Ok y)
bind_ok (Ok x) f y e = (x, refl, e)
bind_ok (Err d) f y e = absurd cc

-- the test of a word's name went either way
pub chosen : {A : Type 0} (b : Bool) (x y z : Result A LineFault) → cond b x y ≡ z → ((b ≡ true) × (x ≡ z)) ⊎ ((b ≡ false) × (y ≡ z))
chosen true x y z e = inl (refl, e)
chosen false x y z e = inr (refl, e)

within_ok : {L : Type 0} (ranges : L → Bool) (made line : L) → within ranges made ≡ Ok line → (ranges made ≡ true) × (made ≡ line)
within_ok ranges made line e =
    elim (chosen (ranges made) (Ok made) (Err fault.OutOfRange) (Ok line) e) [
      | inl h ↦ (h.0, cc)
      | inr h ↦ absurd cc
    ]

-- ---- what is read is encoded so, and is in range

abbrev pub lower_words : List (List ℕ) → List (List ℕ)
lower_words words = map (λ w. map lower_digit w) words

-- how lines of a kind are encoded: their words, the bytes that they bring, and whether they are in range
pub record Encoding (L : Type 0) : Type 0 where
  pub words : L → List (List ℕ)
  pub bytes : L → List ℕ
  pub ranges : L → Bool

-- lines of a schedule
abbrev pub schedule_encoding : Shape → Encoding Line
schedule_encoding shape = record { words = words_of; bytes = bytes_of; ranges = in_range shape }

pub record IsReadBy (L : Type 0) (g : Encoding L) (words : List (List ℕ)) (line : L) : Type 0 where
  pub encoded : lower_words words ≡ g.words line
  pub ranges : IsTrue (g.ranges line)
  pub bytes : IsBytes (g.bytes line)

pub record IsRead (shape : Shape) (words : List (List ℕ)) (line : Line) : Type 0 where
  pub encoded : lower_words words ≡ words_of line
  pub allowed : IsAllowed shape line

no_byte : IsBytes []
no_byte i = omega arith

lower_number : (word : List ℕ) (n : ℕ) → number word ≡ Ok n → map lower_digit word ≡ decimal n
lower_number word n e = let h = number_ok word n e in ap (λ (w : List ℕ). map lower_digit w) h.encoded ∙ lower_decimal n h.below

-- a line without bytes
pub record IsPlain (L : Type 0) (g : Encoding L) (name : List ℕ) (numbers : List ℕ) (line : L) : Type 0 where
  pub words : g.words line ≡ name ∷ map decimal numbers
  pub none : g.bytes line ≡ []

-- a line whose last word is bytes in hex
pub record Brings (L : Type 0) (g : Encoding L) (name : List ℕ) (numbers bytes : List ℕ) (line : L) : Type 0 where
  pub words : g.words line ≡ name ∷ (map decimal numbers ++ encode_lower bytes ∷ [])
  pub brought : g.bytes line ≡ bytes

pub read_plain : {L : Type 0} (g : Encoding L) (name : List ℕ) (words : List (List ℕ)) (numbers : List ℕ) (made line : L)
    → map lower_digit name ≡ name → lower_words words ≡ map decimal numbers → IsPlain L g name numbers made → within g.ranges made ≡ Ok line → IsReadBy L g (name ∷ words) line
read_plain {L} g name words numbers made line low ws plain e =
    let w = within_ok g.ranges made line e in
    let encoded : lower_words (name ∷ words) ≡ g.words made = rw (low, ws) (sym plain.words) in
    let P : L → Type 0 = λ l. IsReadBy L g (name ∷ words) l in
    subst P w.1 (record { encoded = encoded; ranges = w.0; bytes = subst (λ (bs : List ℕ). IsBytes bs) (sym plain.none) no_byte })

read_hex : {L : Type 0} (g : Encoding L) (name : List ℕ) (words : List (List ℕ)) (word : List ℕ) (numbers bytes : List ℕ) (made line : L)
    → map lower_digit name ≡ name → lower_words words ≡ map decimal numbers → hex word ≡ Ok bytes → Brings L g name numbers bytes made → within g.ranges made ≡ Ok line → IsReadBy L g (name ∷ (words ++ word ∷ [])) line
read_hex {L} g name words word numbers bytes made line low ws h brings e =
    let w = within_ok g.ranges made line e in
    let x = hex_ok word bytes h in
    let last = x.encoded in
    let encoded : lower_words (name ∷ (words ++ word ∷ [])) ≡ g.words made = rw (low, map-append (λ (w : List ℕ). map lower_digit w) words (word ∷ []), ws, last) (sym brings.words) in
    let P : L → Type 0 = λ l. IsReadBy L g (name ∷ (words ++ word ∷ [])) l in
    subst P w.1 (record { encoded = encoded; ranges = w.0; bytes = subst (λ (bs : List ℕ). IsBytes bs) (sym brings.brought) x.fits })

pub one_ok : {L : Type 0} (g : Encoding L) (make : ℕ → L) (name a : List ℕ) (line : L) → map lower_digit name ≡ name → ((x : ℕ) → IsPlain L g name (x ∷ []) (make x)) → one g.ranges make a ≡ Ok line → IsReadBy L g (name ∷ a ∷ []) line
one_ok g make name a line low plain e =
    let x = bind_ok (number a) (λ x. within g.ranges (make x)) line e in
    let wx = lower_number a x.0 x.1 in
    read_plain g name (a ∷ []) (x.0 ∷ []) (make x.0) line low (rw wx refl) (plain x.0) x.2

pub two_ok : {L : Type 0} (g : Encoding L) (make : ℕ → ℕ → L) (name a b : List ℕ) (line : L) → map lower_digit name ≡ name → ((x y : ℕ) → IsPlain L g name (x ∷ y ∷ []) (make x y)) → two g.ranges make a b ≡ Ok line → IsReadBy L g (name ∷ a ∷ b ∷ []) line
two_ok g make name a b line low plain e =
    let x = bind_ok (number a) (λ x. number b >>= λ y. within g.ranges (make x y)) line e in
    let y = bind_ok (number b) (λ y. within g.ranges (make x.0 y)) line x.2 in
    let wx = lower_number a x.0 x.1 in
    let wy = lower_number b y.0 y.1 in
    read_plain g name (a ∷ b ∷ []) (x.0 ∷ y.0 ∷ []) (make x.0 y.0) line low (rw (wx, wy) refl) (plain x.0 y.0) y.2

three_ok : {L : Type 0} (g : Encoding L) (make : ℕ → ℕ → ℕ → L) (name a b c : List ℕ) (line : L) → map lower_digit name ≡ name → ((x y z : ℕ) → IsPlain L g name (x ∷ y ∷ z ∷ []) (make x y z)) → three g.ranges make a b c ≡ Ok line → IsReadBy L g (name ∷ a ∷ b ∷ c ∷ []) line
three_ok g make name a b c line low plain e =
    let x = bind_ok (number a) (λ x. number b >>= λ y. number c >>= λ z. within g.ranges (make x y z)) line e in
    let y = bind_ok (number b) (λ y. number c >>= λ z. within g.ranges (make x.0 y z)) line x.2 in
    let z = bind_ok (number c) (λ z. within g.ranges (make x.0 y.0 z)) line y.2 in
    let wx = lower_number a x.0 x.1 in
    let wy = lower_number b y.0 y.1 in
    let wz = lower_number c z.0 z.1 in
    read_plain g name (a ∷ b ∷ c ∷ []) (x.0 ∷ y.0 ∷ z.0 ∷ []) (make x.0 y.0 z.0) line low (rw (wx, wy, wz) refl) (plain x.0 y.0 z.0) z.2

pub hex_alone_ok : {L : Type 0} (g : Encoding L) (make : List ℕ → L) (name a : List ℕ) (line : L) → map lower_digit name ≡ name → ((bytes : List ℕ) → Brings L g name [] bytes (make bytes)) → hex_alone g.ranges make a ≡ Ok line → IsReadBy L g (name ∷ a ∷ []) line
hex_alone_ok g make name a line low brings e =
    let bytes = bind_ok (hex a) (λ bytes. within g.ranges (make bytes)) line e in
    read_hex g name [] a [] bytes.0 (make bytes.0) line low refl bytes.1 (brings bytes.0) bytes.2

pub two_and_hex_ok : {L : Type 0} (g : Encoding L) (make : ℕ → ℕ → List ℕ → L) (name a b c : List ℕ) (line : L) → map lower_digit name ≡ name → ((x y : ℕ) (bytes : List ℕ) → Brings L g name (x ∷ y ∷ []) bytes (make x y bytes)) → two_and_hex g.ranges make a b c ≡ Ok line
    → IsReadBy L g (name ∷ a ∷ b ∷ c ∷ []) line
two_and_hex_ok g make name a b c line low brings e =
    let x = bind_ok (number a) (λ x. number b >>= λ y. hex c >>= λ bytes. within g.ranges (make x y bytes)) line e in
    let y = bind_ok (number b) (λ y. hex c >>= λ bytes. within g.ranges (make x.0 y bytes)) line x.2 in
    let bytes = bind_ok (hex c) (λ bytes. within g.ranges (make x.0 y.0 bytes)) line y.2 in
    let wx = lower_number a x.0 x.1 in
    let wy = lower_number b y.0 y.1 in
    read_hex g name (a ∷ b ∷ []) c (x.0 ∷ y.0 ∷ []) bytes.0 (make x.0 y.0 bytes.0) line low (rw (wx, wy) refl) bytes.1 (brings x.0 y.0 bytes.0) bytes.2

three_and_hex_ok : {L : Type 0} (g : Encoding L) (make : ℕ → ℕ → ℕ → List ℕ → L) (name a b c d : List ℕ) (line : L) → map lower_digit name ≡ name → ((x y z : ℕ) (bytes : List ℕ) → Brings L g name (x ∷ y ∷ z ∷ []) bytes (make x y z bytes))
    → three_and_hex g.ranges make a b c d ≡ Ok line → IsReadBy L g (name ∷ a ∷ b ∷ c ∷ d ∷ []) line
three_and_hex_ok g make name a b c d line low brings e =
    let x = bind_ok (number a) (λ x. number b >>= λ y. number c >>= λ z. hex d >>= λ bytes. within g.ranges (make x y z bytes)) line e in
    let y = bind_ok (number b) (λ y. number c >>= λ z. hex d >>= λ bytes. within g.ranges (make x.0 y z bytes)) line x.2 in
    let z = bind_ok (number c) (λ z. hex d >>= λ bytes. within g.ranges (make x.0 y.0 z bytes)) line y.2 in
    let bytes = bind_ok (hex d) (λ bytes. within g.ranges (make x.0 y.0 z.0 bytes)) line z.2 in
    let wx = lower_number a x.0 x.1 in
    let wy = lower_number b y.0 y.1 in
    let wz = lower_number c z.0 z.1 in
    read_hex g name (a ∷ b ∷ c ∷ []) d (x.0 ∷ y.0 ∷ z.0 ∷ []) bytes.0 (make x.0 y.0 z.0 bytes.0) line low (rw (wx, wy, wz) refl) bytes.1 (brings x.0 y.0 z.0 bytes.0) bytes.2

pub named : (name lit : List ℕ) → bytes_eq name lit ≡ true → name ≡ lit
named name lit e = (bytes_eq-Decides name lit).0 e

pub plain : {L : Type 0} {g : Encoding L} {name numbers : List ℕ} {line : L} → g.words line ≡ name ∷ map decimal numbers → g.bytes line ≡ [] → IsPlain L g name numbers line
plain w n = record { words = w; none = n }

pub brings : {L : Type 0} {g : Encoding L} {name numbers bytes : List ℕ} {line : L} → g.words line ≡ name ∷ (map decimal numbers ++ encode_lower bytes ∷ []) → g.bytes line ≡ bytes → Brings L g name numbers bytes line
brings w b = record { words = w; brought = b }

abbrev pub unknown : {L : Type 0} → Result L LineFault
unknown = Err fault.BadWord

pub bad_word : {L : Type 0} (line : L) (A : Type 0) → unknown {L = L} ≡ Ok line → A
bad_word line A e = absurd cc

by_one : (shape : Shape) (name a : List ℕ) (line : Line) → said_by_one shape name a ≡ Ok line → IsReadBy Line (schedule_encoding shape) (name ∷ a ∷ []) line
by_one shape name a line e =
    let P : List ℕ → Type 0 = λ n. IsReadBy Line (schedule_encoding shape) (n ∷ a ∷ []) line in
    elim (chosen (bytes_eq name (codes "deliver")) (one (in_range shape) Deliver a) _ (Ok line) e) [
      | inl h ↦ subst P (sym (named name (codes "deliver") h.0)) (one_ok (schedule_encoding shape) Deliver (codes "deliver") a line refl (λ x. plain refl refl) h.1)
      | inr h ↦ elim (chosen (bytes_eq name (codes "lead")) (one (in_range shape) Lead a) _ (Ok line) h.1) [
        | inl h ↦ subst P (sym (named name (codes "lead") h.0)) (one_ok (schedule_encoding shape) Lead (codes "lead") a line refl (λ x. plain refl refl) h.1)
        | inr h ↦ elim (chosen (bytes_eq name (codes "crash")) (one (in_range shape) Crash a) _ (Ok line) h.1) [
          | inl h ↦ subst P (sym (named name (codes "crash") h.0)) (one_ok (schedule_encoding shape) Crash (codes "crash") a line refl (λ x. plain refl refl) h.1)
          | inr h ↦ bad_word line _ h.1
        ]
      ]
    ]

by_two : (shape : Shape) (name a b : List ℕ) (line : Line) → said_by_two shape name a b ≡ Ok line → IsReadBy Line (schedule_encoding shape) (name ∷ a ∷ b ∷ []) line
by_two shape name a b line e =
    let P : List ℕ → Type 0 = λ n. IsReadBy Line (schedule_encoding shape) (n ∷ a ∷ b ∷ []) line in
    elim (chosen (bytes_eq name (codes "open")) (two (in_range shape) Open a b) _ (Ok line) e) [
      | inl h ↦ subst P (sym (named name (codes "open") h.0)) (two_ok (schedule_encoding shape) Open (codes "open") a b line refl (λ x y. plain refl refl) h.1)
      | inr h ↦ elim (chosen (bytes_eq name (codes "flush")) (two (in_range shape) Flush a b) _ (Ok line) h.1) [
        | inl h ↦ subst P (sym (named name (codes "flush") h.0)) (two_ok (schedule_encoding shape) Flush (codes "flush") a b line refl (λ x y. plain refl refl) h.1)
        | inr h ↦ elim (chosen (bytes_eq name (codes "forward")) (two (in_range shape) Forward a b) _ (Ok line) h.1) [
          | inl h ↦ subst P (sym (named name (codes "forward") h.0)) (two_ok (schedule_encoding shape) Forward (codes "forward") a b line refl (λ x y. plain refl refl) h.1)
          | inr h ↦ elim (chosen (bytes_eq name (codes "settle")) (two (in_range shape) Settle a b) _ (Ok line) h.1) [
            | inl h ↦ subst P (sym (named name (codes "settle") h.0)) (two_ok (schedule_encoding shape) Settle (codes "settle") a b line refl (λ x y. plain refl refl) h.1)
            | inr h ↦ bad_word line _ h.1
          ]
        ]
      ]
    ]

by_three : (shape : Shape) (name a b c : List ℕ) (line : Line) → said_by_three shape name a b c ≡ Ok line → IsReadBy Line (schedule_encoding shape) (name ∷ a ∷ b ∷ c ∷ []) line
by_three shape name a b c line e =
    let P : List ℕ → Type 0 = λ n. IsReadBy Line (schedule_encoding shape) (n ∷ a ∷ b ∷ c ∷ []) line in
    elim (chosen (bytes_eq name (codes "close")) (three (in_range shape) Close a b c) _ (Ok line) e) [
      | inl h ↦ subst P (sym (named name (codes "close") h.0)) (three_ok (schedule_encoding shape) Close (codes "close") a b c line refl (λ x y z. plain refl refl) h.1)
      | inr h ↦ elim (chosen (bytes_eq name (codes "tick")) (three (in_range shape) Tick a b c) _ (Ok line) h.1) [
        | inl h ↦ subst P (sym (named name (codes "tick") h.0)) (three_ok (schedule_encoding shape) Tick (codes "tick") a b c line refl (λ x y z. plain refl refl) h.1)
        | inr h ↦ bad_word line _ h.1
      ]
    ]

by_four : (shape : Shape) (name a b c d : List ℕ) (line : Line) → said_by_four shape name a b c d ≡ Ok line → IsReadBy Line (schedule_encoding shape) (name ∷ a ∷ b ∷ c ∷ d ∷ []) line
by_four shape name a b c d line e =
    let P : List ℕ → Type 0 = λ n. IsReadBy Line (schedule_encoding shape) (n ∷ a ∷ b ∷ c ∷ d ∷ []) line in
    elim (chosen (bytes_eq name (codes "bytes")) (three_and_hex (in_range shape) Bytes a b c d) _ (Ok line) e) [
      | inl h ↦ subst P (sym (named name (codes "bytes") h.0)) (three_and_hex_ok (schedule_encoding shape) Bytes (codes "bytes") a b c d line refl (λ x y z bytes. brings refl refl) h.1)
      | inr h ↦ bad_word line _ h.1
    ]

is_read : (shape : Shape) (words : List (List ℕ)) (line : Line) → IsReadBy Line (schedule_encoding shape) words line → IsRead shape words line
is_read shape words line h = record { encoded = h.encoded; allowed = record { ranges = h.ranges; bytes = h.bytes } }

pub said_is_read : (shape : Shape) (words : List (List ℕ)) (line : Line) → said shape words ≡ Ok line → IsRead shape words line
unfolding said
said_is_read shape [] line e = bad_word line _ e
said_is_read shape (name ∷ []) line e = bad_word line _ e
said_is_read shape (name ∷ a ∷ []) line e = is_read shape _ line (by_one shape name a line e)
said_is_read shape (name ∷ a ∷ b ∷ []) line e = is_read shape _ line (by_two shape name a b line e)
said_is_read shape (name ∷ a ∷ b ∷ c ∷ []) line e = is_read shape _ line (by_three shape name a b c line e)
said_is_read shape (name ∷ a ∷ b ∷ c ∷ d ∷ []) line e = is_read shape _ line (by_four shape name a b c d line e)
said_is_read shape (name ∷ a ∷ b ∷ c ∷ d ∷ f ∷ more) line e = bad_word line _ e
