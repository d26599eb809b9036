-- What is written is read, and what is read is written so.
use Rattle.std.proofs.Common.{◌≡◌, ℕ, suc, ◌/◌, ◌%◌, ◌^◌, ◌<◌, ◌≤◌, Bool, true, false, cond, eqb, ltb, leb, List, [], ◌∷◌, ◌++◌, map, length, slice_index, Result, Ok, Err, refl, sym, ap, ◌∙◌, subst, arith}
use Rattle.std.specs.Prelude.{◌==◌}
use Rattle.std.specs.List.{slice_split, join_with_byte}
use Rattle.std.specs.Fmt.{decimal}
use Rattle.std.specs.Str.Parse.{AllDigits}
use Rattle.std.proofs.lemmas.Bool.{and_parts, leb-true, ltb-true, ne_eqb, agree_below_at}
use Rattle.std.proofs.lemmas.Fmt.{digits_decimal}
use Rattle.std.proofs.lemmas.List.{map-append}
use Rattle.std.proofs.lemmas.List.Splits.{join_with_byte-slice_split}
use Rattle.std.proofs.lemmas.Str.Parse.{digit_from_value}
use Rattle.hex.specs.Hex.{IsBytes, encode_with, encode_lower, lower_digits}
use Rattle.us_base.specs.declared.shape.Shape.{Shape}
use Rattle.us_base.specs.Shape.{sites_of, IsShape}
use Rattle.us_schedule.specs.declared.fault.LineFault.{LineFault}
use Rattle.us_schedule.specs.declared.line.Line.{Line}
use Rattle.us_schedule.specs.declared.line.Line.TheVariants.{Open, Bytes, Close, Tick, Deliver, Flush, Lead, Forward, Crash, Settle}
use Rattle.us_schedule.specs.Lines.{is_site, is_coord, is_actor, is_positive, is_clock, is_rounds, is_piece, number, one, two, three, three_and_hex, said, in_range, IsAllowed, words_of, encoding_of, lower_digit, Reading, Skipped, Parsed, text_read, read_of, is_skipped, line_read, WrittenIsRead, ReadIsWritten}
use Rattle.us_schedule.specs.Trace.{hex_alone, two_and_hex}
use Rattle.us_schedule.proofs.Digits.{own, digits_decide}
use Rattle.us_schedule.proofs.Numerals.{number_again, hex_again}
use Rattle.us_schedule.proofs.Grammar.{lower_words, said_is_read}

-- ---- words and spaces

abbrev pub NoSpace : List ℕ → Type 0
NoSpace [] = Unit {0}
NoSpace (b ∷ bs) = (eqb b 32 ≡ false) × NoSpace bs

abbrev pub NoSpaces : List (List ℕ) → Type 0
NoSpaces [] = Unit {0}
NoSpaces (w ∷ ws) = NoSpace w × NoSpaces ws

abbrev pub split_words : List ℕ → List (List ℕ)
split_words text = slice_split (λ b. b == 32) text

split_last : (w : List ℕ) → NoSpace w → split_words w ≡ w ∷ []
split_last [] h = refl
split_last (b ∷ w) h = rw (h.0, split_last w h.1) refl

split_first : (w rest : List ℕ) → NoSpace w → split_words (w ++ 32 ∷ rest) ≡ w ∷ split_words rest
split_first [] rest h = refl
split_first (b ∷ w) rest h = rw (h.0, split_first w rest h.1) refl

split_joined : (w : List ℕ) (ws : List (List ℕ)) → NoSpaces (w ∷ ws) → split_words (join_with_byte 32 (w ∷ ws)) ≡ w ∷ ws
split_joined w [] h = split_last w h.0
split_joined w (x ∷ ws) h = split_first w (join_with_byte 32 (x ∷ ws)) h.0 ∙ ap (λ (r : List (List ℕ)). w ∷ r) (split_joined x ws h.1)

digits_no_space : (word : List ℕ) → AllDigits 10 word → NoSpace word
digits_no_space [] h = tt
digits_no_space (c ∷ word) h = let range = digit_from_value c h.0 in (ne_eqb c 32 (λ e. omega arith), digits_no_space word h.1)

pub decimal_no_space : (n : ℕ) → n < 2 ^ 64 → NoSpace (decimal n)
decimal_no_space n lt = digits_no_space (decimal n) ((digits_decide (decimal n)).0 (digits_decimal own n lt))

pub hex_no_space : (bytes : List ℕ) → IsBytes bytes → NoSpace (encode_lower bytes)
unfolding encode_with
hex_no_space [] h = tt
hex_no_space (b ∷ bytes) h =
    let fits : b < 256 = h 0 in
    let high = agree_below_at (λ d. eqb (slice_index lower_digits d) 32) (λ _. false) 16 (b / 16) refl (omega arith) in
    let low = agree_below_at (λ d. eqb (slice_index lower_digits d) 32) (λ _. false) 16 (b % 16) refl (omega arith) in
    (high, (low, hex_no_space bytes (λ i. h (suc i))))

-- ---- written is read

read_again : {L : Type 0} (says : List (List ℕ) → Result L LineFault) (c : ℕ) (name : List ℕ) (ws : List (List ℕ)) (line : L) → NoSpaces ((c ∷ name) ∷ ws)
    → says ((c ∷ name) ∷ ws) ≡ Ok line → is_skipped (join_with_byte 32 ((c ∷ name) ∷ ws)) ≡ false → text_read says (join_with_byte 32 ((c ∷ name) ∷ ws)) ≡ Parsed line
read_again says c name ws line spaces said skipped = rw (skipped, split_joined (c ∷ name) ws spaces, said) refl

not_skipped : (c : ℕ) (rest : List ℕ) → eqb c 35 ≡ false → is_skipped (c ∷ rest) ≡ false
not_skipped c rest e = let some : (length (c ∷ rest) == 0) ≡ false = ne_eqb (length (c ∷ rest)) 0 (λ z. omega arith) in rw (some, e) refl

pub site_below : (shape : Shape) (n : ℕ) → IsShape shape → is_site shape n ≡ true → n < 2 ^ 64
site_below shape n ok h = let p : n ≤ sites_of shape = leb-true _ _ (and_parts (leb 1 n) (leb n (sites_of shape)) h).1 in omega arith

pub coord_below : (shape : Shape) (n : ℕ) → IsShape shape → is_coord shape n ≡ true → n < 2 ^ 64
coord_below shape n ok h = let p : n ≤ shape.parts = leb-true _ _ (and_parts (leb 1 n) (leb n shape.parts) h).1 in omega arith

pub actor_below : (shape : Shape) (n : ℕ) → IsShape shape → is_actor shape n ≡ true → n < 2 ^ 64
actor_below shape n ok h = let p : n ≤ shape.parts = leb-true _ _ h in omega arith

pub positive_below : (n : ℕ) → is_positive n ≡ true → n < 2 ^ 64
positive_below n h = ltb-true n (2 ^ 64) (and_parts (leb 1 n) (ltb n (2 ^ 64)) h).1

pub clock_below : (n : ℕ) → is_clock n ≡ true → n < 2 ^ 64
clock_below n h = let p : n ≤ 2 ^ 59 = leb-true _ _ h in omega arith

rounds_below : (n : ℕ) → is_rounds n ≡ true → n < 2 ^ 64
rounds_below n h = let p : n ≤ 100000 = leb-true _ _ h in omega arith

pub one_again : {L : Type 0} (ranges : L → Bool) (make : ℕ → L) (x : ℕ) → x < 2 ^ 64 → ranges (make x) ≡ true → one ranges make (decimal x) ≡ Ok (make x)
one_again ranges make x lx fits = rw (number_again x lx, fits) refl

pub two_again : {L : Type 0} (ranges : L → Bool) (make : ℕ → ℕ → L) (x y : ℕ) → x < 2 ^ 64 → y < 2 ^ 64 → ranges (make x y) ≡ true → two ranges make (decimal x) (decimal y) ≡ Ok (make x y)
two_again ranges make x y lx ly fits = rw (number_again x lx, number_again y ly, fits) refl

three_again : {L : Type 0} (ranges : L → Bool) (make : ℕ → ℕ → ℕ → L) (x y z : ℕ) → x < 2 ^ 64 → y < 2 ^ 64 → z < 2 ^ 64 → ranges (make x y z) ≡ true → three ranges make (decimal x) (decimal y) (decimal z) ≡ Ok (make x y z)
three_again ranges make x y z lx ly lz fits = rw (number_again x lx, number_again y ly, number_again z lz, fits) refl

pub hex_alone_again : {L : Type 0} (ranges : L → Bool) (make : List ℕ → L) (bytes : List ℕ) → IsBytes bytes → ranges (make bytes) ≡ true → hex_alone ranges make (encode_lower bytes) ≡ Ok (make bytes)
hex_alone_again ranges make bytes all fits = rw (hex_again bytes all, fits) refl

pub two_and_hex_again : {L : Type 0} (ranges : L → Bool) (make : ℕ → ℕ → List ℕ → L) (x y : ℕ) (bytes : List ℕ) → x < 2 ^ 64 → y < 2 ^ 64 → IsBytes bytes → ranges (make x y bytes) ≡ true
    → two_and_hex ranges make (decimal x) (decimal y) (encode_lower bytes) ≡ Ok (make x y bytes)
two_and_hex_again ranges make x y bytes lx ly all fits = rw (number_again x lx, number_again y ly, hex_again bytes all, fits) refl

three_and_hex_again : {L : Type 0} (ranges : L → Bool) (make : ℕ → ℕ → ℕ → List ℕ → L) (x y z : ℕ) (bytes : List ℕ) → x < 2 ^ 64 → y < 2 ^ 64 → z < 2 ^ 64 → IsBytes bytes → ranges (make x y z bytes) ≡ true
    → three_and_hex ranges make (decimal x) (decimal y) (decimal z) (encode_lower bytes) ≡ Ok (make x y z bytes)
three_and_hex_again ranges make x y z bytes lx ly lz all fits = rw (number_again x lx, number_again y ly, number_again z lz, hex_again bytes all, fits) refl

-- the words of a line are read as the line, and hold no space
pub record AreWords (L : Type 0) (says : List (List ℕ) → Result L LineFault) (words : List (List ℕ)) (line : L) : Type 0 where
  pub says_line : says words ≡ Ok line
  pub spaces : NoSpaces words

words_again : (shape : Shape) (line : Line) → IsShape shape → IsAllowed shape line → AreWords Line (said shape) (words_of line) line
unfolding said
words_again shape (Open site coord) ok h =
    let r = and_parts (is_site shape site) (is_coord shape coord) h.ranges in
    let ls = site_below shape site ok r.0 in
    let lc = coord_below shape coord ok r.1 in
    record {
      says_line = two_again (in_range shape) Open site coord ls lc h.ranges;
      spaces = ((refl, (refl, (refl, (refl, tt)))), (decimal_no_space site ls, (decimal_no_space coord lc, tt)));
    }
words_again shape (Bytes site coord session bytes) ok h =
    let r = and_parts (is_site shape site) _ h.ranges in
    let q = and_parts (is_coord shape coord) _ r.1 in
    let p = and_parts (is_positive session) (is_piece bytes) q.1 in
    let ls = site_below shape site ok r.0 in
    let lc = coord_below shape coord ok q.0 in
    let ln = positive_below session p.0 in
    record {
      says_line = three_and_hex_again (in_range shape) Bytes site coord session bytes ls lc ln h.bytes h.ranges;
      spaces = ((refl, (refl, (refl, (refl, (refl, tt))))), (decimal_no_space site ls, (decimal_no_space coord lc, (decimal_no_space session ln, (hex_no_space bytes h.bytes, tt)))));
    }
words_again shape (Close site coord session) ok h =
    let r = and_parts (is_site shape site) _ h.ranges in
    let q = and_parts (is_coord shape coord) (is_positive session) r.1 in
    let ls = site_below shape site ok r.0 in
    let lc = coord_below shape coord ok q.0 in
    let ln = positive_below session q.1 in
    record {
      says_line = three_again (in_range shape) Close site coord session ls lc ln h.ranges;
      spaces = ((refl, (refl, (refl, (refl, (refl, tt))))), (decimal_no_space site ls, (decimal_no_space coord lc, (decimal_no_space session ln, tt))));
    }
words_again shape (Tick site actor clock) ok h =
    let r = and_parts (is_site shape site) _ h.ranges in
    let q = and_parts (is_actor shape actor) (is_clock clock) r.1 in
    let ls = site_below shape site ok r.0 in
    let la = actor_below shape actor ok q.0 in
    let lk = clock_below clock q.1 in
    record {
      says_line = three_again (in_range shape) Tick site actor clock ls la lk h.ranges;
      spaces = ((refl, (refl, (refl, (refl, tt)))), (decimal_no_space site ls, (decimal_no_space actor la, (decimal_no_space clock lk, tt))));
    }
words_again shape (Deliver number) ok h =
    let ln = positive_below number h.ranges in
    record {
      says_line = one_again (in_range shape) Deliver number ln h.ranges;
      spaces = ((refl, (refl, (refl, (refl, (refl, (refl, (refl, tt))))))), (decimal_no_space number ln, tt));
    }
words_again shape (Flush from to) ok h =
    let r = and_parts (is_site shape from) (is_site shape to) h.ranges in
    let lf = site_below shape from ok r.0 in
    let lt = site_below shape to ok r.1 in
    record {
      says_line = two_again (in_range shape) Flush from to lf lt h.ranges;
      spaces = ((refl, (refl, (refl, (refl, (refl, tt))))), (decimal_no_space from lf, (decimal_no_space to lt, tt)));
    }
words_again shape (Lead site) ok h =
    let ls = site_below shape site ok h.ranges in
    record {
      says_line = one_again (in_range shape) Lead site ls h.ranges;
      spaces = ((refl, (refl, (refl, (refl, tt)))), (decimal_no_space site ls, tt));
    }
words_again shape (Forward site origin) ok h =
    let r = and_parts (is_site shape site) _ h.ranges in
    let q = and_parts (is_site shape origin) _ r.1 in
    let ls = site_below shape site ok r.0 in
    let lo = site_below shape origin ok q.0 in
    record {
      says_line = two_again (in_range shape) Forward site origin ls lo h.ranges;
      spaces = ((refl, (refl, (refl, (refl, (refl, (refl, (refl, tt))))))), (decimal_no_space site ls, (decimal_no_space origin lo, tt)));
    }
words_again shape (Crash site) ok h =
    let ls = site_below shape site ok h.ranges in
    record {
      says_line = one_again (in_range shape) Crash site ls h.ranges;
      spaces = ((refl, (refl, (refl, (refl, (refl, tt))))), (decimal_no_space site ls, tt));
    }
words_again shape (Settle clock rounds) ok h =
    let r = and_parts (is_clock clock) (is_rounds rounds) h.ranges in
    let lk = clock_below clock r.0 in
    let lr = rounds_below rounds r.1 in
    record {
      says_line = two_again (in_range shape) Settle clock rounds lk lr h.ranges;
      spaces = ((refl, (refl, (refl, (refl, (refl, (refl, tt)))))), (decimal_no_space clock lk, (decimal_no_space rounds lr, tt)));
    }

pub again : {L : Type 0} (says : List (List ℕ) → Result L LineFault) (all : List (List ℕ)) (line : L) (c : ℕ) (name : List ℕ) (w : List ℕ) (ws : List (List ℕ)) → all ≡ (c ∷ name) ∷ w ∷ ws → eqb c 35 ≡ false → AreWords L says all line → text_read says (join_with_byte 32 all) ≡ Parsed line
again says all line c name w ws is other words =
    let P : List (List ℕ) → Type 0 = λ ws. text_read says (join_with_byte 32 ws) ≡ Parsed line in
    let S : List (List ℕ) → Type 0 = λ ws. NoSpaces ws in
    let Q : List (List ℕ) → Type 0 = λ ws. says ws ≡ Ok line in
    subst P (sym is) (read_again says c name (w ∷ ws) line (subst S is words.spaces) (subst Q is words.says_line) (not_skipped c (name ++ 32 ∷ join_with_byte 32 (w ∷ ws)) other))

-- the same of a line of its name alone
pub name_again : {L : Type 0} (says : List (List ℕ) → Result L LineFault) (line : L) (c : ℕ) (name : List ℕ) → eqb c 35 ≡ false → AreWords L says ((c ∷ name) ∷ []) line → text_read says (join_with_byte 32 ((c ∷ name) ∷ [])) ≡ Parsed line
name_again says line c name other words = read_again says c name [] line words.spaces words.says_line (not_skipped c name other)

pub written_is_read : WrittenIsRead
written_is_read shape line ok h = by_name line (words_again shape line ok h)
  where
    by_name : (line : Line) → AreWords Line (said shape) (words_of line) line → line_read shape (encoding_of line) ≡ Parsed line
    by_name (Open site coord) words = again (said shape) (words_of (Open site coord)) (Open site coord) _ _ _ _ refl refl words
    by_name (Bytes site coord session bytes) words = again (said shape) (words_of (Bytes site coord session bytes)) (Bytes site coord session bytes) _ _ _ _ refl refl words
    by_name (Close site coord session) words = again (said shape) (words_of (Close site coord session)) (Close site coord session) _ _ _ _ refl refl words
    by_name (Tick site actor clock) words = again (said shape) (words_of (Tick site actor clock)) (Tick site actor clock) _ _ _ _ refl refl words
    by_name (Deliver number) words = again (said shape) (words_of (Deliver number)) (Deliver number) _ _ _ _ refl refl words
    by_name (Flush from to) words = again (said shape) (words_of (Flush from to)) (Flush from to) _ _ _ _ refl refl words
    by_name (Lead site) words = again (said shape) (words_of (Lead site)) (Lead site) _ _ _ _ refl refl words
    by_name (Forward site origin) words = again (said shape) (words_of (Forward site origin)) (Forward site origin) _ _ _ _ refl refl words
    by_name (Crash site) words = again (said shape) (words_of (Crash site)) (Crash site) _ _ _ _ refl refl words
    by_name (Settle clock rounds) words = again (said shape) (words_of (Settle clock rounds)) (Settle clock rounds) _ _ _ _ refl refl words

-- ---- read is written

pub lower_joined : (ws : List (List ℕ)) → map lower_digit (join_with_byte 32 ws) ≡ join_with_byte 32 (lower_words ws)
lower_joined [] = refl
lower_joined (w ∷ []) = refl
lower_joined (w ∷ x ∷ ws) = map-append lower_digit w (32 ∷ join_with_byte 32 (x ∷ ws)) ∙ ap (λ (r : List ℕ). map lower_digit w ++ 32 ∷ r) (lower_joined (x ∷ ws))

pub found_is : {L : Type 0} (r : Result L LineFault) (line : L) → read_of r ≡ Parsed line → r ≡ Ok line
found_is (Ok made) line e = let k : made ≡ line = cc in ap Ok k
found_is (Err f) line e = absurd cc

pub not_none : {L : Type 0} (b : Bool) (read : Reading L) (line : L) → cond b Skipped read ≡ Parsed line → read ≡ Parsed line
not_none true read line e = absurd cc
not_none false read line e = e

pub read_is_written : ReadIsWritten
read_is_written shape text line e =
    let r = said_is_read shape (split_words text) line (found_is (said shape (split_words text)) line (not_none (is_skipped text) (read_of (said shape (split_words text))) line e)) in
    let encoded = ap (map lower_digit) (sym (join_with_byte-slice_split 32 text)) ∙ lower_joined (split_words text) ∙ ap (join_with_byte 32) r.encoded in
    (encoded, r.allowed)
