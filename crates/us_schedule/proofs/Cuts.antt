-- Where a text is cut.
use Rattle.std.proofs.Common.{◌≡◌, ◌≢◌, ℕ, zero, suc, ◌+◌, ◌-◌, ◌<◌, ◌≤◌, Bool, true, false, cond, eqb, List, [], ◌∷◌, map, length, get_or, take, drop, refl, sym, ap, ◌∙◌, arith}
use Rattle.std.specs.Prelude.{◌==◌}
use Rattle.std.specs.List.{onto_first}
use Rattle.std.specs.Str.Lines.{strip_carriage_return}
use Rattle.std.proofs.lemmas.Bool.{ne_eqb, eq-eqb}
use Rattle.std.proofs.lemmas.List.{take-append-drop, length-take, get_or-take, take-take, take_all, length-drop, append-nil, nil_from_length, length-map}
use Rattle.us_schedule.specs.Text.{raw_lines, without_end, text_lines, IsFirstLine}

raw_at : (text : List ℕ) (n : ℕ) → n < length text → get_or text n 0 ≡ 10 → ((k : ℕ) → k < n → get_or text k 0 ≢ 10) → raw_lines text ≡ take (suc n) text ∷ raw_lines (drop (suc n) text)
raw_at [] n lt e before = absurd (omega arith)
raw_at (b ∷ rest) zero lt e before = let t = eq-eqb b 10 e in rw (t, e) refl
raw_at (b ∷ rest) (suc n) lt e before =
    let t = ne_eqb b 10 (before 0 (omega arith)) in
    let ih = raw_at rest n (omega arith) e (λ k h. before (suc k) (omega arith)) in
    rw (t, ih) refl

raw_last : (b : ℕ) (rest : List ℕ) → ((k : ℕ) → k < length (b ∷ rest) → get_or (b ∷ rest) k 0 ≢ 10) → raw_lines (b ∷ rest) ≡ (b ∷ rest) ∷ []
raw_last b [] none = let t = ne_eqb b 10 (none 0 (omega arith)) in rw t refl
raw_last b (c ∷ rest) none =
    let t = ne_eqb b 10 (none 0 (omega arith)) in
    let ih = raw_last c rest (λ k h. none (suc k) (omega arith)) in
    rw (t, ih) refl

-- ---- the first line

pub lines_after : (text line rest : List ℕ) → IsFirstLine text line rest → text_lines text ≡ line ∷ text_lines rest
lines_after text line rest h = ap (map without_end) h.cut ∙ ap (λ (l : List ℕ). l ∷ text_lines rest) (sym h.is)

-- a slice from n on
pub rest_is : (text : List ℕ) (n : ℕ) → take (length text - n) (drop n text) ≡ drop n text
rest_is text n = take_all (length text - n) (drop n text) (omega (arith, length-drop n text))

pub rest_empty : (text : List ℕ) → take (length text - length text) (drop (length text) text) ≡ []
rest_empty text = nil_from_length _ (omega (arith, length-take (length text - length text) (drop (length text) text)))

no_end : (text : List ℕ) → (get_or text (length text - 1) 0 ≡ 10 → ⊥) → text ≡ without_end text
no_end text h = let t = ne_eqb (get_or text (length text - 1) 0) 10 h in rw t refl

pub first_last : (text : List ℕ) → (length text == 0) ≡ false → ((k : ℕ) → k < length text → get_or text k 0 ≢ 10) → IsFirstLine text text []
first_last [] some none = absurd (cc)
first_last (b ∷ rest) some none =
    record { raw = b ∷ rest; whole = sym (append-nil (b ∷ rest)); cut = raw_last b rest none; is = no_end (b ∷ rest) (none (length (b ∷ rest) - 1) (omega arith)) }

ended : (text : List ℕ) (n : ℕ) → n < length text → get_or text n 0 ≡ 10 → strip_carriage_return (take n text) ≡ without_end (take (suc n) text)
ended text n lt e =
    let len : length (take (suc n) text) - 1 ≡ n = omega (arith, length-take (suc n) text) in
    let last : get_or (take (suc n) text) n 0 ≡ 10 = get_or-take (suc n) text n 0 (omega arith) ∙ e in
    let t = eq-eqb (get_or (take (suc n) text) n 0) 10 last in
    rw (len, t, take-take n (suc n) text (omega arith)) refl

pub first_at : (text line : List ℕ) (n : ℕ) → n < length text → get_or text n 0 ≡ 10 → ((k : ℕ) → k < n → get_or text k 0 ≢ 10) → line ≡ strip_carriage_return (take n text) → IsFirstLine text line (drop (n + 1) text)
first_at text line n lt e before is =
    let s : n + 1 ≡ suc n = omega arith in
    rw s (record { raw = take (suc n) text; whole = sym (take-append-drop (suc n) text); cut = raw_at text n lt e before; is = is ∙ ended text n lt e })

-- ---- how many lines

length_onto : (b : ℕ) (raws : List (List ℕ)) → length (onto_first b raws) ≤ length raws + 1
length_onto b [] = omega arith
length_onto b (raw ∷ raws) = omega arith

length_cut : (b : ℕ) (rest : List ℕ) (t : Bool) → length (raw_lines rest) ≤ length rest → length (cond t ((10 ∷ []) ∷ raw_lines rest) (onto_first b (raw_lines rest))) ≤ length rest + 1
length_cut b rest true h = omega arith
length_cut b rest false h = omega (arith, length_onto b (raw_lines rest))

raw_few : (text : List ℕ) → length (raw_lines text) ≤ length text
raw_few [] = omega arith
raw_few (b ∷ rest) = let k = length_cut b rest (eqb b 10) (raw_few rest) in omega arith

pub lines_few : (text : List ℕ) → length (text_lines text) ≤ length text
lines_few text = let few = raw_few text in omega (arith, length-map (raw_lines text) without_end)
