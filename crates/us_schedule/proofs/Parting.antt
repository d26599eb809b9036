-- The parts of a text around its separator, line after line.
use Rattle.std.proofs.Common.{◌≡◌, ◌≢◌, ℕ, ◌+◌, ◌-◌, ◌<◌, ◌≤◌, Bool, true, false, cond, eqb, List, [], ◌∷◌, ◌++◌, map, length, take, Option, Some, None, refl, sym, ap, ◌∙◌, subst, append_assoc, arith}
use Rattle.std.specs.List.{onto_first, concat, AllByRecursion}
use Rattle.std.specs.Str.{bytes_eq}
use Rattle.std.proofs.lemmas.Bool.{false≢true, eqb-true}
use Rattle.std.proofs.lemmas.List.{append-nil, take_at, length-append}
use Rattle.std.proofs.lemmas.Slice.Eq.{bytes_eq-Decides}
use Rattle.us_schedule.specs.Text.{raw_lines, without_end, text_lines, IsFirstLine, Parted, after_lines, parted_lines, parted_text, separator, IsParted}
use Rattle.us_schedule.proofs.Cuts.{lines_after}

-- ---- the raw lines joined are the text

concat_onto : (b : ℕ) (raws : List (List ℕ)) → concat (onto_first b raws) ≡ b ∷ concat raws
concat_onto b [] = refl
concat_onto b (raw ∷ raws) = refl

concat_cut : (b : ℕ) (rest : List ℕ) (t : Bool) → eqb b 10 ≡ t → concat (raw_lines rest) ≡ rest → concat (cond t ((10 ∷ []) ∷ raw_lines rest) (onto_first b (raw_lines rest))) ≡ b ∷ rest
concat_cut b rest true e ih = let k : b ≡ 10 = eqb-true b 10 e in rw (k, ih) refl
concat_cut b rest false e ih = concat_onto b (raw_lines rest) ∙ ap (λ (r : List ℕ). b ∷ r) ih

pub concat_raw : (text : List ℕ) → concat (raw_lines text) ≡ text
concat_raw [] = refl
concat_raw (b ∷ rest) = concat_cut b rest (eqb b 10) refl (concat_raw rest)

-- ---- the lines so far

-- the loop stands at rest, before the line of this number
pub record IsPast (text rest : List ℕ) (line : ℕ) : Type 0 where
  pub front : List ℕ
  pub whole : text ≡ front ++ rest
  pub positive : 0 < line
  pub small : line ≤ length front + 1
  pub parted : parted_text text ≡ after_lines front (line - 1) (parted_lines (raw_lines rest))
  pub count : length (text_lines text) + 1 ≡ line + length (text_lines rest)

after_none : (parted : Option Parted) → parted ≡ after_lines [] 0 parted
after_none None = refl
after_none (Some p) = let z : p.line ≡ 0 + p.line = omega arith in ap (λ (n : ℕ). Some (record { before = p.before; line = n; behind = p.behind })) z

after_after : (front raw : List ℕ) (m n k : ℕ) (parted : Option Parted) → m + n ≡ k → after_lines front m (after_lines raw n parted) ≡ after_lines (front ++ raw) k parted
after_after front raw m n k None e = refl
after_after front raw m n k (Some p) e =
    let a : m + (n + p.line) ≡ k + p.line = omega arith in
    let b = sym (append_assoc front raw p.before) in
    λ i. Some (record { before = b i; line = a i; behind = p.behind })

pub past_more : (text rest content behind : List ℕ) (line : ℕ) → IsPast text rest line → IsFirstLine rest content behind → length behind < length rest → bytes_eq content separator ≡ false → IsPast text behind (line + 1)
past_more text rest content behind line h f shorter other =
    let raw = f.raw in
    let len = length-append h.front raw in
    let parts = ap length f.whole ∙ length-append raw behind in
    let lines = ap length (lines_after rest content behind f) in
    let positive = h.positive in
    let small = h.small in
    let count = h.count in
    let test : bytes_eq (without_end raw) separator ≡ false = rw (← f.is) other in
    let step : parted_lines (raw_lines rest) ≡ after_lines raw 1 (parted_lines (raw_lines behind)) = rw (f.cut, test) refl in
    record {
      front = h.front ++ raw;
      whole = h.whole ∙ ap (λ (r : List ℕ). h.front ++ r) f.whole ∙ sym (append_assoc h.front raw behind);
      positive = omega arith;
      small = omega arith;
      parted = h.parted ∙ ap (after_lines h.front (line - 1)) step ∙ after_after h.front raw (line - 1) 1 (line + 1 - 1) (parted_lines (raw_lines behind)) (omega arith);
      count = omega arith;
    }

front_is : (text front rest : List ℕ) → text ≡ front ++ rest → take (length text - length rest) text ≡ front
front_is text front rest e =
    let len = ap length e ∙ length-append front rest in
    let n : length front ≡ length text - length rest = omega arith in
    ap (λ (t : List ℕ). take (length text - length rest) t) e ∙ take_at front rest (length text - length rest) n

pub past_here : (text rest content behind : List ℕ) (line : ℕ) → IsPast text rest line → IsFirstLine rest content behind → bytes_eq content separator ≡ true → parted_text text ≡ Some (record { before = take (length text - length rest) text; line = line; behind = behind })
past_here text rest content behind line h f same =
    let raw = f.raw in
    let positive = h.positive in
    let test : bytes_eq (without_end raw) separator ≡ true = rw (← f.is) same in
    let step : parted_lines (raw_lines rest) ≡ Some (record { before = []; line = 1; behind = behind }) = rw (f.cut, test, concat_raw) refl in
    let front : take (length text - length rest) text ≡ h.front ++ [] = front_is text h.front rest h.whole ∙ sym (append-nil h.front) in
    let number : line - 1 + 1 ≡ line = omega arith in
    h.parted ∙ ap (after_lines h.front (line - 1)) step ∙ (λ i. Some (record { before = sym front i; line = number i; behind = behind }))

pub past_end : (text : List ℕ) (line : ℕ) → IsPast text [] line → (parted_text text ≡ None) × (line ≡ length (text_lines text) + 1)
past_end text line h = let count = h.count in (h.parted, omega arith)

-- ---- the parts and their lines

abbrev IsClosed : List ℕ → Type 0
IsClosed raw = (more : List ℕ) → raw_lines (raw ++ more) ≡ raw ∷ raw_lines more

-- a raw line with another behind it ends, and so is a raw line before anything
onto_closed : (b : ℕ) (raws : List (List ℕ)) (raw next : List ℕ) (more : List (List ℕ)) → eqb b 10 ≡ false → ((r : List ℕ) → raws ≡ r ∷ next ∷ more → IsClosed r) → onto_first b raws ≡ raw ∷ next ∷ more → IsClosed raw
onto_closed b [] raw next more e ih h = absurd (cc)
onto_closed b (r ∷ raws) raw next more e ih h =
    let tail : raws ≡ next ∷ more = cc in
    let head : b ∷ r ≡ raw = cc in
    let closed = ih r (ap (λ (rs : List (List ℕ)). r ∷ rs) tail) in
    let P : List ℕ → Type 0 = IsClosed in
    subst P head (λ more. rw (e, closed more) refl)

closed_cut : (b : ℕ) (rest raw next : List ℕ) (more : List (List ℕ)) (t : Bool) → eqb b 10 ≡ t → ((r : List ℕ) → raw_lines rest ≡ r ∷ next ∷ more → IsClosed r) → cond t ((10 ∷ []) ∷ raw_lines rest) (onto_first b (raw_lines rest)) ≡ raw ∷ next ∷ more → IsClosed raw
closed_cut b rest raw next more true e ih h = let k : 10 ∷ [] ≡ raw = cc in let P : List ℕ → Type 0 = IsClosed in subst P k (λ more. refl)
closed_cut b rest raw next more false e ih h = onto_closed b (raw_lines rest) raw next more e ih h

closed_first : (text raw next : List ℕ) (more : List (List ℕ)) → raw_lines text ≡ raw ∷ next ∷ more → IsClosed raw
closed_first [] raw next more h = absurd (cc)
closed_first (b ∷ rest) raw next more h = closed_cut b rest raw next more (eqb b 10) refl (λ r q. closed_first rest r next more q) h

-- the raw lines behind the first are those of their text
behind_onto : (b : ℕ) (raws : List (List ℕ)) (raw : List ℕ) (more : List (List ℕ)) → ((r : List ℕ) (rs : List (List ℕ)) → raws ≡ r ∷ rs → rs ≡ raw_lines (concat rs)) → onto_first b raws ≡ raw ∷ more → more ≡ raw_lines (concat more)
behind_onto b [] raw more ih h = let k : [] ≡ more = cc in let P : List (List ℕ) → Type 0 = λ m. m ≡ raw_lines (concat m) in subst P k refl
behind_onto b (r ∷ rs) raw more ih h = let k : rs ≡ more = cc in let P : List (List ℕ) → Type 0 = λ m. m ≡ raw_lines (concat m) in subst P k (ih r rs refl)

behind_cut : (b : ℕ) (rest raw : List ℕ) (more : List (List ℕ)) (t : Bool) → ((r : List ℕ) (rs : List (List ℕ)) → raw_lines rest ≡ r ∷ rs → rs ≡ raw_lines (concat rs)) → cond t ((10 ∷ []) ∷ raw_lines rest) (onto_first b (raw_lines rest)) ≡ raw ∷ more → more ≡ raw_lines (concat more)
behind_cut b rest raw more true ih h = let k : raw_lines rest ≡ more = cc in let P : List (List ℕ) → Type 0 = λ m. m ≡ raw_lines (concat m) in subst P k (sym (ap raw_lines (concat_raw rest)))
behind_cut b rest raw more false ih h = behind_onto b (raw_lines rest) raw more ih h

behind_first : (text raw : List ℕ) (more : List (List ℕ)) → raw_lines text ≡ raw ∷ more → more ≡ raw_lines (concat more)
behind_first [] raw more h = absurd (cc)
behind_first (b ∷ rest) raw more h = behind_cut b rest raw more (eqb b 10) (λ r rs q. behind_first rest r rs q) h

-- ---- the lines of the parts

pub none_is : (raws : List (List ℕ)) → parted_lines raws ≡ None → AllByRecursion (λ line. line ≢ separator) (map without_end raws)
none_is [] e = tt
none_is (raw ∷ more) e = none_cons raw more (bytes_eq (without_end raw) separator) refl (none_is more) e
  where
    after_is_none : (raw : List ℕ) (parted : Option Parted) → after_lines raw 1 parted ≡ None → parted ≡ None
    after_is_none raw None e = refl
    after_is_none raw (Some p) e = absurd (cc)

    none_cons : (raw : List ℕ) (more : List (List ℕ)) (t : Bool) → bytes_eq (without_end raw) separator ≡ t → (parted_lines more ≡ None → AllByRecursion (λ line. line ≢ separator) (map without_end more))
        → cond t (Some (record { before = []; line = 1; behind = concat more })) (after_lines raw 1 (parted_lines more)) ≡ None → (without_end raw ≢ separator) × AllByRecursion (λ line. line ≢ separator) (map without_end more)
    none_cons raw more true t ih e = absurd (cc)
    none_cons raw more false t ih e = (λ same. false≢true (sym t ∙ (bytes_eq-Decides (without_end raw) separator).1 same), ih (after_is_none raw (parted_lines more) e))

after_is_some : (raw : List ℕ) (parted : Option Parted) (p : Parted) → after_lines raw 1 parted ≡ Some p → (q : Parted) × (parted ≡ Some q) × (record { before = raw ++ q.before; line = 1 + q.line; behind = q.behind } ≡ p)
after_is_some raw None p e = absurd (cc)
after_is_some raw (Some q) p e = (q, refl, cc)

at_separator : (text raw : List ℕ) (more : List (List ℕ)) → raw_lines text ≡ raw ∷ more → without_end raw ≡ separator → IsParted text (record { before = []; line = 1; behind = concat more })
at_separator text raw more cut same =
    record {
      lines = ap (map without_end) cut ∙ (λ i. same i ∷ map without_end (behind_first text raw more cut i));
      number = refl;
      first = tt;
    }

beyond : (text raw next : List ℕ) (more : List (List ℕ)) (q : Parted) → raw_lines text ≡ raw ∷ next ∷ more → (without_end raw ≢ separator) → IsParted (concat (next ∷ more)) q
    → IsParted text (record { before = raw ++ q.before; line = 1 + q.line; behind = q.behind })
beyond text raw next more q cut other h =
    let closed = closed_first text raw next more cut q.before in
    let front : text_lines (raw ++ q.before) ≡ without_end raw ∷ text_lines q.before = ap (map without_end) closed in
    let rest : text_lines text ≡ without_end raw ∷ text_lines (concat (next ∷ more)) = ap (map without_end) cut ∙ ap (λ (ls : List (List ℕ)). without_end raw ∷ map without_end ls) (behind_first text raw (next ∷ more) cut) in
    let number = h.number in
    let len = ap length front in
    record {
      lines = rest ∙ ap (λ (ls : List (List ℕ)). without_end raw ∷ ls) h.lines ∙ sym (ap (λ (ls : List (List ℕ)). ls ++ separator ∷ text_lines q.behind) front);
      number = omega arith;
      first = rw front (other, h.first);
    }

parted_more : (text raw : List ℕ) (more : List (List ℕ)) (p : Parted) (t : Bool) → bytes_eq (without_end raw) separator ≡ t → raw_lines text ≡ raw ∷ more
    → ((q : Parted) → parted_lines more ≡ Some q → IsParted (concat more) q)
    → cond t (Some (record { before = []; line = 1; behind = concat more })) (after_lines raw 1 (parted_lines more)) ≡ Some p → IsParted text p
parted_more text raw more p true e cut ih h =
    let P : Parted → Type 0 = λ q. IsParted text q in
    let k : record { before = []; line = 1; behind = concat more } ≡ p = cc in
    subst P k (at_separator text raw more cut ((bytes_eq-Decides (without_end raw) separator).0 e))
parted_more text raw [] p false e cut ih h = absurd (cc)
parted_more text raw (next ∷ more) p false e cut ih h =
    let P : Parted → Type 0 = λ q. IsParted text q in
    let s = after_is_some raw (parted_lines (next ∷ more)) p h in
    let other : without_end raw ≢ separator = λ same. false≢true (sym e ∙ (bytes_eq-Decides (without_end raw) separator).1 same) in
    subst P s.2 (beyond text raw next more s.0 cut other (ih s.0 s.1))

parted_is : (raws : List (List ℕ)) (text : List ℕ) (p : Parted) → raw_lines text ≡ raws → parted_lines raws ≡ Some p → IsParted text p
parted_is [] text p cut e = absurd (cc)
parted_is (raw ∷ more) text p cut e =
    parted_more text raw more p (bytes_eq (without_end raw) separator) refl cut (λ q s. parted_is more (concat more) q (sym (behind_first text raw more cut)) s) e

pub is_parted : (text : List ℕ) (p : Parted) → parted_text text ≡ Some p → IsParted text p
is_parted text p e = parted_is (raw_lines text) text p refl e
