-- The orders of bytes and of stamps are strict and total.
use Rattle.std.proofs.Common.{◌≡◌, ℕ, List, [], ◌∷◌, Bool, true, false, refl, ap, ◌∙◌, arith}
use Rattle.std.proofs.lemmas.Bool.Decides.{nat_tests}
use Rattle.std.specs.Prelude.{cond, nat_lt, ◌==◌, ◌||◌, ◌&&◌}
use Rattle.std.specs.Cmp.Lexicographic.{slice_cmp}
use Rattle.std.specs.Ordering.{nat_cmp, is_lt, ordering_then}
use Rattle.std.specs.declared.cmp.Ordering.{Ordering}
use Rattle.std.specs.declared.cmp.Ordering.TheVariants.{Less, Equal, Greater}
use Rattle.us_kind.specs.Comparison.{lex, bytes_less, stamp_lex}
use Rattle.us_kind.specs.declared.identity.Stamp.{Stamp}

pub lex_trans : (a b c : ℕ) (r s t : Bool) → lex a b r ≡ true → lex b c s ≡ true → (r ≡ true → s ≡ true → t ≡ true) → lex a c t ≡ true
lex_trans a b c r s t h k rest = grind (arith, nat_tests)

pub lex_weaker : (a b : ℕ) (r s : Bool) → lex a b r ≡ true → (r ≡ true → s ≡ true) → lex a b s ≡ true
lex_weaker a b r s h rest = grind (arith, nat_tests)

pub lex_not : (a b : ℕ) (r s : Bool) → lex a b r ≡ true → (r ≡ true → s ≡ false) → lex b a s ≡ false
lex_not a b r s h rest = grind (arith, nat_tests)

-- where neither stands before the other, they are equal, and so it is with the rests
pub record Ties (a b : ℕ) (r s : Bool) : Type 0 where
  pub same : a ≡ b
  pub first : r ≡ false
  pub second : s ≡ false

pub lex_ties : (a b : ℕ) (r s : Bool) → lex a b r ≡ false → lex b a s ≡ false → Ties a b r s
lex_ties a b r s h k =
    let same : a ≡ b = grind (arith, nat_tests) in
    record { same = same; first = grind (arith, nat_tests); second = grind (arith, nat_tests) }

pub bytes_trans : (xs ys zs : List ℕ) → bytes_less xs ys ≡ true → bytes_less ys zs ≡ true → bytes_less xs zs ≡ true
bytes_trans xs ys [] h k = k
bytes_trans [] ys (z ∷ zs) h k = refl
bytes_trans (x ∷ xs) [] (z ∷ zs) h k = absurd (cc)
bytes_trans (x ∷ xs) (y ∷ ys) (z ∷ zs) h k = lex_trans x y z _ _ _ h k (bytes_trans xs ys zs)

pub bytes_not : (xs ys : List ℕ) → bytes_less xs ys ≡ true → bytes_less ys xs ≡ false
bytes_not xs [] h = absurd (cc)
bytes_not [] (y ∷ ys) h = refl
bytes_not (x ∷ xs) (y ∷ ys) h = lex_not x y _ _ h (bytes_not xs ys)

pub bytes_same : (xs ys : List ℕ) → bytes_less xs ys ≡ false → bytes_less ys xs ≡ false → xs ≡ ys
bytes_same [] [] h k = refl
bytes_same [] (y ∷ ys) h k = absurd (cc)
bytes_same (x ∷ xs) [] h k = absurd (cc)
bytes_same (x ∷ xs) (y ∷ ys) h k = let e = lex_ties x y _ _ h k in λ i. e.same i ∷ bytes_same xs ys e.first e.second i

pub stamp_trans : (a b c : Stamp) (r s t : Bool) → stamp_lex a b r ≡ true → stamp_lex b c s ≡ true → (r ≡ true → s ≡ true → t ≡ true)
    → stamp_lex a c t ≡ true
stamp_trans a b c r s t h k rest =
    lex_trans a.sum b.sum c.sum _ _ _ h k
    (λ h k. lex_trans a.tid.site b.tid.site c.tid.site _ _ _ h k
    (λ h k. lex_trans a.tid.coord b.tid.coord c.tid.coord _ _ _ h k
    (λ h k. lex_trans a.tid.seq b.tid.seq c.tid.seq _ _ _ h k
    (λ h k. lex_trans a.place b.place c.place _ _ _ h k rest))))

pub stamp_weaker : (a b : Stamp) (r s : Bool) → stamp_lex a b r ≡ true → (r ≡ true → s ≡ true) → stamp_lex a b s ≡ true
stamp_weaker a b r s h rest =
    lex_weaker a.sum b.sum _ _ h (λ h. lex_weaker a.tid.site b.tid.site _ _ h
    (λ h. lex_weaker a.tid.coord b.tid.coord _ _ h (λ h. lex_weaker a.tid.seq b.tid.seq _ _ h (λ h. lex_weaker a.place b.place _ _ h rest))))

pub stamp_not : (a b : Stamp) (r s : Bool) → stamp_lex a b r ≡ true → (r ≡ true → s ≡ false) → stamp_lex b a s ≡ false
stamp_not a b r s h rest =
    lex_not a.sum b.sum _ _ h (λ h. lex_not a.tid.site b.tid.site _ _ h
    (λ h. lex_not a.tid.coord b.tid.coord _ _ h (λ h. lex_not a.tid.seq b.tid.seq _ _ h (λ h. lex_not a.place b.place _ _ h rest))))

-- where neither stamp stands before the other, they are equal, and so it is with the rests
pub record StampsTie (a b : Stamp) (r s : Bool) : Type 0 where
  pub same : a ≡ b
  pub first : r ≡ false
  pub second : s ≡ false

pub stamp_ties : (a b : Stamp) (r s : Bool) → stamp_lex a b r ≡ false → stamp_lex b a s ≡ false → StampsTie a b r s
stamp_ties a b r s h k =
    let sum = lex_ties a.sum b.sum _ _ h k in
    let site = lex_ties a.tid.site b.tid.site _ _ sum.first sum.second in
    let coord = lex_ties a.tid.coord b.tid.coord _ _ site.first site.second in
    let seq = lex_ties a.tid.seq b.tid.seq _ _ coord.first coord.second in
    let place = lex_ties a.place b.place _ _ seq.first seq.second in
    record {
      same = λ i. record { sum = sum.same i; tid = record { site = site.same i; coord = coord.same i; seq = seq.same i }; place = place.same i };
      first = place.first;
      second = place.second;
    }

-- ---- as the comparisons of Rust

pub lex-cmp : (a b : ℕ) (o : Ordering) → is_lt (ordering_then (nat_cmp a b) o) ≡ lex a b (is_lt o)
lex-cmp a b o = on (nat_lt a b) (a == b)
  where
    on : (x y : Bool) → is_lt (ordering_then (cond x Less (cond y Equal Greater)) o) ≡ (x || (y && is_lt o))
    on true y = refl
    on false true = refl
    on false false = refl

pub bytes_less-cmp : (xs ys : List ℕ) → is_lt (slice_cmp nat_cmp xs ys) ≡ bytes_less xs ys
bytes_less-cmp [] [] = refl
bytes_less-cmp [] (y ∷ ys) = refl
bytes_less-cmp (x ∷ xs) [] = refl
bytes_less-cmp (x ∷ xs) (y ∷ ys) = lex-cmp x y (slice_cmp nat_cmp xs ys) ∙ ap (lex x y) (bytes_less-cmp xs ys)

lex-equal : (a b : ℕ) (rest : Bool) → nat_cmp a b ≡ Equal → lex a b rest ≡ rest
lex-equal a b rest = on (nat_lt a b) (a == b)
  where
    on : (x y : Bool) → cond x Less (cond y Equal Greater) ≡ Equal → (x || (y && rest)) ≡ rest
    on true y e = absurd (cc)
    on false true e = refl
    on false false e = absurd (cc)

pub both_equal : (o p : Ordering) → ordering_then o p ≡ Equal → (o ≡ Equal) × (p ≡ Equal)
both_equal Less p e = absurd (cc)
both_equal Equal p e = (refl, e)
both_equal Greater p e = absurd (cc)

-- the derived order of stamps
abbrev pub stamp_cmp : Stamp → Stamp → Ordering
stamp_cmp a b =
    ordering_then (nat_cmp a.sum b.sum) (ordering_then (ordering_then (nat_cmp a.tid.site b.tid.site)
    (ordering_then (nat_cmp a.tid.coord b.tid.coord) (nat_cmp a.tid.seq b.tid.seq))) (nat_cmp a.place b.place))

pub stamp_lex-equal : (a b : Stamp) (rest : Bool) → stamp_cmp a b ≡ Equal → stamp_lex a b rest ≡ rest
stamp_lex-equal a b rest e =
    let sum = both_equal _ _ e in
    let names = both_equal _ _ sum.1 in
    let site = both_equal _ _ names.0 in
    let coord = both_equal _ _ site.1 in
    lex-equal a.sum b.sum _ sum.0 ∙ lex-equal a.tid.site b.tid.site _ site.0 ∙ lex-equal a.tid.coord b.tid.coord _ coord.0
    ∙ lex-equal a.tid.seq b.tid.seq _ coord.1 ∙ lex-equal a.place b.place _ names.1
