-- What the tests of equality and of order say.
use Rattle.std.proofs.Common.{◌≡◌, ℕ, List, [], ◌∷◌, Bool, true, false, refl, sym, arith, true≢false}
use Rattle.std.proofs.lemmas.Bool.{eqb-true, and_parts}
use Rattle.std.proofs.lemmas.Bool.Decides.{nat_tests}
use Rattle.us_kind.specs.Comparison.{bytes_eq, bytes_less, lex, tid_eq, tid_less}
use Rattle.us_kind.specs.declared.identity.Tid.{Tid}

pub bytes_eq-true : (xs ys : List ℕ) → bytes_eq xs ys ≡ true → xs ≡ ys
bytes_eq-true [] [] h = refl
bytes_eq-true [] (y ∷ ys) h = absurd (cc)
bytes_eq-true (x ∷ xs) [] h = absurd (cc)
bytes_eq-true (x ∷ xs) (y ∷ ys) h = let e = and_parts _ _ h in let e0 = eqb-true x y e.0 in let e1 = bytes_eq-true xs ys e.1 in cc

pub tid_eq-true : (a b : Tid) → tid_eq a b ≡ true → a ≡ b
tid_eq-true a b h = let e = and_parts _ _ h in let f = and_parts _ _ e.1 in let e0 = eqb-true _ _ e.0 in let e1 = eqb-true _ _ f.0 in let e2 = eqb-true _ _ f.1 in λ i. record { site = e0 i; coord = e1 i; seq = e2 i }

pub tid_eq-same : (a : Tid) → tid_eq a a ≡ true
tid_eq-same a = grind arith

-- LEXICOGRAPHIC ORDER: of a pair, so that longer ones are made of it
pub lex-trans : (a b c : ℕ) (r s t : Bool) → lex a b r ≡ true → lex b c s ≡ true → (r ≡ true → s ≡ true → t ≡ true) → lex a c t ≡ true
lex-trans a b c r s t h k f = grind (arith, nat_tests)

-- neither stands before the other
pub lex-one : (a b : ℕ) (r s : Bool) → lex a b r ≡ false → lex b a s ≡ false → (a ≡ b) × (r ≡ false) × (s ≡ false)
lex-one a b r s h k = (grind (arith, nat_tests), grind (arith, nat_tests), grind (arith, nat_tests))

pub lex-self : (a : ℕ) (r : Bool) → r ≡ false → lex a a r ≡ false
lex-self a r h = grind (arith, nat_tests)

-- not standing before goes on
pub lex-apart : (a b c : ℕ) (r s t : Bool) → lex a b r ≡ false → lex b c s ≡ false → (r ≡ false → s ≡ false → t ≡ false) → lex a c t ≡ false
lex-apart a b c r s t h k f = grind (arith, nat_tests)

pub lex-not : (a b : ℕ) (r s : Bool) → (r ≡ true → s ≡ false) → lex a b r ≡ true → lex b a s ≡ false
lex-not a b r s f h = grind (arith, nat_tests)

pub bytes_less-one : (xs ys : List ℕ) → bytes_less xs ys ≡ false → bytes_less ys xs ≡ false → xs ≡ ys
bytes_less-one [] [] h k = refl
bytes_less-one [] (y ∷ ys) h k = absurd (true≢false h)
bytes_less-one (x ∷ xs) [] h k = absurd (true≢false k)
bytes_less-one (x ∷ xs) (y ∷ ys) h k = let e = lex-one x y _ _ h k in let e0 = e.0 in let e1 = bytes_less-one xs ys e.1 e.2 in cc

pub bytes_less-trans : (xs ys zs : List ℕ) → bytes_less xs ys ≡ true → bytes_less ys zs ≡ true → bytes_less xs zs ≡ true
bytes_less-trans xs [] zs h k = absurd (true≢false (sym (on xs h)))
  where
    on : (xs : List ℕ) → bytes_less xs [] ≡ true → false ≡ true
    on [] h = h
    on (x ∷ xs) h = h
bytes_less-trans xs (y ∷ ys) [] h k = absurd (true≢false (sym k))
bytes_less-trans [] (y ∷ ys) (z ∷ zs) h k = refl
bytes_less-trans (x ∷ xs) (y ∷ ys) (z ∷ zs) h k = lex-trans x y z _ _ _ h k (bytes_less-trans xs ys zs)

pub bytes_less-self : (xs : List ℕ) → bytes_less xs xs ≡ false
bytes_less-self [] = refl
bytes_less-self (x ∷ xs) = lex-self x _ (bytes_less-self xs)

pub tid_less-trans : (a b c : Tid) → tid_less a b ≡ true → tid_less b c ≡ true → tid_less a c ≡ true
tid_less-trans a b c h k = lex-trans a.site b.site c.site _ _ _ h k (λ h1 k1. lex-trans a.coord b.coord c.coord _ _ _ h1 k1 (λ h2 k2. grind (arith, nat_tests)))

pub tid_less-apart : (a b c : Tid) → tid_less a b ≡ false → tid_less b c ≡ false → tid_less a c ≡ false
tid_less-apart a b c h k = lex-apart a.site b.site c.site _ _ _ h k (λ h1 k1. lex-apart a.coord b.coord c.coord _ _ _ h1 k1 (λ h2 k2. grind (arith, nat_tests)))

pub tid_less-not : (a b : Tid) → tid_less a b ≡ true → tid_less b a ≡ false
tid_less-not a b h = grind (arith, nat_tests)
