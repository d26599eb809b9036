-- The committed transactions in arbitration order.
use Rattle.std.proofs.Common.{◌≡◌, ◌⊎◌, inl, inr, ⊎_elim, suc, List, [], ◌∷◌, length, Bool, true, false, refl, sym, ap, ◌∙◌, subst, arith, cond, true≢false}
use Rattle.us_kind.specs.Comparison.{In}
use Rattle.us_kind.specs.Histories.{all_from}
use Rattle.us_kind.specs.Ascending.{all_in}
use Rattle.us_kind.proofs.TestLemmas.{lex-apart, lex-not, tid_less-apart, tid_less-not}
use Rattle.us_base.specs.Vector.{sum_of}
use Rattle.us_history.specs.Histories.{Committed}
use Rattle.us_history.specs.Arbitration.{ties, precedes, placed, arbitrated}
use Rattle.us_snapshots.proofs.Stands.{StandsEarlier, TidsApart}

-- THE SAME TRANSACTIONS
pub in_placed : (x c : Committed) (ds : List Committed) → In x (placed c ds) → (c ≡ x) ⊎ In x ds
in_placed x c [] h = ⊎_elim (λ e. inl e) (λ n. absurd n) h
in_placed x c (d ∷ ds) h = on (precedes d c) h (in_placed x c ds)
  where
    on : (b : Bool) → In x (cond b (d ∷ placed c ds) (c ∷ d ∷ ds)) → (In x (placed c ds) → (c ≡ x) ⊎ In x ds) → (c ≡ x) ⊎ In x (d ∷ ds)
    on true (inl e) again = inr (inl e)
    on true (inr i) again = ⊎_elim (λ e. inl e) (λ j. inr (inr j)) (again i)
    on false (inl e) again = inl e
    on false (inr i) again = inr i

pub placed_holds : (x c : Committed) (ds : List Committed) → (c ≡ x) ⊎ In x ds → In x (placed c ds)
placed_holds x c [] h = ⊎_elim (λ e. inl e) (λ n. absurd n) h
placed_holds x c (d ∷ ds) h = on (precedes d c) h (placed_holds x c ds)
  where
    on : (b : Bool) → (c ≡ x) ⊎ In x (d ∷ ds) → ((c ≡ x) ⊎ In x ds → In x (placed c ds)) → In x (cond b (d ∷ placed c ds) (c ∷ d ∷ ds))
    on true (inl e) again = inr (again (inl e))
    on true (inr (inl e)) again = inl e
    on true (inr (inr i)) again = inr (again (inr i))
    on false h again = h

pub in_arbitrated : (x : Committed) (cs : List Committed) → In x (arbitrated cs) → In x cs
in_arbitrated x [] h = h
in_arbitrated x (c ∷ cs) h = ⊎_elim (λ e. inl e) (λ i. inr (in_arbitrated x cs i)) (in_placed x c (arbitrated cs) h)

pub arbitrated_holds : (x : Committed) (cs : List Committed) → In x cs → In x (arbitrated cs)
arbitrated_holds x [] h = h
arbitrated_holds x (c ∷ cs) h = placed_holds x c (arbitrated cs) (⊎_elim (λ e. inl e) (λ i. inr (arbitrated_holds x cs i)) h)

-- SORTED
abbrev pub Sorted : List Committed → Type 0
Sorted [] = Unit {0}
Sorted (c ∷ cs) = ((d : Committed) → In d cs → precedes d c ≡ false) × Sorted cs

ties-apart : (x y z r s t : Bool) → (r ≡ false → s ≡ false → t ≡ false) → ties x y r ≡ false → ties y z s ≡ false → ties x z t ≡ false
ties-apart false y z r s t f h k = refl
ties-apart true false z r s t f h k = absurd (true≢false h)
ties-apart true true false r s t f h k = absurd (true≢false k)
ties-apart true true true r s t f h k = f h k

pub precedes-apart : (a b c : Committed) → precedes a b ≡ false → precedes b c ≡ false → precedes a c ≡ false
precedes-apart a b c h k =
    lex-apart (sum_of a.vector) (sum_of b.vector) (sum_of c.vector) _ _ _ h k (ties-apart _ _ _ _ _ _ (tid_less-apart a.begun.tid b.begun.tid c.begun.tid))

ties-not : (x y r s : Bool) → (r ≡ true → s ≡ false) → ties x y r ≡ true → ties y x s ≡ false
ties-not false y r s f h = absurd (true≢false (sym h))
ties-not true false r s f h = refl
ties-not true true r s f h = f h

pub precedes-not : (a b : Committed) → precedes a b ≡ true → precedes b a ≡ false
precedes-not a b h = lex-not (sum_of a.vector) (sum_of b.vector) _ _ (ties-not _ _ _ _ (tid_less-not a.begun.tid b.begun.tid)) h

pub precedes-self : (a : Committed) → precedes a a ≡ false
precedes-self a = on (precedes a a) refl
  where
    on : (b : Bool) → precedes a a ≡ b → precedes a a ≡ false
    on true e = precedes-not a a e
    on false e = e

placed-sorted : (c : Committed) (ds : List Committed) → Sorted ds → Sorted (placed c ds)
placed-sorted c [] h = (λ d i. absurd i, tt)
placed-sorted c (d ∷ ds) h = on (precedes d c) refl (placed-sorted c ds h.1)
  where
    on : (b : Bool) → precedes d c ≡ b → Sorted (placed c ds) → Sorted (cond b (d ∷ placed c ds) (c ∷ d ∷ ds))
    on true e again = (λ x i. ⊎_elim (λ s. subst (λ y. precedes y d ≡ false) s (precedes-not d c e)) (λ j. h.0 x j) (in_placed x c ds i), again)
    on false e again = (λ x i. ⊎_elim (λ s. subst (λ y. precedes y c ≡ false) s e) (λ j. precedes-apart x d c (h.0 x j) e) i, h)

pub arbitrated-sorted : (cs : List Committed) → Sorted (arbitrated cs)
arbitrated-sorted [] = tt
arbitrated-sorted (c ∷ cs) = placed-sorted c (arbitrated cs) (arbitrated-sorted cs)

-- WHAT STANDS EARLIER
-- one that precedes another
pub precedes_stands : (c d : Committed) (xs : List Committed) → Sorted xs → In c xs → In d xs → precedes c d ≡ true → StandsEarlier c d xs
precedes_stands c d [] s i j h = absurd i
precedes_stands c d (x ∷ xs) s (inl e) (inl f) h = absurd (true≢false (sym h ∙ (λ k. precedes (sym e k) (sym f k)) ∙ precedes-self x))
precedes_stands c d (x ∷ xs) s (inl e) (inr j) h = inl (e, j)
precedes_stands c d (x ∷ xs) s (inr i) (inl f) h = absurd (true≢false (sym h ∙ ap (precedes c) (sym f) ∙ s.0 c i))
precedes_stands c d (x ∷ xs) s (inr i) (inr j) h = inr (precedes_stands c d xs s.1 i j h)

-- one that was decided before another which doesn't precede it
placed_first : (c d : Committed) (ds : List Committed) → In d ds → precedes d c ≡ false → StandsEarlier c d (placed c ds)
placed_first c d [] h e = absurd h
placed_first c d (y ∷ ds) h e = on (precedes y c) refl h (λ i. placed_first c d ds i e)
  where
    on : (b : Bool) → precedes y c ≡ b → In d (y ∷ ds) → (In d ds → StandsEarlier c d (placed c ds)) → StandsEarlier c d (cond b (y ∷ placed c ds) (c ∷ y ∷ ds))
    on true f (inl k) again = absurd (true≢false (sym f ∙ ap (λ z. precedes z c) k ∙ e))
    on true f (inr i) again = inr (again i)
    on false f h again = inl (refl, h)

placed_still : (c d x : Committed) (ds : List Committed) → StandsEarlier c d ds → StandsEarlier c d (placed x ds)
placed_still c d x [] h = absurd h
placed_still c d x (y ∷ ds) h = on (precedes y x) h (placed_still c d x ds)
  where
    on : (b : Bool) → StandsEarlier c d (y ∷ ds) → (StandsEarlier c d ds → StandsEarlier c d (placed x ds))
        → StandsEarlier c d (cond b (y ∷ placed x ds) (x ∷ y ∷ ds))
    on true (inl e) again = inl (e.0, placed_holds d x ds (inr e.1))
    on true (inr h) again = inr (again h)
    on false h again = inr h

pub stands_arbitrated : (c d : Committed) (cs : List Committed) → StandsEarlier c d cs → precedes d c ≡ false → StandsEarlier c d (arbitrated cs)
stands_arbitrated c d [] h e = absurd h
stands_arbitrated c d (x ∷ cs) (inl k) e =
    subst (λ y. StandsEarlier c d (placed y (arbitrated cs))) (sym k.0) (placed_first c d (arbitrated cs) (arbitrated_holds d cs k.1) e)
stands_arbitrated c d (x ∷ cs) (inr h) e = placed_still c d x (arbitrated cs) (stands_arbitrated c d cs h e)

-- transactions apart stay so
placed_apart : (c : Committed) (ds : List Committed) → ((d : Committed) → In d ds → c.begun.tid ≡ d.begun.tid → ⊥) → TidsApart ds → TidsApart (placed c ds)
placed_apart c [] new h = (tt, tt)
placed_apart c (d ∷ ds) new h = on (precedes d c) (placed_apart c ds (λ x i. new x (inr i)) h.1)
  where
    first : (x : Committed) → In x (placed c ds) → d.begun.tid ≡ x.begun.tid → ⊥
    first x i e = ⊎_elim
        (λ s. new d (inl refl) (ap (λ (y : Committed). y.begun.tid) s ∙ sym e))
        (λ j. all_in (λ (y : Committed). d.begun.tid ≡ y.begun.tid → ⊥) ds x h.0 j e)
        (in_placed x c ds i)

    on : (b : Bool) → TidsApart (placed c ds) → TidsApart (cond b (d ∷ placed c ds) (c ∷ d ∷ ds))
    on true again = (all_from (λ (x : Committed). d.begun.tid ≡ x.begun.tid → ⊥) (placed c ds) first, again)
    on false again = (all_from (λ (x : Committed). c.begun.tid ≡ x.begun.tid → ⊥) (d ∷ ds) new, h)

pub arbitrated_apart : (cs : List Committed) → TidsApart cs → TidsApart (arbitrated cs)
arbitrated_apart [] h = tt
arbitrated_apart (c ∷ cs) h =
    placed_apart c (arbitrated cs) (λ d i. all_in (λ (x : Committed). c.begun.tid ≡ x.begun.tid → ⊥) cs d h.0 (in_arbitrated d cs i)) (arbitrated_apart cs h.1)

-- there are as many
placed-length : (c : Committed) (ds : List Committed) → length (placed c ds) ≡ suc (length ds)
placed-length c [] = refl
placed-length c (d ∷ ds) = on (precedes d c) (placed-length c ds)
  where
    on : (b : Bool) → length (placed c ds) ≡ suc (length ds) → length (cond b (d ∷ placed c ds) (c ∷ d ∷ ds)) ≡ suc (length (d ∷ ds))
    on true again = omega (arith, again)
    on false again = refl

pub arbitrated-length : (cs : List Committed) → length (arbitrated cs) ≡ length cs
arbitrated-length [] = refl
arbitrated-length (c ∷ cs) = placed-length c (arbitrated cs) ∙ ap suc (arbitrated-length cs)
