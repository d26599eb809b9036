-- What is counted per session.
use Rattle.std.proofs.Common.{◌≡◌, ◌⊎◌, inl, inr, ⊎_elim, ℕ, zero, suc, ◌<◌, ◌≤◌, List, [], ◌∷◌, Bool, true, false, ◌&&◌, refl, sym, ap, ◌∙◌, subst, arith, max}
use Rattle.std.proofs.Common.{cond, true≢false}
use Rattle.std.specs.Prelude.{nat_lt, nat_le}
use Rattle.std.proofs.lemmas.Bool.{and_parts, and_from, leb-true}
use Rattle.std.proofs.lemmas.Bool.Decides.{nat_tests}
use Rattle.us_kind.specs.Comparison.{In}
use Rattle.us_exec.specs.declared.SessionName.{SessionName}
use Rattle.us_exec.specs.Past.{session_less, session_eq, count_in}
use Rattle.us_history.specs.Histories.{Committed}
use Rattle.us_history.specs.Pasts.{count_of, counts_of, with_session, sessions_of}
use Rattle.us_snapshots.proofs.Tests.{session_eq-true, session_eq-same}

-- THE GREATEST NUMBER of a transaction of the session that passes
pub count_of-holds : (test : Committed → Bool) (s : SessionName) (cs : List Committed) (c : Committed) → In c cs → c.begun.session ≡ s → test c ≡ true
    → c.number ≤ count_of test s cs
count_of-holds test s [] c h e t = absurd h
count_of-holds test s (d ∷ cs) c h e t = on (session_eq d.begun.session s && test d) refl h (λ i. count_of-holds test s cs c i e t)
  where
    on : (b : Bool) → (session_eq d.begun.session s && test d) ≡ b → In c (d ∷ cs) → (In c cs → c.number ≤ count_of test s cs)
        → c.number ≤ cond b (max d.number (count_of test s cs)) (count_of test s cs)
    on true f (inl k) again = let n : d.number ≡ c.number = ap (λ (x : Committed). x.number) k in omega arith
    on true f (inr i) again = omega (arith, again i)
    on false f (inl k) again =
        absurd (true≢false (sym (and_from _ _ (ap (λ (x : Committed). session_eq x.begun.session s) k ∙ ap (λ x. session_eq x s) e ∙ session_eq-same s)
        (ap test k ∙ t)) ∙ f))
    on false f (inr i) again = again i

-- who has at least this number
pub record Counted (test : Committed → Bool) (s : SessionName) (cs : List Committed) (n : ℕ) : Type 0 where
  pub by : Committed
  pub here : In by cs
  pub session : by.begun.session ≡ s
  pub passes : test by ≡ true
  pub number : n ≤ by.number

pub count_of-found : (test : Committed → Bool) (s : SessionName) (cs : List Committed) (n : ℕ) → 0 < n → n ≤ count_of test s cs → Counted test s cs n
count_of-found test s [] n z h = absurd (omega arith)
count_of-found test s (d ∷ cs) n z h = on (session_eq d.begun.session s && test d) refl h (count_of-found test s cs n z) (nat_le n d.number) refl
  where
    later : Counted test s cs n → Counted test s (d ∷ cs) n
    later c = record { by = c.by; here = inr c.here; session = c.session; passes = c.passes; number = c.number }

    on : (b : Bool) → (session_eq d.begun.session s && test d) ≡ b → n ≤ cond b (max d.number (count_of test s cs)) (count_of test s cs)
        → (n ≤ count_of test s cs → Counted test s cs n) → (m : Bool) → nat_le n d.number ≡ m → Counted test s (d ∷ cs) n
    on true f h again true e =
        let g = and_parts _ _ f in record { by = d; here = inl refl; session = session_eq-true _ _ g.0; passes = g.1; number = leb-true n d.number e }
    on true f h again false e = later (again (over n d.number (count_of test s cs) e h))
      where
        over : (n a b : ℕ) → nat_le n a ≡ false → n ≤ max a b → n ≤ b
        over n a b e h = let k = above n a e in omega arith
          where
            above : (n a : ℕ) → nat_le n a ≡ false → a < n
            above n a e = grind (arith, nat_tests)
    on false f h again m e = later (again h)

pub count_of-le : (p q : Committed → Bool) (s : SessionName) (cs : List Committed)
    → ((c : Committed) → In c cs → c.begun.session ≡ s → p c ≡ true → Counted q s cs c.number) → count_of p s cs ≤ count_of q s cs
count_of-le p q s cs more = on (count_of p s cs) refl
  where
    on : (n : ℕ) → count_of p s cs ≡ n → n ≤ count_of q s cs
    on zero e = omega arith
    on (suc n) e =
        let c = count_of-found p s cs (suc n) (omega arith) (omega arith) in
        let d = more c.by c.here c.session c.passes in
        let a = c.number in
        let b = d.number in
        let k = count_of-holds q s cs d.by d.here d.session d.passes in
        omega arith

-- THE COUNT OF A SESSION among the counts
pub counts-most : (test : Committed → Bool) (cs : List Committed) (s : SessionName) (ss : List SessionName)
    → count_in s (counts_of test cs ss) ≤ count_of test s cs
counts-most test cs s [] = omega arith
counts-most test cs s (r ∷ rs) = on (nat_lt 0 (count_of test r cs)) (session_eq r s) refl (counts-most test cs s rs)
  where
    on : (b e : Bool) → session_eq r s ≡ e → count_in s (counts_of test cs rs) ≤ count_of test s cs
        → count_in s (cond b (record { session = r; count = count_of test r cs } ∷ counts_of test cs rs) (counts_of test cs rs)) ≤ count_of test s cs
    on true e f again = at e f
      where
        at : (e : Bool) → session_eq r s ≡ e → cond (session_eq r s) (count_of test r cs) (count_in s (counts_of test cs rs)) ≤ count_of test s cs
        at true f = let k : count_of test r cs ≡ count_of test s cs = ap (λ x. count_of test x cs) (session_eq-true r s f) in rw f (omega arith)
        at false f = rw f again
    on false e f again = again

pub counts-least : (test : Committed → Bool) (cs : List Committed) (s : SessionName) (ss : List SessionName) → In s ss
    → count_of test s cs ≤ count_in s (counts_of test cs ss)
counts-least test cs s [] h = absurd h
counts-least test cs s (r ∷ rs) h = on (nat_lt 0 (count_of test r cs)) refl h (counts-least test cs s rs)
  where
    on : (b : Bool) → nat_lt 0 (count_of test r cs) ≡ b → In s (r ∷ rs) → (In s rs → count_of test s cs ≤ count_in s (counts_of test cs rs))
        → count_of test s cs ≤ count_in s (cond b (record { session = r; count = count_of test r cs } ∷ counts_of test cs rs) (counts_of test cs rs))
    on true f h again = at (session_eq r s) refl h
      where
        at : (e : Bool) → session_eq r s ≡ e → In s (r ∷ rs)
            → count_of test s cs ≤ cond (session_eq r s) (count_of test r cs) (count_in s (counts_of test cs rs))
        at true g h = let k : count_of test r cs ≡ count_of test s cs = ap (λ x. count_of test x cs) (session_eq-true r s g) in rw g (omega arith)
        at false g (inl k) = absurd (true≢false (sym (ap (λ x. session_eq x s) k ∙ session_eq-same s) ∙ g))
        at false g (inr i) = rw g (again i)
    on false f (inl k) again =
        let z : count_of test r cs ≤ 0 =
        none (count_of test r cs) f in let m : count_of test r cs ≡ count_of test s cs = ap (λ x. count_of test x cs) k in omega arith
      where
        none : (n : ℕ) → nat_lt 0 n ≡ false → n ≤ 0
        none n e = grind (arith, nat_tests)
    on false f (inr i) again = again i

pub in_with : (s : SessionName) (rs : List SessionName) → In s (with_session s rs)
in_with s [] = inl refl
in_with s (r ∷ rs) = on (session_less r s) (session_eq r s) refl (in_with s rs)
  where
    on : (b e : Bool) → session_eq r s ≡ e → In s (with_session s rs) → In s (cond b (r ∷ with_session s rs) (cond e (r ∷ rs) (s ∷ r ∷ rs)))
    on true e f again = inr again
    on false true f again = inl (session_eq-true r s f)
    on false false f again = inl refl

pub in_with_old : (x s : SessionName) (rs : List SessionName) → In x rs → In x (with_session s rs)
in_with_old x s [] h = absurd h
in_with_old x s (r ∷ rs) h = on (session_less r s) (session_eq r s) h (in_with_old x s rs)
  where
    on : (b e : Bool) → In x (r ∷ rs) → (In x rs → In x (with_session s rs)) → In x (cond b (r ∷ with_session s rs) (cond e (r ∷ rs) (s ∷ r ∷ rs)))
    on true e (inl k) again = inl k
    on true e (inr i) again = inr (again i)
    on false true h again = h
    on false false h again = inr h

pub session_in : (c : Committed) (cs : List Committed) → In c cs → In c.begun.session (sessions_of cs)
session_in c [] h = absurd h
session_in c (d ∷ cs) (inl e) =
    subst (λ (x : Committed). In x.begun.session (with_session d.begun.session (sessions_of cs))) e (in_with d.begun.session (sessions_of cs))
session_in c (d ∷ cs) (inr h) = in_with_old c.begun.session d.begun.session (sessions_of cs) (session_in c cs h)

-- a session without committed transactions counts none
pub no_count : (test : Committed → Bool) (s : SessionName) (cs : List Committed) → (In s (sessions_of cs) → ⊥) → count_of test s cs ≡ 0
no_count test s [] h = refl
no_count test s (c ∷ cs) h = on (session_eq c.begun.session s) refl (test c) (no_count test s cs (λ i. h (in_with_old s c.begun.session (sessions_of cs) i)))
  where
    on : (b : Bool) → session_eq c.begun.session s ≡ b → (r : Bool) → count_of test s cs ≡ 0
        → cond (b && r) (max c.number (count_of test s cs)) (count_of test s cs) ≡ 0
    on true e r again = absurd (h (subst (λ x. In x (sessions_of (c ∷ cs))) (session_eq-true c.begun.session s e) (in_with c.begun.session (sessions_of cs))))
    on false e r again = again

pub session_here : (s : SessionName) (ss : List SessionName) → In s ss ⊎ (In s ss → ⊥)
session_here s [] = inr (λ i. i)
session_here s (r ∷ rs) = on (session_eq r s) refl (session_here s rs)
  where
    on : (b : Bool) → session_eq r s ≡ b → In s rs ⊎ (In s rs → ⊥) → In s (r ∷ rs) ⊎ (In s (r ∷ rs) → ⊥)
    on true e h = inl (inl (session_eq-true r s e))
    on false e (inl i) = inl (inr i)
    on false e (inr h) = inr (λ i. ⊎_elim (λ k. true≢false (sym (ap (λ x. session_eq x s) k ∙ session_eq-same s) ∙ e)) h i)

-- a count is the greatest number
pub count_in-counts : (test : Committed → Bool) (cs : List Committed) (s : SessionName) → count_in s (counts_of test cs (sessions_of cs)) ≡ count_of test s cs
count_in-counts test cs s =
    let most = counts-most test cs s (sessions_of cs) in
    ⊎_elim
    (λ i. let least = counts-least test cs s (sessions_of cs) i in omega arith)
    (λ h. let none = no_count test s cs h in omega arith)
    (session_here s (sessions_of cs))
