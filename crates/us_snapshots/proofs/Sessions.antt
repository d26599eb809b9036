-- The sessions that a past names, and what it counts of them.
use Rattle.std.proofs.Common.{◌≡◌, ◌∙◌, ℕ, ◌≤◌, ◌⊎◌, ⊎_elim, inl, inr, List, [], ◌∷◌, Bool, true, false, cond, max, sym, ap, subst, arith, true≢false, refl}
use Rattle.std.specs.Prelude.{◌&&◌, nat_lt}
use Rattle.std.proofs.lemmas.Bool.Decides.{nat_tests}
use Rattle.us_kind.specs.Comparison.{In}
use Rattle.us_kind.specs.Updates.{All, AllLater}
use Rattle.us_kind.specs.Histories.{all_from}
use Rattle.us_kind.specs.Ascending.{all_in}
use Rattle.us_kind.specs.declared.identity.Tid.{Tid}
use Rattle.us_kind.proofs.TestLemmas.{tid_less-trans, lex-one}
use Rattle.us_exec.specs.declared.SessionName.{SessionName}
use Rattle.us_exec.specs.declared.Count.{Count}
use Rattle.us_exec.specs.Past.{session_less, session_eq}
use Rattle.us_history.specs.Histories.{Committed}
use Rattle.us_history.specs.Pasts.{count_of, counts_of, with_session, sessions_of}
use Rattle.us_snapshots.proofs.Tests.{session_eq-true, session_eq-same}

-- THE SESSIONS ASCEND
abbrev as_tid : SessionName → Tid
as_tid s = record { site = s.site; coord = s.coord; seq = s.number }

session_less-trans : (a b c : SessionName) → session_less a b ≡ true → session_less b c ≡ true → session_less a c ≡ true
session_less-trans a b c = tid_less-trans (as_tid a) (as_tid b) (as_tid c)

session_less-one : (a b : SessionName) → session_less a b ≡ false → session_less b a ≡ false → a ≡ b
session_less-one a b h k =
    let site = lex-one a.site b.site _ _ h k in
    let coord = lex-one a.coord b.coord _ _ site.1 site.2 in
    let number = equal a.number b.number coord.1 coord.2 in
    λ i. record { site = site.0 i; coord = coord.0 i; number = number i }
  where
    equal : (m n : ℕ) → nat_lt m n ≡ false → nat_lt n m ≡ false → m ≡ n
    equal m n e f = grind (arith, nat_tests)

abbrev pub Less : SessionName → SessionName → Type 0
Less a b = session_less a b ≡ true

in_with_either : (x s : SessionName) (rs : List SessionName) → In x (with_session s rs) → (s ≡ x) ⊎ In x rs
in_with_either x s [] h = ⊎_elim (λ e. inl e) (λ n. absurd n) h
in_with_either x s (r ∷ rs) h = on (session_less r s) (session_eq r s) h (in_with_either x s rs)
  where
    on : (b q : Bool) → In x (cond b (r ∷ with_session s rs) (cond q (r ∷ rs) (s ∷ r ∷ rs))) → (In x (with_session s rs) → (s ≡ x) ⊎ In x rs)
        → (s ≡ x) ⊎ In x (r ∷ rs)
    on true q (inl e) again = inr (inl e)
    on true q (inr i) again = ⊎_elim (λ e. inl e) (λ j. inr (inr j)) (again i)
    on false true h again = inr h
    on false false (inl e) again = inl e
    on false false (inr i) again = inr i

with_ascends : (s : SessionName) (rs : List SessionName) → AllLater Less rs → AllLater Less (with_session s rs)
with_ascends s [] h = (tt, tt)
with_ascends s (r ∷ rs) h = on (session_less r s) refl (session_eq r s) refl (with_ascends s rs h.1)
  where
    apart : session_less r s ≡ false → session_eq r s ≡ false → session_less s r ≡ true
    apart e f = at (session_less s r) refl
      where
        at : (b : Bool) → session_less s r ≡ b → b ≡ true
        at true g = refl
        at false g = absurd (true≢false (sym (ap (λ x. session_eq x s) (session_less-one r s e g) ∙ session_eq-same s) ∙ f))

    on : (b : Bool) → session_less r s ≡ b → (q : Bool) → session_eq r s ≡ q → AllLater Less (with_session s rs)
        → AllLater Less (cond b (r ∷ with_session s rs) (cond q (r ∷ rs) (s ∷ r ∷ rs)))
    on true e q f again =
        (all_from (Less r) (with_session s rs) (λ x i. ⊎_elim (λ k. subst (Less r) k e) (λ j. all_in (Less r) rs x h.0 j) (in_with_either x s rs i)), again)
    on false e true f again = h
    on false e false f again = ((apart e f, all_from (Less s) rs (λ x i. session_less-trans s r x (apart e f) (all_in (Less r) rs x h.0 i))), h)

pub sessions_ascend : (cs : List Committed) → AllLater Less (sessions_of cs)
sessions_ascend [] = tt
sessions_ascend (c ∷ cs) = with_ascends c.begun.session (sessions_of cs) (sessions_ascend cs)

-- THE COUNTS OF A PAST
-- what is counted is of these sessions, at least one and no more than the bound
pub record CountedOf (bound : SessionName → ℕ) (ss : List SessionName) (c : Count) : Type 0 where
  pub session : In c.session ss
  pub from_one : 1 ≤ c.count
  pub within : c.count ≤ bound c.session

pub of_counts : (bound : SessionName → ℕ) (test : Committed → Bool) (cs : List Committed) → ((s : SessionName) → count_of test s cs ≤ bound s)
    → (ss : List SessionName) (c : Count) → In c (counts_of test cs ss) → CountedOf bound ss c
of_counts bound test cs most [] c i = absurd i
of_counts bound test cs most (s ∷ ss) c i = on (nat_lt 0 (count_of test s cs)) refl i (of_counts bound test cs most ss c)
  where
    above : (n : ℕ) → nat_lt 0 n ≡ true → 1 ≤ n
    above n e = grind (arith, nat_tests)

    on : (b : Bool) → nat_lt 0 (count_of test s cs) ≡ b
        → In c (cond b (record { session = s; count = count_of test s cs } ∷ counts_of test cs ss) (counts_of test cs ss))
        → (In c (counts_of test cs ss) → CountedOf bound ss c) → CountedOf bound (s ∷ ss) c
    on true e (inl k) again = subst (CountedOf bound (s ∷ ss)) k (record { session = inl refl; from_one = above (count_of test s cs) e; within = most s })
    on true e (inr j) again = let f = again j in record { session = inr f.session; from_one = f.from_one; within = f.within }
    on false e j again = let f = again j in record { session = inr f.session; from_one = f.from_one; within = f.within }

pub counts_ascend : (test : Committed → Bool) (cs : List Committed) (ss : List SessionName) → AllLater Less ss
    → AllLater (λ (a b : Count). session_less a.session b.session ≡ true) (counts_of test cs ss)
counts_ascend test cs [] h = tt
counts_ascend test cs (s ∷ ss) h = on (nat_lt 0 (count_of test s cs)) (counts_ascend test cs ss h.1)
  where
    later : All (λ (b : Count). session_less s b.session ≡ true) (counts_of test cs ss)
    later = all_from (λ (b : Count). session_less s b.session ≡ true) (counts_of test cs ss)
        (λ b i. all_in (Less s) ss b.session h.0 (of_counts (λ r. count_of test r cs) test cs (λ r. omega arith) ss b i).session)

    on : (b : Bool) → AllLater (λ (a b : Count). session_less a.session b.session ≡ true) (counts_of test cs ss)
        → AllLater (λ (a b : Count). session_less a.session b.session ≡ true)
        (cond b (record { session = s; count = count_of test s cs } ∷ counts_of test cs ss) (counts_of test cs ss))
    on true again = (later, again)
    on false again = again

pub count_most : (test : Committed → Bool) (s : SessionName) (n : ℕ) (cs : List Committed) → ((c : Committed) → In c cs → c.begun.session ≡ s → c.number ≤ n)
    → count_of test s cs ≤ n
count_most test s n [] h = omega arith
count_most test s n (c ∷ cs) h = on (session_eq c.begun.session s) refl (test c) (count_most test s n cs (λ d i. h d (inr i)))
  where
    on : (b : Bool) → session_eq c.begun.session s ≡ b → (r : Bool) → count_of test s cs ≤ n
        → cond (b && r) (max c.number (count_of test s cs)) (count_of test s cs) ≤ n
    on true e true k = let m = h c (inl refl) (session_eq-true c.begun.session s e) in omega arith
    on true e false k = k
    on false e r k = k
