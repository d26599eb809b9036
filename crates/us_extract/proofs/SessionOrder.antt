-- The sessions of committed transactions, sorted and each once.
use Rattle.std.proofs.Common.{◌≡◌, ◌∙◌, ◌⊎◌, ⊎_elim, inl, inr, ℕ, List, [], ◌∷◌, map, Bool, true, false, cond, refl, sym, ap, subst, arith, true≢false}
use Rattle.std.specs.Prelude.{nat_lt}
use Rattle.std.specs.Cmp.{IsStrictWeakOrder}
use Rattle.std.specs.List.{dedup, dedup_from}
use Rattle.std.specs.List.Sorted.{IsSortedBy, IsStableBy}
use Rattle.std.proofs.lemmas.Bool.Decides.{nat_tests}
use Rattle.us_kind.specs.Comparison.{In}
use Rattle.us_kind.specs.Updates.{All, AllLater}
use Rattle.us_kind.specs.Histories.{all_from}
use Rattle.us_kind.specs.Ascending.{all_in}
use Rattle.us_kind.specs.declared.identity.Tid.{Tid}
use Rattle.us_kind.proofs.TestLemmas.{tid_less-trans, tid_less-not, tid_less-apart, lex-one}
use Rattle.us_exec.specs.declared.SessionName.{SessionName}
use Rattle.us_exec.specs.Past.{session_less, session_eq}
use Rattle.us_history.specs.Histories.{Committed}
use Rattle.us_history.specs.Pasts.{with_session, sessions_of}
use Rattle.us_snapshots.proofs.Tests.{session_eq-true, session_eq-same}
use Rattle.us_snapshots.proofs.Sessions.{Less, sessions_ascend}
use Rattle.us_snapshots.proofs.Counts.{in_with, in_with_old}
use Rattle.us_extract.proofs.Orders.{NotBefore, sorted_later, stable_in, stable_back}

-- THE ORDER
abbrev as_tid : SessionName → Tid
as_tid s = record { site = s.site; coord = s.coord; seq = s.number }

less-trans : (a b c : SessionName) → Less a b → Less b c → Less a c
less-trans a b c = tid_less-trans (as_tid a) (as_tid b) (as_tid c)

less-not : (a b : SessionName) → session_less a b ≡ true → session_less b a ≡ false
less-not a b = tid_less-not (as_tid a) (as_tid b)

pub is_session_order : IsStrictWeakOrder session_less
is_session_order = record { one_way = less-not; chain = λ a b c. tid_less-apart (as_tid a) (as_tid b) (as_tid c) }

less-one : (a b : SessionName) → session_less a b ≡ false → session_less b a ≡ false → a ≡ b
less-one a b h k =
    let site = lex-one a.site b.site _ _ h k in
    let coord = lex-one a.coord b.coord _ _ site.1 site.2 in
    let number = equal a.number b.number coord.1 coord.2 in
    λ i. record { site = site.0 i; coord = coord.0 i; number = number i }
  where
    equal : (m n : ℕ) → nat_lt m n ≡ false → nat_lt n m ≡ false → m ≡ n
    equal m n e f = grind (arith, nat_tests)

-- not after: the same, or less
less-or : (y z : SessionName) → session_less z y ≡ false → (y ≡ z) ⊎ Less y z
less-or y z h = on (session_less y z) refl
  where
    on : (b : Bool) → session_less y z ≡ b → (y ≡ z) ⊎ Less y z
    on true e = inr e
    on false e = inl (less-one y z e h)

never-both : (a b : SessionName) → Less a b → Less b a → ⊥
never-both a b h k = true≢false (sym k ∙ less-not a b h)

-- EACH ONCE
once_in : (y : SessionName) (xs : List SessionName) (s : SessionName) → In s (dedup_from session_eq y xs) → In s (y ∷ xs)
once_in y [] s i = i
once_in y (x ∷ xs) s i = on (session_eq x y) i (once_in y xs s) (once_in x xs s)
  where
    on : (b : Bool) → In s (cond b (dedup_from session_eq y xs) (y ∷ dedup_from session_eq x xs)) → (In s (dedup_from session_eq y xs) → In s (y ∷ xs))
        → (In s (dedup_from session_eq x xs) → In s (x ∷ xs)) → In s (y ∷ x ∷ xs)
    on true i same next = ⊎_elim (λ e. inl e) (λ j. inr (inr j)) (same i)
    on false (inl e) same next = inl e
    on false (inr j) same next = inr (next j)

once_keeps : (y : SessionName) (xs : List SessionName) (s : SessionName) → In s (y ∷ xs) → In s (dedup_from session_eq y xs)
once_keeps y [] s i = i
once_keeps y (x ∷ xs) s i = on (session_eq x y) refl i (once_keeps y xs s) (once_keeps x xs s)
  where
    on : (b : Bool) → session_eq x y ≡ b → In s (y ∷ x ∷ xs) → (In s (y ∷ xs) → In s (dedup_from session_eq y xs))
        → (In s (x ∷ xs) → In s (dedup_from session_eq x xs)) → In s (cond b (dedup_from session_eq y xs) (y ∷ dedup_from session_eq x xs))
    on true e (inl k) same next = same (inl k)
    on true e (inr (inl k)) same next = same (inl (sym (session_eq-true x y e) ∙ k))
    on true e (inr (inr j)) same next = same (inr j)
    on false e (inl k) same next = inl k
    on false e (inr j) same next = inr (next j)

once_ascends : (y : SessionName) (xs : List SessionName) → AllLater (NotBefore session_less) (y ∷ xs) → AllLater Less (dedup_from session_eq y xs)
once_ascends y [] h = (tt, tt)
once_ascends y (x ∷ xs) h = on (session_eq x y) refl (once_ascends y xs (h.0.1, h.1.1)) (once_ascends x xs h.1)
  where
    first : session_eq x y ≡ false → Less y x
    first e =
        ⊎_elim (λ k. absurd (true≢false (sym (ap (session_eq x) k ∙ session_eq-same x) ∙ e))) (λ less. less) (less-or y x h.0.0)

    strict : session_eq x y ≡ false → (s : SessionName) → In s (x ∷ xs) → Less y s
    strict e s (inl k) = subst (Less y) k (first e)
    strict e s (inr j) =
        ⊎_elim (λ k. subst (Less y) k (first e)) (λ less. less-trans y x s (first e) less) (less-or x s (all_in (NotBefore session_less x) xs s h.1.0 j))

    on : (b : Bool) → session_eq x y ≡ b → AllLater Less (dedup_from session_eq y xs) → AllLater Less (dedup_from session_eq x xs)
        → AllLater Less (cond b (dedup_from session_eq y xs) (y ∷ dedup_from session_eq x xs))
    on true e same next = same
    on false e same next = (all_from (Less y) (dedup_from session_eq x xs) (λ s i. strict e s (once_in x xs s i)), next)

-- ONE LIST: two that ascend and have the same members are one
first-one : (y z : SessionName) (ys zs : List SessionName) → All (Less y) ys → All (Less z) zs → In z (y ∷ ys) → In y (z ∷ zs) → y ≡ z
first-one y z ys zs h k (inl e) j = e
first-one y z ys zs h k (inr i) (inl e) = sym e
first-one y z ys zs h k (inr i) (inr j) = absurd (never-both y z (all_in (Less y) ys z h i) (all_in (Less z) zs y k j))

behind : (y z s : SessionName) (ys zs : List SessionName) → All (Less y) ys → y ≡ z → In s ys → In s (z ∷ zs) → In s zs
behind y z s ys zs h e i (inl k) =
    let less : Less s s = subst (λ x. Less x s) (e ∙ k) (all_in (Less y) ys s h i) in
    absurd (never-both s s less less)
behind y z s ys zs h e i (inr j) = j

one_ascending : (ys zs : List SessionName) → AllLater Less ys → AllLater Less zs → ((s : SessionName) → In s ys → In s zs)
    → ((s : SessionName) → In s zs → In s ys) → ys ≡ zs
one_ascending [] [] h k forth back = refl
one_ascending [] (z ∷ zs) h k forth back = absurd (back z (inl refl))
one_ascending (y ∷ ys) [] h k forth back = absurd (forth y (inl refl))
one_ascending (y ∷ ys) (z ∷ zs) h k forth back =
    let heads = first-one y z ys zs h.0 k.0 (back z (inl refl)) (forth y (inl refl)) in
    let rest =
    one_ascending ys zs h.1 k.1 (λ s i. behind y z s ys zs h.0 heads i (forth s (inr i)))
    (λ s i. behind z y s zs ys k.0 (sym heads) i (back s (inr i))) in
    λ i. heads i ∷ rest i

-- THE SESSIONS OF COMMITTED TRANSACTIONS
in_with_either : (x s : SessionName) (rs : List SessionName) → In x (with_session s rs) → (s ≡ x) ⊎ In x rs
in_with_either x s [] h = ⊎_elim (λ e. inl e) (λ n. absurd n) h
in_with_either x s (r ∷ rs) h = on (session_less r s) (session_eq r s) h (in_with_either x s rs)
  where
    on : (b q : Bool) → In x (cond b (r ∷ with_session s rs) (cond q (r ∷ rs) (s ∷ r ∷ rs))) → (In x (with_session s rs) → (s ≡ x) ⊎ In x rs)
        → (s ≡ x) ⊎ In x (r ∷ rs)
    on true q (inl e) again = inr (inl e)
    on true q (inr i) again = ⊎_elim (λ e. inl e) (λ j. inr (inr j)) (again i)
    on false true h again = inr h
    on false false (inl e) again = inl e
    on false false (inr i) again = inr i

abbrev session_of : Committed → SessionName
session_of c = c.begun.session

sessions_in : (cs : List Committed) (s : SessionName) → In s (sessions_of cs) → In s (map session_of cs)
sessions_in [] s i = i
sessions_in (c ∷ cs) s i = ⊎_elim (λ e. inl e) (λ j. inr (sessions_in cs s j)) (in_with_either s c.begun.session (sessions_of cs) i)

sessions_keep : (cs : List Committed) (s : SessionName) → In s (map session_of cs) → In s (sessions_of cs)
sessions_keep [] s i = i
sessions_keep (c ∷ cs) s (inl e) = subst (λ x. In x (sessions_of (c ∷ cs))) e (in_with c.begun.session (sessions_of cs))
sessions_keep (c ∷ cs) s (inr i) = in_with_old s c.begun.session (sessions_of cs) (sessions_keep cs s i)

-- a stable sort of them, each once, is these
pub sorted_are_sessions : (cs : List Committed) (ss ys : List SessionName) → IsStableBy session_less (map session_of cs) ss → IsSortedBy session_less ss
    → ys ≡ dedup session_eq ss → ys ≡ sessions_of cs
sorted_are_sessions cs ss ys stable sorted is = is ∙ on ss sorted forth back
  where
    forth : (s : SessionName) → In s ss → In s (sessions_of cs)
    forth s i = sessions_keep cs s (stable_back session_less is_session_order (map session_of cs) ss stable s i)

    back : (s : SessionName) → In s (sessions_of cs) → In s ss
    back s i = stable_in session_less is_session_order (map session_of cs) ss stable s (sessions_in cs s i)

    on : (ts : List SessionName) → IsSortedBy session_less ts → ((s : SessionName) → In s ts → In s (sessions_of cs))
        → ((s : SessionName) → In s (sessions_of cs) → In s ts) → dedup session_eq ts ≡ sessions_of cs
    on [] sorted forth back = one_ascending [] (sessions_of cs) tt (sessions_ascend cs) forth back
    on (y ∷ ts) sorted forth back =
        one_ascending (dedup_from session_eq y ts) (sessions_of cs)
        (once_ascends y ts (sorted_later session_less is_session_order (y ∷ ts) sorted)) (sessions_ascend cs)
        (λ s i. forth s (once_in y ts s i)) (λ s i. once_keeps y ts s (back s i))
