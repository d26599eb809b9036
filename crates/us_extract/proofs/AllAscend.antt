-- A history that passes the test ascends.
use Rattle.std.proofs.Common.{◌≡◌, ◌∙◌, inl, inr, ◌<◌, List, [], ◌∷◌, length, Bool, true, false, refl, arith, sym, ap, true≢false}
use Rattle.std.specs.Prelude.{◌&&◌, ◌||◌, not, nat_lt}
use Rattle.std.specs.List.{list_all}
use Rattle.std.proofs.lemmas.Bool.{and_parts, eqb-true, lt-ltb, ltb-true}
use Rattle.us_kind.specs.Comparison.{In, tid_eq}
use Rattle.us_kind.proofs.TestLemmas.{tid_eq-same}
use Rattle.us_base.specs.Vector.{at_most}
use Rattle.us_exec.specs.Past.{session_eq}
use Rattle.us_history.specs.Histories.{Begun, Committed, History, has_own_vector}
use Rattle.us_snapshots.specs.Ascending.{Ascends, IsNotInItsOwn}
use Rattle.us_snapshots.proofs.Tests.{session_eq-same}
use Rattle.us_extract.specs.AscendingCheck.{ascend_by_number, stays_out, all_stay_out, ascends}

-- a list without items
no-items : {X : Type 0} (xs : List X) → length xs ≡ 0 → xs ≡ []
no-items [] h = refl
no-items (x ∷ xs) h = absurd (omega arith)

-- one of all that pass
all-pass : {X : Type 0} (test : X → Bool) (xs : List X) (x : X) → list_all test xs ≡ true → In x xs → test x ≡ true
all-pass test [] x h i = absurd i
all-pass test (y ∷ xs) x h (inl e) = sym (ap test e) ∙ (and_parts _ _ h).0
all-pass test (y ∷ xs) x h (inr i) = all-pass test xs x (and_parts _ _ h).1 i

-- two of a session
both-ascend : (c d : Committed) → ascend_by_number c d ≡ true → c.begun.session ≡ d.begun.session → c.number < d.number
    → (c.begun.tid.seq < d.begun.tid.seq) × (at_most c.vector d.vector ≡ true)
both-ascend c d h same less =
    on (session_eq c.begun.session d.begun.session) (ap (λ s. session_eq s d.begun.session) same ∙ session_eq-same d.begun.session)
    (nat_lt c.number d.number) (lt-ltb _ _ less) h
  where
    on : (s : Bool) → s ≡ true → (n : Bool) → n ≡ true
        → (not (s && n) || (nat_lt c.begun.tid.seq d.begun.tid.seq && at_most c.vector d.vector)) ≡ true
        → (c.begun.tid.seq < d.begun.tid.seq) × (at_most c.vector d.vector ≡ true)
    on true e true f h = let p = and_parts _ _ h in (ltb-true _ _ p.0, p.1)
    on true e false f h = absurd (true≢false (sym f))
    on false e n f h = absurd (true≢false (sym e))

-- none is in its own snapshot
stay-out : (cs : List Committed) (t : Begun) → all_stay_out cs t ≡ true → IsNotInItsOwn cs t
stay-out cs t h c i stamped below same =
    on (tid_eq c.begun.tid t.tid) (ap (λ x. tid_eq x t.tid) same ∙ tid_eq-same t.tid) (has_own_vector c) stamped (at_most c.vector t.snapshot) below
    (all-pass (λ x. stays_out t x) cs c h i)
  where
    on : (a : Bool) → a ≡ true → (u : Bool) → u ≡ true → (m : Bool) → m ≡ true → (not a || not (u && m)) ≡ true → ⊥
    on true e true f true g h = true≢false (sym h)
    on false e u f m g h = true≢false (sym e)
    on true e false f m g h = true≢false (sym f)
    on true e true f false g h = true≢false (sym g)

pub ascends-holds : (h : History) → ascends h ≡ true → Ascends h
ascends-holds h e =
    let u = and_parts _ _ e in
    let p = and_parts _ _ u.1 in
    let q = and_parts _ _ p.1 in
    let pair =
    λ (c d : Committed) (i : In c h.committed) (j : In d h.committed). both-ascend c d
    (all-pass (λ x. ascend_by_number c x) h.committed d (all-pass (λ x. list_all (λ y. ascend_by_number x y) h.committed) h.committed c p.0 i) j)
    in
    record {
      unlinked = no-items h.links (eqb-true _ _ u.0);
      sessions = record { seqs = λ c d i j same less. (pair c d i j same less).0; vectors = λ c d i j same less. (pair c d i j same less).1 };
      committed = λ d i. stay-out h.committed d.begun (all-pass (λ (x : Committed). all_stay_out h.committed x.begun) h.committed d q.0 i);
      begun = λ t i. stay-out h.committed t (all-pass (λ x. all_stay_out h.committed x) h.begun t q.1 i);
    }
