-- What leads to a transaction, and what reaches it.
use Rattle.std.proofs.Common.{◌≡◌, ◌⊎◌, inl, inr, ⊎_elim, ℕ, zero, suc, ◌<◌, List, length, Bool, true, false, ◌&&◌, ◌||◌, refl, sym, ap, ◌∙◌, arith, true≢false}
use Rattle.std.specs.Prelude.{nat_lt, nat_le, not}
use Rattle.std.proofs.lemmas.Bool.{and_parts, and_from, leb-true, le-leb, not-true, lt-ltb}
use Rattle.std.proofs.lemmas.Bool.Decides.{nat_tests}
use Rattle.us_kind.specs.Comparison.{In, tid_eq}
use Rattle.us_kind.proofs.TestLemmas.{tid_eq-true, tid_eq-same}
use Rattle.us_base.specs.Vector.{entry, at_most}
use Rattle.us_base.proofs.Vectors.{at_most-true, at_most-trans}
use Rattle.us_value.specs.declared.operation.Kind.{Kind}
use Rattle.us_exec.specs.declared.Done.{Done}
use Rattle.us_exec.specs.declared.Link.{Link}
use Rattle.us_exec.specs.Past.{session_eq}
use Rattle.us_history.specs.declared.LogTx.{LogTx}
use Rattle.us_history.specs.Histories.{Begun, Committed, History, has_own_vector}
use Rattle.us_history.specs.Pasts.{is_linked, is_earlier, is_in_snapshot, is_step, reaches_within, reaches}
use Rattle.us_snapshots.specs.Snapshots.{GoesOnFrom, IsSnapshotHistory}
use Rattle.us_snapshots.proofs.Tests.{session_eq-true, session_eq-same, or_parts, or_left, or_right, Witness, any-found, found-any}
use Rattle.us_snapshots.proofs.Names.{begun_one}

-- ONE STEP
abbrev pub IsEarlier : Committed → Begun → Type 0
IsEarlier c t = (c.begun.session ≡ t.session) × (c.begun.tid.seq < t.tid.seq)

abbrev pub IsInSnapshot : Committed → Begun → Type 0
IsInSnapshot c t = (has_own_vector c ≡ true) × (at_most c.vector t.snapshot ≡ true)

pub record IsStep (links : List Link) (c : Committed) (t : Begun) : Type 0 where
  pub other : c.begun.tid ≡ t.tid → ⊥
  pub by : GoesOnFrom links t c ⊎ (IsEarlier c t ⊎ IsInSnapshot c t)

ltb-lt : (a b : ℕ) → nat_lt a b ≡ true → a < b
ltb-lt a b h = grind (arith, nat_tests)

not-from : (a : Bool) → (a ≡ true → ⊥) → not a ≡ true
not-from true h = absurd (h refl)
not-from false h = refl

linked-true : (links : List Link) (c : Committed) (t : Begun) → is_linked links c t ≡ true → GoesOnFrom links t c
linked-true links c t h =
    let f = any-found (λ (l : Link). session_eq l.session t.session && (session_eq l.from c.begun.session && nat_le c.number l.count)) links h in
    let e = and_parts _ _ f.passes in
    let g = and_parts _ _ e.1 in
    record { link = f.item; here = f.here; session = session_eq-true _ _ e.0; from = session_eq-true _ _ g.0; count = leb-true _ _ g.1 }

linked-from : (links : List Link) (c : Committed) (t : Begun) → GoesOnFrom links t c → is_linked links c t ≡ true
linked-from links c t g =
    found-any (λ (l : Link). session_eq l.session t.session && (session_eq l.from c.begun.session && nat_le c.number l.count)) links g.link g.here
    (and_from _ _ (ap (λ s. session_eq s t.session) g.session ∙ session_eq-same t.session)
    (and_from _ _ (ap (λ s. session_eq s c.begun.session) g.from ∙ session_eq-same c.begun.session) (le-leb _ _ g.count)))

earlier-true : (c : Committed) (t : Begun) → is_earlier c t ≡ true → IsEarlier c t
earlier-true c t h = let f = and_parts _ _ h in (session_eq-true _ _ f.0, ltb-lt _ _ f.1)

earlier-from : (c : Committed) (t : Begun) → IsEarlier c t → is_earlier c t ≡ true
earlier-from c t h = and_from _ _ (ap (λ s. session_eq s t.session) h.0 ∙ session_eq-same t.session) (lt-ltb _ _ h.1)

pub is_step-true : (links : List Link) (c : Committed) (t : Begun) → is_step links c t ≡ true → IsStep links c t
is_step-true links c t h =
    let e = and_parts _ _ h in
    record {
      other = λ s. true≢false (sym (tid_eq-same t.tid) ∙ sym (ap (λ x. tid_eq x t.tid) s) ∙ not-true _ e.0);
      by = ⊎_elim
          (λ a. inl (linked-true links c t a))
          (λ b. inr (⊎_elim (λ a. inl (earlier-true c t a)) (λ a. inr (and_parts _ _ a)) (or_parts _ _ b)))
          (or_parts _ _ e.1);
    }

pub is_step-from : (links : List Link) (c : Committed) (t : Begun) → IsStep links c t → is_step links c t ≡ true
is_step-from links c t h = and_from _ _ (not-from _ (λ e. h.other (tid_eq-true _ _ e))) (⊎_elim by_link (λ b. ⊎_elim by_session by_vector b) h.by)
  where
    by_link : GoesOnFrom links t c → (is_linked links c t || (is_earlier c t || is_in_snapshot c t)) ≡ true
    by_link a = or_left (is_linked links c t) _ (linked-from links c t a)

    by_session : IsEarlier c t → (is_linked links c t || (is_earlier c t || is_in_snapshot c t)) ≡ true
    by_session a = or_right (is_linked links c t) _ (or_left (is_earlier c t) _ (earlier-from c t a))

    by_vector : IsInSnapshot c t → (is_linked links c t || (is_earlier c t || is_in_snapshot c t)) ≡ true
    by_vector a = or_right (is_linked links c t) _ (or_right (is_earlier c t) _ (and_from _ _ a.0 a.1))

-- an earlier one of its session leads to it
pub earlier_is_step : (links : List Link) (c : Committed) (t : Begun) → IsEarlier c t → IsStep links c t
earlier_is_step links c t e =
    record { other = λ s. let f : c.begun.tid.seq ≡ t.tid.seq = ap (λ x. x.seq) s in let less = e.1 in absurd (omega arith); by = inr (inl e) }

-- MORE STEPS
pub reaches-from : (n : ℕ) (links : List Link) (cs : List Committed) (c : Committed) (t : Begun) → is_step links c t ≡ true → reaches_within n links cs c t ≡ true
reaches-from zero links cs c t h = h
reaches-from (suc n) links cs c t h = or_left _ _ h

-- what leads to one that reaches t
pub record Through (n : ℕ) (links : List Link) (cs : List Committed) (c : Committed) (t : Begun) : Type 0 where
  pub next : Committed
  pub here : In next cs
  pub step : is_step links c next.begun ≡ true
  pub rest : reaches_within n links cs next t ≡ true

-- either the last step, or one more
pub last_or_more : (n : ℕ) (links : List Link) (cs : List Committed) (c : Committed) (t : Begun) → reaches_within (suc n) links cs c t ≡ true
    → (is_step links c t ≡ true) ⊎ Through n links cs c t
last_or_more n links cs c t h = ⊎_elim (λ a. inl a) (λ b. inr (found (any-found _ cs b))) (or_parts _ _ h)
  where
    found : Witness (λ d. is_step links c d.begun && reaches_within n links cs d t) cs → Through n links cs c t
    found f = let e = and_parts _ _ f.passes in record { next = f.item; here = f.here; step = e.0; rest = e.1 }

pub one_more : (n : ℕ) (links : List Link) (cs : List Committed) (c : Committed) (t : Begun) → Through n links cs c t
    → reaches_within (suc n) links cs c t ≡ true
one_more n links cs c t g =
    or_right (is_step links c t) _ (found-any (λ d. is_step links c d.begun && reaches_within n links cs d t) cs g.next g.here (and_from _ _ g.step g.rest))

module _ {spaces : List (ℕ × Kind)} {conflicts : List Done → List Done → Bool} {told : History} {decided : List LogTx}
    (snap : IsSnapshotHistory spaces conflicts told decided) where
  abbrev cs : List Committed
  cs = told.committed

  -- WHAT LEADS TO A TRANSACTION IS AT MOST ITS SNAPSHOT
  pub is_step_below : (c : Committed) (t : Begun) → In c cs → In t told.begun → IsStep told.links c t → at_most c.vector t.snapshot ≡ true
  is_step_below c t i j h =
      ⊎_elim (λ a. snap.snapshots.linked c t i j a) (λ b. ⊎_elim (λ a. snap.snapshots.earlier c t i j a.0 a.1) (λ a. a.1) b) h.by

  -- and so is what reaches it
  pub reaches_below : (n : ℕ) (c : Committed) (t : Begun) → In c cs → In t told.begun → reaches_within n told.links cs c t ≡ true
      → at_most c.vector t.snapshot ≡ true
  reaches_below zero c t i j h = is_step_below c t i j (is_step-true told.links c t h)
  reaches_below (suc n) c t i j h = ⊎_elim
      (λ a. is_step_below c t i j (is_step-true told.links c t a))
      (λ (g : Through n told.links cs c t).
      let d = g.next in
      let to_d = is_step_below c d.begun i (snap.names.begun d g.here) (is_step-true told.links c d.begun g.step) in
      at_most-trans c.vector d.vector t.snapshot
      (at_most-trans c.vector d.begun.snapshot d.vector to_d (snap.vectors d g.here).at_least)
      (reaches_below n d t g.here j g.rest))
      (last_or_more n told.links cs c t h)

  -- a transaction with a vector of its own isn't at most its own snapshot
  pub not_own : (c : Committed) (t : Begun) → In c cs → In t told.begun → has_own_vector c ≡ true → at_most c.vector t.snapshot ≡ true → c.begun.tid ≡ t.tid → ⊥
  not_own c t i j own below e =
      let f = (snap.vectors c i).above own in
      let same = begun_one snap.names c.begun t (snap.names.begun c i) j e in
      let k : entry c.begun.snapshot f.place ≡ entry t.snapshot f.place = ap (λ (x : Begun). entry x.snapshot f.place) same in
      omega (arith, f.less, at_most-true c.vector t.snapshot below f.place)

  -- one with a vector of its own that is at most the snapshot leads
  pub own_is_step : (c : Committed) (t : Begun) → In c cs → In t told.begun → has_own_vector c ≡ true → at_most c.vector t.snapshot ≡ true → IsStep told.links c t
  own_is_step c t i j own below = record { other = not_own c t i j own below; by = inr (inr (own, below)) }

  pub reached_by_own : (c : Committed) (t : Begun) → In c cs → In t told.begun → has_own_vector c ≡ true → at_most c.vector t.snapshot ≡ true
      → reaches told.links cs c t ≡ true
  reached_by_own c t i j own below = reaches-from (length cs) told.links cs c t (is_step-from told.links c t (own_is_step c t i j own below))
