-- A snapshot history's execution has the pasts that are counted in one step.
use Rattle.std.proofs.Common.{◌≡◌, ◌⊎◌, inl, inr, ⊎_elim, ℕ, zero, suc, ◌≤◌, List, [], ◌∷◌, length, Bool, true, false, refl, sym, ap, ◌∙◌, subst, arith, cond}
use Rattle.std.proofs.Common.{true≢false}
use Rattle.us_kind.specs.Comparison.{In}
use Rattle.us_value.specs.declared.operation.Kind.{Kind}
use Rattle.us_exec.specs.declared.SessionName.{SessionName}
use Rattle.us_exec.specs.declared.Done.{Done}
use Rattle.us_exec.specs.declared.Count.{Count}
use Rattle.us_exec.specs.declared.Link.{Link}
use Rattle.us_exec.specs.Past.{count_in}
use Rattle.us_history.specs.declared.LogTx.{LogTx}
use Rattle.us_history.specs.Histories.{Begun, Committed, History, ops_of, is_committed, has_own_vector}
use Rattle.us_history.specs.Pasts.{count_of, with_count, counts_of, sessions_of, reaches_within, reaches, is_step, past_of, direct_past}
use Rattle.us_history.specs.Arbitration.{arbitrated}
use Rattle.us_history.specs.Executions.{entry_of, entries_of, end_of, loose_one, loose_of, execution_by}
use Rattle.us_snapshots.specs.Snapshots.{IsSnapshotHistory}
use Rattle.us_snapshots.proofs.Names.{numbers}
use Rattle.us_snapshots.proofs.Counts.{count_of-le, count_in-counts}
use Rattle.us_snapshots.proofs.Pasts.{IsEarlier, IsInSnapshot, IsStep, is_step-true, is_step-from, reaches-from, Through, last_or_more, reaches_below, own_is_step}
use Rattle.us_snapshots.proofs.Entries.{in_arbitrated}

-- counts that are equal session by session
counts-same : (p q : Committed → Bool) (cs : List Committed) → ((s : SessionName) → count_of p s cs ≡ count_of q s cs)
    → (ss : List SessionName) → counts_of p cs ss ≡ counts_of q cs ss
counts-same p q cs h [] = refl
counts-same p q cs h (s ∷ ss) = ap (λ n. with_count s n (counts_of p cs ss)) (h s) ∙ ap (with_count s (count_of q s cs)) (counts-same p q cs h ss)

-- entries whose pasts are equal
entries-same : (p q : Begun → List Count) (cs : List Committed) → ((c : Committed) → In c cs → p c.begun ≡ q c.begun) → entries_of p cs ≡ entries_of q cs
entries-same p q [] h = refl
entries-same p q (c ∷ cs) h = λ i. one (h c (inl refl)) i ∷ entries-same p q cs (λ d k. h d (inr k)) i
  where
    one : p c.begun ≡ q c.begun → entry_of p c ≡ entry_of q c
    one e = λ i. record { tid = c.begun.tid; session = c.begun.session; number = c.number; strong = c.strong; ops = c.ops; past = e i }

-- loose transactions whose pasts are equal
loose-same : (p q : Begun → List Count) (h : History) (bs : List Begun) → ((b : Begun) → In b bs → p b ≡ q b) → loose_of p h bs ≡ loose_of q h bs
loose-same p q h [] f = refl
loose-same p q h (b ∷ bs) f = on (is_committed b.tid h.committed) (one (f b (inl refl))) (loose-same p q h bs (λ d k. f d (inr k)))
  where
    one : p b ≡ q b → loose_one p h b ≡ loose_one q h b
    one e = λ i. record { tid = b.tid; session = b.session; end = end_of b.tid h.aborted h.left; ops = ops_of b.tid h.performed; past = e i }

    on : (t : Bool) → loose_one p h b ≡ loose_one q h b → loose_of p h bs ≡ loose_of q h bs
        → cond t (loose_of p h bs) (loose_one p h b ∷ loose_of p h bs) ≡ cond t (loose_of q h bs) (loose_one q h b ∷ loose_of q h bs)
    on true e k = k
    on false e k = λ i. e i ∷ k i

-- where no session goes on from another one, these lead
unlinked_by : (links : List Link) (c : Committed) (t : Begun) → links ≡ [] → IsStep links c t → IsEarlier c t ⊎ IsInSnapshot c t
unlinked_by links c t none h = ⊎_elim (λ a. absurd (subst (In a.link) none a.here)) (λ b. b) h.by

-- BEFORE, IN ONE STEP: a transaction of the same session, this one or a later, leads to t
record BeforeBy (links : List Link) (cs : List Committed) (c : Committed) (t : Begun) : Type 0 where
  by : Committed
  here : In by cs
  session : by.begun.session ≡ c.begun.session
  number : c.number ≤ by.number
  step : is_step links by t ≡ true

module _ {spaces : List (ℕ × Kind)} {conflicts : List Done → List Done → Bool} {told : History} {decided : List LogTx}
    (snap : IsSnapshotHistory spaces conflicts told decided) where
  abbrev cs : List Committed
  cs = told.committed

  module _ (none : told.links ≡ []) where
    itself : (c : Committed) (t : Begun) → In c cs → is_step told.links c t ≡ true → BeforeBy told.links cs c t
    itself c t i h = record { by = c; here = i; session = refl; number = omega arith; step = h }

    -- through an earlier one of the session what that one is before in one step
    through : (n : ℕ) (c : Committed) (t : Begun) → In c cs → has_own_vector c ≡ false → (g : Through n told.links cs c t) → BeforeBy told.links cs g.next t
        → BeforeBy told.links cs c t
    through n c t i own g b = ⊎_elim
        (λ a.
        let less = numbers snap.names c g.next i g.here a.0 a.1 in
        let k = b.number in
        record { by = b.by; here = b.here; session = b.session ∙ sym a.0; number = omega arith; step = b.step })
        (λ a. absurd (true≢false (sym a.0 ∙ own)))
        (unlinked_by told.links c g.next.begun none (is_step-true told.links c g.next.begun g.step))

    -- what reaches a transaction is before it in one step
    direct : (n : ℕ) (c : Committed) (t : Begun) → In c cs → In t told.begun → reaches_within n told.links cs c t ≡ true → BeforeBy told.links cs c t
    direct zero c t i j h = itself c t i h
    direct (suc n) c t i j h =
        ⊎_elim (λ a. itself c t i a) (λ g. on g (direct n g.next t g.here j g.rest) (has_own_vector c) refl) (last_or_more n told.links cs c t h)
      where
        on : (g : Through n told.links cs c t) → BeforeBy told.links cs g.next t → (b : Bool) → has_own_vector c ≡ b → BeforeBy told.links cs c t
        on g before true own = itself c t i (is_step-from told.links c t (own_is_step snap c t i j own (reaches_below snap (suc n) c t i j h)))
        on g before false own = through n c t i own g before

    -- so what reaches it counts as what leads to it
    counted_directly : (s : SessionName) (t : Begun) → In t told.begun
        → count_of (λ c. reaches told.links cs c t) s cs ≡ count_of (λ c. is_step told.links c t) s cs
    counted_directly s t j =
        let more = count_of-le (λ c. reaches told.links cs c t) (λ c. is_step told.links c t) s cs
        (λ c i e r. let d = direct (length cs) c t i j r in record { by = d.by; here = d.here; session = d.session ∙ e; passes = d.step; number = d.number }) in
        let less = count_of-le (λ c. is_step told.links c t) (λ c. reaches told.links cs c t) s cs
        (λ c i e r. record { by = c; here = i; session = e; passes = reaches-from (length cs) told.links cs c t r; number = omega arith }) in
        omega arith

    -- a past's count of a session is that of one step
    pub past-counts : (s : SessionName) (t : Begun) → In t told.begun → count_in s (past_of told t) ≡ count_of (λ c. is_step told.links c t) s cs
    past-counts s t j = count_in-counts (λ c. reaches told.links cs c t) cs s ∙ counted_directly s t j

    past-same : (t : Begun) → In t told.begun → past_of told t ≡ direct_past told t
    past-same t j = counts-same (λ c. reaches told.links cs c t) (λ c. is_step told.links c t) cs (λ s. counted_directly s t j) (sessions_of cs)

    pub execution-same : execution_by past_of told ≡ execution_by direct_past told
    execution-same =
        let entries = entries-same (past_of told) (direct_past told) (arbitrated cs)
        (λ c k. past-same c.begun (snap.names.begun c (in_arbitrated c cs k))) in
        let loose = loose-same (past_of told) (direct_past told) told told.begun past-same in
        λ i. record { entries = entries i; loose = loose i; links = told.links }
