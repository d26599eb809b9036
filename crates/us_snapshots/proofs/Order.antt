-- The order of a session's transactions, and of those that are before others.
use Rattle.std.proofs.Common.{◌≡◌, ◌⊎◌, inl, inr, ⊎_elim, ℕ, zero, suc, ◌<◌, ◌≤◌, List, Bool, true, false, refl, sym, ap, ◌∙◌, arith}
use Rattle.std.specs.Prelude.{nat_lt}
use Rattle.std.proofs.lemmas.Bool.Decides.{nat_tests}
use Rattle.us_kind.specs.Comparison.{In, lex, tid_less}
use Rattle.us_kind.specs.declared.identity.Tid.{Tid}
use Rattle.us_base.specs.Vector.{at_most, sum_of}
use Rattle.us_base.proofs.Vectors.{at_most-true, sum-at_most, sum-below}
use Rattle.us_value.specs.declared.operation.Kind.{Kind}
use Rattle.us_exec.specs.declared.SessionName.{SessionName}
use Rattle.us_exec.specs.declared.Done.{Done}
use Rattle.us_exec.specs.WellFormed.{IsOfCoordinator}
use Rattle.us_history.specs.declared.LogTx.{LogTx}
use Rattle.us_history.specs.Histories.{Committed, History, has_own_vector}
use Rattle.us_history.specs.Pasts.{is_step, reaches_within}
use Rattle.us_history.specs.Arbitration.{ties, precedes, arbitrated}
use Rattle.us_snapshots.specs.Snapshots.{GoesOnFrom, IsSnapshotHistory}
use Rattle.us_snapshots.proofs.Stands.{StandsEarlier, one_earlier, earlier_later, TidsApart, stands_further, behind, behind-less}
use Rattle.us_snapshots.proofs.Names.{decided_one, stands, numbers}
use Rattle.us_snapshots.proofs.Entries.{arbitrated_holds, arbitrated-sorted, arbitrated_apart, precedes_stands, stands_arbitrated}
use Rattle.us_snapshots.proofs.Pasts.{IsEarlier, IsInSnapshot, IsStep, is_step-true, Through, last_or_more}

-- NUMBERS
compare : (a b : ℕ) → (a < b) ⊎ ((b < a) ⊎ (a ≡ b))
compare a b = on (nat_lt a b) refl (nat_lt b a) refl
  where
    less : (a b : ℕ) → nat_lt a b ≡ true → a < b
    less a b e = grind (arith, nat_tests)

    equal : (a b : ℕ) → nat_lt a b ≡ false → nat_lt b a ≡ false → a ≡ b
    equal a b e f = grind (arith, nat_tests)

    on : (x : Bool) → nat_lt a b ≡ x → (y : Bool) → nat_lt b a ≡ y → (a < b) ⊎ ((b < a) ⊎ (a ≡ b))
    on true e y f = inl (less a b e)
    on false e true f = inr (inl (less b a f))
    on false e false f = inr (inr (equal a b e f))

lex-first : (a b : ℕ) (r : Bool) → a < b → lex a b r ≡ true
lex-first a b r h = grind (arith, nat_tests)

lex-tie : (a b : ℕ) (r : Bool) → a ≤ b → r ≡ true → lex a b r ≡ true
lex-tie a b r h e = grind (arith, nat_tests)

lex-none : (a b : ℕ) (r : Bool) → b ≤ a → r ≡ false → lex a b r ≡ false
lex-none a b r h e = grind (arith, nat_tests)

lex-past : (a b : ℕ) (r : Bool) → b < a → lex a b r ≡ false
lex-past a b r h = grind (arith, nat_tests)

-- one name, of two transactions of one session with one number
same_tid : (b c : Tid) (s t : SessionName) → IsOfCoordinator b s → IsOfCoordinator c t → s ≡ t → b.seq ≡ c.seq → b ≡ c
same_tid b c s t f g e seq =
    let site : b.site ≡ c.site = f.site ∙ ap (λ (x : SessionName). x.site) e ∙ sym g.site in
    let coord : b.coord ≡ c.coord = f.coord ∙ ap (λ (x : SessionName). x.coord) e ∙ sym g.coord in
    λ k. record { site = site k; coord = coord k; seq = seq k }

module _ {spaces : List (ℕ × Kind)} {conflicts : List Done → List Done → Bool} {told : History} {decided : List LogTx}
    (snap : IsSnapshotHistory spaces conflicts told decided) where
  abbrev cs : List Committed
  cs = told.committed

  -- A SESSION'S ORDER
  same_seq : (c d : Committed) → In c cs → In d cs → c.begun.session ≡ d.begun.session → c.begun.tid.seq ≡ d.begun.tid.seq → c ≡ d
  same_seq c d i j e seq =
      let f = snap.names.coordinators c.begun (snap.names.begun c i) in
      let g = snap.names.coordinators d.begun (snap.names.begun d j) in
      decided_one snap.names c d i j (same_tid c.begun.tid d.begun.tid c.begun.session d.begun.session f g e seq)

  -- the one with the lesser number was begun first
  pub seq_order : (c d : Committed) → In c cs → In d cs → c.begun.session ≡ d.begun.session → c.number ≤ d.number
      → (c ≡ d) ⊎ (c.begun.tid.seq < d.begun.tid.seq)
  seq_order c d i j e le = ⊎_elim
      (λ a. inr a)
      (λ b. ⊎_elim
      (λ a. absurd (let less = numbers snap.names d c j i (sym e) a in omega arith))
      (λ s. inl (same_seq c d i j e s))
      b)
      (compare c.begun.tid.seq d.begun.tid.seq)

  -- the snapshot covers what the session committed before
  covered : (c d : Committed) → In c cs → In d cs → c.begun.session ≡ d.begun.session → c.begun.tid.seq < d.begun.tid.seq
      → at_most c.vector d.begun.snapshot ≡ true
  covered c d i j e less = snap.snapshots.earlier c d.begun i (snap.names.begun d j) e less

  -- WHAT IS BEFORE STANDS EARLIER
  -- of a transaction whose snapshot is above v
  sum_snapshot : (c : Committed) → In c cs → (v : List ℕ) → at_most v c.begun.snapshot ≡ true
      → (sum_of v ≤ sum_of c.vector) × (has_own_vector c ≡ true → sum_of v < sum_of c.vector)
  sum_snapshot c i v h =
      let f = snap.vectors c i in
      let grows = at_most-true c.begun.snapshot c.vector f.at_least in
      let a = sum-at_most v c.begun.snapshot (at_most-true v c.begun.snapshot h) in
      let b = sum-at_most c.begun.snapshot c.vector grows in
      (omega arith, λ own. let g = f.above own in let k = sum-below c.begun.snapshot c.vector grows g.place g.less in omega arith)

  pub not_preceding : (c d : Committed) → In d cs → at_most c.vector d.begun.snapshot ≡ true → precedes d c ≡ false
  not_preceding c d j h = on (has_own_vector d) refl
    where
      sums : (sum_of c.vector ≤ sum_of d.vector) × (has_own_vector d ≡ true → sum_of c.vector < sum_of d.vector)
      sums = sum_snapshot d j c.vector h

      on : (b : Bool) → has_own_vector d ≡ b → precedes d c ≡ false
      on true e = lex-past (sum_of d.vector) (sum_of c.vector) _ (sums.1 e)
      on false e = lex-none (sum_of d.vector) (sum_of c.vector) _ sums.0 (ap (λ x. ties x (has_own_vector c) (tid_less d.begun.tid c.begun.tid)) e)

  preceding : (c d : Committed) → In d cs → has_own_vector c ≡ true → at_most c.vector d.begun.snapshot ≡ true → precedes c d ≡ true
  preceding c d j own h = on (has_own_vector d) refl
    where
      sums : (sum_of c.vector ≤ sum_of d.vector) × (has_own_vector d ≡ true → sum_of c.vector < sum_of d.vector)
      sums = sum_snapshot d j c.vector h

      on : (b : Bool) → has_own_vector d ≡ b → precedes c d ≡ true
      on true e = lex-first (sum_of c.vector) (sum_of d.vector) _ (sums.1 e)
      on false e = lex-tie (sum_of c.vector) (sum_of d.vector) _ sums.0 (λ k. ties (own k) (e k) (tid_less c.begun.tid d.begun.tid))

  -- ONE STEP LEADS ON in arbitration order
  abbrev es : List Committed
  es = arbitrated cs

  es_apart : TidsApart es
  es_apart = arbitrated_apart cs snap.names.decided_once

  -- by a link: it was decided before
  link_stands : (c d : Committed) → In c cs → In d cs → (c.begun.tid ≡ d.begun.tid → ⊥) → GoesOnFrom told.links d.begun c → StandsEarlier c d es
  link_stands c d i j other g = stands_arbitrated c d cs first (not_preceding c d j (snap.snapshots.linked c d.begun i (snap.names.begun d j) g))
    where
      first : StandsEarlier c d cs
      first = ⊎_elim
          (λ one. absurd (other (ap (λ (x : Committed). x.begun.tid) one)))
          (λ two. ⊎_elim
          (λ h. h)
          (λ h. absurd (earlier_later (λ (x y : Committed). GoesOnFrom told.links x.begun y → ⊥) d c cs snap.links.first h g))
          two)
          (one_earlier c d cs i j)

  step_stands : (c d : Committed) → In c cs → In d cs → IsStep told.links c d.begun → StandsEarlier c d es
  step_stands c d i j h = ⊎_elim (λ a. link_stands c d i j h.other a) (λ b. ⊎_elim by_session by_vector b) h.by
    where
      by_session : IsEarlier c d.begun → StandsEarlier c d es
      by_session a = stands_arbitrated c d cs (stands snap.names c d i j a.0 a.1) (not_preceding c d j (covered c d i j a.0 a.1))

      by_vector : IsInSnapshot c d.begun → StandsEarlier c d es
      by_vector a = precedes_stands c d es (arbitrated-sorted cs) (arbitrated_holds c cs i) (arbitrated_holds d cs j) (preceding c d j a.0 a.1)

  -- and so do more
  pub reaches_stands : (n : ℕ) (c d : Committed) → In c cs → In d cs → reaches_within n told.links cs c d.begun ≡ true → StandsEarlier c d es
  reaches_stands zero c d i j h = step_stands c d i j (is_step-true told.links c d.begun h)
  reaches_stands (suc n) c d i j h = ⊎_elim
      (λ a. step_stands c d i j (is_step-true told.links c d.begun a))
      (λ (g : Through n told.links cs c d.begun).
      let to_next = step_stands c g.next i g.here (is_step-true told.links c g.next.begun g.step) in
      stands_further c g.next d es es_apart to_next (reaches_stands n g.next d g.here j g.rest))
      (last_or_more n told.links cs c d.begun h)

  -- so that there are fewer behind the next
  pub fewer_behind : (c d : Committed) → In c cs → In d cs → is_step told.links c d.begun ≡ true → behind d.begun.tid es < behind c.begun.tid es
  fewer_behind c d i j h = behind-less c d es es_apart (step_stands c d i j (is_step-true told.links c d.begun h))
