-- To reach goes on from one to the next, however many steps there are: each leads on in arbitration order.
use Rattle.std.proofs.Common.{◌≡◌, ⊎_elim, ℕ, zero, suc, ◌<◌, ◌≤◌, List, length, Bool, true, refl, sym, subst, arith}
use Rattle.std.proofs.lemmas.Bool.{leb-true, le-leb}
use Rattle.us_kind.specs.Comparison.{In}
use Rattle.us_value.specs.declared.operation.Kind.{Kind}
use Rattle.us_exec.specs.declared.Done.{Done}
use Rattle.us_exec.specs.declared.Link.{Link}
use Rattle.us_exec.specs.Past.{count_in, is_before}
use Rattle.us_history.specs.declared.LogTx.{LogTx}
use Rattle.us_history.specs.Histories.{Begun, Committed, History}
use Rattle.us_history.specs.Pasts.{is_step, reaches_within, reaches, past_of}
use Rattle.us_history.specs.Arbitration.{arbitrated}
use Rattle.us_history.specs.Executions.{entry_of}
use Rattle.us_snapshots.specs.Snapshots.{IsSnapshotHistory}
use Rattle.us_snapshots.proofs.Names.{numbered}
use Rattle.us_snapshots.proofs.Counts.{count_of-holds, count_of-found, count_in-counts}
use Rattle.us_snapshots.proofs.Stands.{behind, behind-most}
use Rattle.us_snapshots.proofs.Entries.{arbitrated-length}
use Rattle.us_snapshots.proofs.Pasts.{earlier_is_step, is_step-from, reaches-from, Through, last_or_more, one_more}
use Rattle.us_snapshots.proofs.Order.{seq_order, fewer_behind}

-- WITHIN MORE STEPS
reaches_more : (n m : ℕ) (links : List Link) (cs : List Committed) (c : Committed) (t : Begun) → n ≤ m → reaches_within n links cs c t ≡ true
    → reaches_within m links cs c t ≡ true
reaches_more zero m links cs c t le h = reaches-from m links cs c t h
reaches_more (suc n) zero links cs c t le h = absurd (omega arith)
reaches_more (suc n) (suc m) links cs c t le h = ⊎_elim
    (λ a. reaches-from (suc m) links cs c t a)
    (λ (g : Through n links cs c t).
    one_more m links cs c t (record { next = g.next; here = g.here; step = g.step; rest = reaches_more n m links cs g.next t (omega arith) g.rest }))
    (last_or_more n links cs c t h)

-- one step, and then so many
step_on : (n m : ℕ) (links : List Link) (cs : List Committed) (c d : Committed) (t : Begun) → In d cs → n < m → is_step links c d.begun ≡ true
    → reaches_within n links cs d t ≡ true → reaches_within m links cs c t ≡ true
step_on n zero links cs c d t i less h k = absurd (omega arith)
step_on n (suc m) links cs c d t i less h k =
    one_more m links cs c t (record { next = d; here = i; step = h; rest = reaches_more n m links cs d t (omega arith) k })

-- to d, and from there on
record Reaches (links : List Link) (cs : List Committed) (c : Committed) (t : Begun) : Type 0 where
  steps : ℕ
  reached : reaches_within steps links cs c t ≡ true

joined : (n m : ℕ) (links : List Link) (cs : List Committed) (c d : Committed) (t : Begun) → In d cs → reaches_within n links cs c d.begun ≡ true
    → reaches_within m links cs d t ≡ true → Reaches links cs c t
joined zero m links cs c d t i h k = record { steps = suc m; reached = step_on m (suc m) links cs c d t i (omega arith) h k }
joined (suc n) m links cs c d t i h k = ⊎_elim
    (λ a. record { steps = suc m; reached = step_on m (suc m) links cs c d t i (omega arith) a k })
    (λ (g : Through n links cs c d.begun).
    let r = joined n m links cs g.next d t i g.rest k in
    record { steps = suc r.steps; reached = one_more r.steps links cs c t (record { next = g.next; here = g.here; step = g.step; rest = r.reached }) })
    (last_or_more n links cs c d.begun h)

module _ {spaces : List (ℕ × Kind)} {conflicts : List Done → List Done → Bool} {told : History} {decided : List LogTx}
    (snap : IsSnapshotHistory spaces conflicts told decided) where
  abbrev cs : List Committed
  cs = told.committed

  -- AS MANY STEPS AS STAND BEHIND are enough
  few_steps : (n : ℕ) (c : Committed) (t : Begun) → In c cs → reaches_within n told.links cs c t ≡ true
      → reaches_within (behind c.begun.tid (arbitrated cs)) told.links cs c t ≡ true
  few_steps zero c t i h = reaches-from (behind c.begun.tid (arbitrated cs)) told.links cs c t h
  few_steps (suc n) c t i h = ⊎_elim
      (λ a. reaches-from (behind c.begun.tid (arbitrated cs)) told.links cs c t a)
      (λ (g : Through n told.links cs c t).
      let less = fewer_behind snap c g.next i g.here g.step in
      step_on (behind g.next.begun.tid (arbitrated cs)) (behind c.begun.tid (arbitrated cs)) told.links cs c g.next t g.here less g.step
      (few_steps n g.next t g.here g.rest))
      (last_or_more n told.links cs c t h)

  all_steps : (n : ℕ) (c : Committed) (t : Begun) → In c cs → reaches_within n told.links cs c t ≡ true → reaches told.links cs c t ≡ true
  all_steps n c t i h =
      let most = behind-most c.begun.tid (arbitrated cs) in
      let same = arbitrated-length cs in
      reaches_more (behind c.begun.tid (arbitrated cs)) (length cs) told.links cs c t (omega arith) (few_steps n c t i h)

  -- FROM ONE TO THE NEXT
  pub reaches_further : (c d : Committed) (t : Begun) → In c cs → In d cs → reaches told.links cs c d.begun ≡ true → reaches told.links cs d t ≡ true
      → reaches told.links cs c t ≡ true
  reaches_further c d t i j h k = let r = joined (length cs) (length cs) told.links cs c d t j h k in all_steps r.steps c t i r.reached

  -- an earlier one of the session reaches what a later one does
  earlier_reaches : (c d : Committed) (t : Begun) → In c cs → In d cs → c.begun.session ≡ d.begun.session → c.number ≤ d.number
      → reaches told.links cs d t ≡ true → reaches told.links cs c t ≡ true
  earlier_reaches c d t i j same le h = ⊎_elim
      (λ one. subst (λ (x : Committed). reaches told.links cs x t ≡ true) (sym one) h)
      (λ less.
      let step = is_step-from told.links c d.begun (earlier_is_step told.links c d.begun (same, less)) in
      reaches_further c d t i j (reaches-from (length cs) told.links cs c d.begun step) h)
      (seq_order snap c d i j same le)

  -- BEFORE, of entries, is what reaches
  pub before-by : (c : Committed) (t : Begun) → In c cs → In t told.begun → is_before (entry_of (past_of told) c) (past_of told t) ≡ true
      → reaches told.links cs c t ≡ true
  before-by c t i j h =
      let s = c.begun.session in
      let le = leb-true c.number (count_in s (past_of told t)) h in
      let is = count_in-counts (λ x. reaches told.links cs x t) cs s in
      let f = count_of-found (λ x. reaches told.links cs x t) s cs c.number (numbered snap.names c i).0 (omega arith) in
      earlier_reaches c f.by t i f.here (sym f.session) f.number f.passes

pub before-from : (told : History) (c : Committed) (t : Begun) → In c told.committed → reaches told.links told.committed c t ≡ true
    → is_before (entry_of (past_of told) c) (past_of told t) ≡ true
before-from told c t i h =
    let s = c.begun.session in
    let cs = told.committed in
    let is = count_in-counts (λ x. reaches told.links cs x t) cs s in
    let k = count_of-holds (λ x. reaches told.links cs x t) s cs c i refl h in
    le-leb c.number (count_in s (past_of told t)) (omega arith)
