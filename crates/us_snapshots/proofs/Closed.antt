-- The execution of a snapshot history is closed and ordered.
use Rattle.std.proofs.Common.{◌≡◌, ◌⊎◌, inl, inr, ⊎_elim, ℕ, ◌<◌, ◌≤◌, List, length, Bool, true, false, sym, ap, ◌∙◌, subst, arith, true≢false}
use Rattle.us_kind.specs.Comparison.{In, tid_eq}
use Rattle.us_kind.proofs.TestLemmas.{tid_eq-same}
use Rattle.us_base.specs.Vector.{at_most}
use Rattle.us_value.specs.declared.operation.Kind.{Kind}
use Rattle.us_exec.specs.declared.Done.{Done}
use Rattle.us_exec.specs.declared.Count.{Count}
use Rattle.us_exec.specs.declared.Entry.{Entry}
use Rattle.us_exec.specs.declared.Loose.{Loose}
use Rattle.us_exec.specs.declared.Link.{Link}
use Rattle.us_exec.specs.Past.{is_before}
use Rattle.us_exec.specs.Consistency.{IsClosedPast, StandsBefore, IsClosed, IsOrdered}
use Rattle.us_exec.specs.Conflict.{Declared, conflict}
use Rattle.us_history.specs.declared.LogTx.{LogTx}
use Rattle.us_history.specs.Histories.{Begun, Committed, History, has_own_vector}
use Rattle.us_history.specs.Pasts.{past_of}
use Rattle.us_history.specs.Arbitration.{arbitrated}
use Rattle.us_history.specs.Executions.{entry_of, entries_of, execution_by}
use Rattle.us_snapshots.specs.Snapshots.{GoesOnFrom, IsSnapshotHistory}
use Rattle.us_snapshots.proofs.Tests.{or_left}
use Rattle.us_snapshots.proofs.Sources.{from_entry, from_loose, entries_stand}
use Rattle.us_snapshots.proofs.Entries.{in_arbitrated}
use Rattle.us_snapshots.proofs.Pasts.{is_step-from, earlier_is_step, reaches-from, reached_by_own}
use Rattle.us_snapshots.proofs.Order.{seq_order, reaches_stands}
use Rattle.us_snapshots.proofs.Reached.{reaches_further, before-by, before-from}

module _ {spaces : List (ℕ × Kind)} {conflicts : List Done → List Done → Bool} {told : History} {decided : List LogTx}
    (snap : IsSnapshotHistory spaces conflicts told decided) where
  abbrev cs : List Committed
  cs = told.committed

  abbrev pub past : Begun → List Count
  past = past_of told

  -- THE COMMITTED TRANSACTION OF AN ENTRY
  pub record OfEntry (e : Entry) : Type 0 where
    pub source : Committed
    pub here : In source cs
    pub begun : In source.begun told.begun
    pub is : entry_of past source ≡ e

  pub of_entry : (e : Entry) → In e (execution_by past_of told).entries → OfEntry e
  of_entry e i =
      let f = from_entry past (arbitrated cs) e i in
      let here = in_arbitrated f.source cs f.here in
      record { source = f.source; here = here; begun = snap.names.begun f.source here; is = f.is }

  -- what is before of entries is so of their transactions
  is_before_by : (d : Entry) (f : OfEntry d) (t : Begun) → is_before d (past t) ≡ true → is_before (entry_of past f.source) (past t) ≡ true
  is_before_by d f t h = ap (λ x. is_before x (past t)) f.is ∙ h

  is_before_from : (d : Entry) (f : OfEntry d) (t : Begun) → is_before (entry_of past f.source) (past t) ≡ true → is_before d (past t) ≡ true
  is_before_from d f t h = ap (λ x. is_before x (past t)) (sym f.is) ∙ h

  past_is : (e : Entry) (g : OfEntry e) → e.past ≡ past g.source.begun
  past_is e g = ap (λ (x : Entry). x.past) (sym g.is)

  -- of a session
  pub same_session : (d e : Entry) (f : OfEntry d) (g : OfEntry e) → d.session ≡ e.session → f.source.begun.session ≡ g.source.begun.session
  same_session d e f g same = ap (λ (x : Entry). x.session) f.is ∙ same ∙ sym (ap (λ (x : Entry). x.session) g.is)

  begun_before : (d e : Entry) (f : OfEntry d) (g : OfEntry e) → d.session ≡ e.session → d.number < e.number → f.source.begun.tid.seq < g.source.begun.tid.seq
  begun_before d e f g same less =
      let n : f.source.number ≡ d.number = ap (λ (x : Entry). x.number) f.is in
      let m : g.source.number ≡ e.number = ap (λ (x : Entry). x.number) g.is in
      ⊎_elim
      (λ k. absurd (let u : f.source.number ≡ g.source.number = ap (λ (x : Committed). x.number) k in omega arith))
      (λ k. k)
      (seq_order snap f.source g.source f.here g.here (same_session d e f g same) (omega arith))

  -- CLOSED
  further : (d e : Entry) → In d (execution_by past_of told).entries → In e (execution_by past_of told).entries → (t : Begun) → In t told.begun
      → is_before d e.past ≡ true → is_before e (past t) ≡ true → is_before d (past t) ≡ true
  further d e i j t k a b =
      let f = of_entry d i in
      let g = of_entry e j in
      let to_e = before-by snap f.source g.source.begun f.here g.begun (is_before_by d f g.source.begun (ap (is_before d) (sym (past_is e g)) ∙ a)) in
      let to_t = before-by snap g.source t g.here k (is_before_by e g t b) in
      is_before_from d f t (before-from told f.source t f.here (reaches_further snap f.source g.source t f.here g.here to_e to_t))

  -- what its session goes on from
  linked_before : (t : Begun) → In t told.begun → (l : Link) (e : Entry) → In l told.links → In e (execution_by past_of told).entries
      → l.session ≡ t.session → e.session ≡ l.from → e.number ≤ l.count → is_before e (past t) ≡ true
  linked_before t k l e i j session from count =
      let g = of_entry e j in
      let n : g.source.number ≡ e.number = ap (λ (x : Entry). x.number) g.is in
      let goes : GoesOnFrom told.links t g.source = record {
        link = l;
        here = i;
        session = session;
        from = sym (ap (λ (x : Entry). x.session) g.is ∙ from);
        count = omega arith;
      } in
      let step = is_step-from told.links g.source t (record { other = snap.links.other g.source t g.here k goes; by = inl goes }) in
      is_before_from e g t (before-from told g.source t g.here (reaches-from (length cs) told.links cs g.source t step))

  closed_past : (t : Begun) → In t told.begun → IsClosedPast (execution_by past_of told) t.session (past t)
  closed_past t k = record { linked = linked_before t k; closed = λ d e i j a b. further d e i j t k a b }

  -- what its session committed before
  earlier_before : (c : Committed) (t : Begun) → In c cs → c.begun.session ≡ t.session → c.begun.tid.seq < t.tid.seq
      → is_before (entry_of past c) (past t) ≡ true
  earlier_before c t i same less =
      let step = is_step-from told.links c t (earlier_is_step told.links c t (same, less)) in
      before-from told c t i (reaches-from (length cs) told.links cs c t step)

  in_session : (d e : Entry) → In d (execution_by past_of told).entries → In e (execution_by past_of told).entries
      → d.session ≡ e.session → d.number < e.number → is_before d e.past ≡ true
  in_session d e i j same less =
      let f = of_entry d i in
      let g = of_entry e j in
      let before = earlier_before f.source g.source.begun f.here (same_session d e f g same) (begun_before d e f g same less) in
      ap (is_before d) (past_is e g) ∙ is_before_from d f g.source.begun before

  in_loose_session : (d : Entry) (x : Loose) → In d (execution_by past_of told).entries → In x (execution_by past_of told).loose
      → d.session ≡ x.session → d.tid.seq < x.tid.seq → is_before d x.past ≡ true
  in_loose_session d x i j same less =
      let f = of_entry d i in
      let g = from_loose past told told.begun x j in
      let n : f.source.begun.tid.seq ≡ d.tid.seq = ap (λ (e : Entry). e.tid.seq) f.is in
      let m : g.source.tid.seq ≡ x.tid.seq = ap (λ (y : Loose). y.tid.seq) g.is in
      let s : f.source.begun.session ≡ g.source.session = ap (λ (e : Entry). e.session) f.is ∙ same ∙ sym (ap (λ (y : Loose). y.session) g.is) in
      let before = earlier_before f.source g.source f.here s (omega arith) in
      ap (is_before d) (sym (ap (λ (y : Loose). y.past) g.is)) ∙ is_before_from d f g.source before

  stands_earlier : (d e : Entry) → In d (execution_by past_of told).entries → In e (execution_by past_of told).entries
      → is_before d e.past ≡ true → StandsBefore d e (execution_by past_of told).entries
  stands_earlier d e i j a =
      let f = of_entry d i in
      let g = of_entry e j in
      let before = before-by snap f.source g.source.begun f.here g.begun (is_before_by d f g.source.begun (ap (is_before d) (sym (past_is e g)) ∙ a)) in
      let stands = entries_stand past (arbitrated cs) f.source g.source (reaches_stands snap (length cs) f.source g.source f.here g.here before) in
      let P : Entry → Entry → Type 0 = λ x y. StandsBefore x y (entries_of past (arbitrated cs)) in
      subst (λ x. P x e) f.is (subst (P (entry_of past f.source)) g.is stands)

  pub closed : IsClosed (execution_by past_of told)
  closed = record {
    entries =
        λ e i. let f =
        of_entry e i in subst (λ (x : Entry). IsClosedPast (execution_by past_of told) x.session x.past) f.is (closed_past f.source.begun f.begun);
    loose = λ x i.
        let f = from_loose past told told.begun x i in
        subst (λ (y : Loose). IsClosedPast (execution_by past_of told) y.session y.past) f.is (closed_past f.source f.here);
    session = in_session;
    loose_session = in_loose_session;
    earlier = stands_earlier;
  }

  -- ORDERED: of two strong ones that conflict, one is in the other's snapshot
  strong_before : (d e : Entry) (f : OfEntry d) (g : OfEntry e) → d.strong ≡ true → at_most f.source.vector g.source.begun.snapshot ≡ true
      → is_before d e.past ≡ true
  strong_before d e f g strong below =
      let own : has_own_vector f.source ≡ true = or_left f.source.strong _ (ap (λ (x : Entry). x.strong) f.is ∙ strong) in
      let before = reached_by_own snap f.source g.source.begun f.here g.begun own below in
      ap (is_before d) (past_is e g) ∙ is_before_from d f g.source.begun (before-from told f.source g.source.begun f.here before)

  pub strong_ordered : (d e : Entry) → In d (execution_by past_of told).entries → In e (execution_by past_of told).entries
      → tid_eq d.tid e.tid ≡ false → d.strong ≡ true → e.strong ≡ true → conflicts d.ops e.ops ≡ true
      → (is_before d e.past ≡ true) ⊎ (is_before e d.past ≡ true)
  strong_ordered d e i j apart sd se c =
      let f = of_entry d i in
      let g = of_entry e j in
      let other : f.source.begun.tid ≡ g.source.begun.tid → ⊥ = λ same. true≢false (
      sym (tid_eq-same e.tid) ∙ ap (λ x. tid_eq x e.tid) (sym (ap (λ (x : Entry). x.tid) g.is) ∙ sym same ∙ ap (λ (x : Entry). x.tid) f.is) ∙ apart) in
      let conflicting : conflicts f.source.ops g.source.ops ≡ true = (λ k. conflicts (f.is k).ops (g.is k).ops) ∙ c in
      ⊎_elim
      (λ a. inl (strong_before d e f g sd a))
      (λ b. inr (strong_before e d g f se b))
      (snap.certified f.source g.source f.here g.here other (ap (λ (x : Entry). x.strong) f.is ∙ sd) (ap (λ (x : Entry). x.strong) g.is ∙ se) conflicting)

pub ordered : {spaces : List (ℕ × Kind)} {told : History} {decided : List LogTx} (declared : Declared)
    → IsSnapshotHistory spaces (conflict declared) told decided → IsOrdered declared (execution_by past_of told)
ordered declared snap = record { ordered = strong_ordered snap }
