-- The execution of a snapshot history is well formed.
use Rattle.std.proofs.Common.{◌≡◌, ◌∙◌, ℕ, ◌<◌, ◌≤◌, inl, inr, List, [], ◌∷◌, length, Bool, true, false, cond, map, refl, sym, ap, subst, arith, true≢false}
use Rattle.std.specs.List.{range_with_len}
use Rattle.std.proofs.lemmas.List.{length-map}
use Rattle.us_kind.specs.Comparison.{In, tid_eq}
use Rattle.us_kind.specs.Updates.{All, AllLater}
use Rattle.us_kind.specs.Histories.{all_from}
use Rattle.us_kind.specs.Ascending.{all_in}
use Rattle.us_kind.proofs.TestLemmas.{tid_eq-same}
use Rattle.us_value.specs.declared.operation.Kind.{Kind}
use Rattle.us_exec.specs.declared.SessionName.{SessionName}
use Rattle.us_exec.specs.declared.Done.{Done}
use Rattle.us_exec.specs.declared.Count.{Count}
use Rattle.us_exec.specs.declared.Entry.{Entry}
use Rattle.us_exec.specs.declared.Loose.{Loose}
use Rattle.us_exec.specs.WellFormed.{numbers_of, IsOfCoordinator, IsCounted, IsWellFormed}
use Rattle.us_history.specs.declared.LogTx.{LogTx}
use Rattle.us_history.specs.Histories.{Begun, Committed, History, committed_in, of_session, is_committed}
use Rattle.us_history.specs.Pasts.{reaches, sessions_of, past_of}
use Rattle.us_history.specs.Arbitration.{arbitrated}
use Rattle.us_history.specs.Executions.{entry_of, loose_one, loose_of, execution_by}
use Rattle.us_snapshots.specs.Snapshots.{IsSnapshotHistory}
use Rattle.us_snapshots.proofs.Tests.{found-any}
use Rattle.us_snapshots.proofs.Names.{decided_one, numbered}
use Rattle.us_snapshots.proofs.Numbers.{later_in, counted_session, RisesInSession, numbers_ascend}
use Rattle.us_snapshots.proofs.Sources.{from_loose}
use Rattle.us_snapshots.proofs.SessionOrder.{KeepsOrder, session_kept, entry_numbers, are_numbered}
use Rattle.us_snapshots.proofs.Sessions.{sessions_ascend, CountedOf, of_counts, counts_ascend, count_most}
use Rattle.us_snapshots.proofs.Order.{not_preceding}
use Rattle.us_snapshots.proofs.Closed.{of_entry, same_session}
use Rattle.us_snapshots.proofs.Ascending.{seqs_ascend}

-- THE LOOSE TRANSACTIONS
not_loose : (past : Begun → List Count) (h : History) (bs : List Begun) (l : Loose) → In l (loose_of past h bs) → is_committed l.tid h.committed ≡ false
not_loose past h [] l i = absurd i
not_loose past h (b ∷ bs) l i = on (is_committed b.tid h.committed) refl i (not_loose past h bs l)
  where
    on : (t : Bool) → is_committed b.tid h.committed ≡ t → In l (cond t (loose_of past h bs) (loose_one past h b ∷ loose_of past h bs))
        → (In l (loose_of past h bs) → is_committed l.tid h.committed ≡ false) → is_committed l.tid h.committed ≡ false
    on true e i again = again i
    on false e (inl k) again = ap (λ (x : Loose). is_committed x.tid h.committed) (sym k) ∙ e
    on false e (inr j) again = again j

loose_apart : (past : Begun → List Count) (h : History) (bs : List Begun) → AllLater (λ (b c : Begun). b.tid ≡ c.tid → ⊥) bs
    → AllLater (λ (l m : Loose). l.tid ≡ m.tid → ⊥) (loose_of past h bs)
loose_apart past h [] k = tt
loose_apart past h (b ∷ bs) k = on (is_committed b.tid h.committed) (loose_apart past h bs k.1)
  where
    later : All (λ (m : Loose). b.tid ≡ m.tid → ⊥) (loose_of past h bs)
    later = all_from (λ (m : Loose). b.tid ≡ m.tid → ⊥) (loose_of past h bs)
        (λ m i same. let f = from_loose past h bs m i in
        all_in (λ (c : Begun). b.tid ≡ c.tid → ⊥) bs f.source k.0 f.here (same ∙ sym (ap (λ (x : Loose). x.tid) f.is)))

    on : (t : Bool) → AllLater (λ (l m : Loose). l.tid ≡ m.tid → ⊥) (loose_of past h bs)
        → AllLater (λ (l m : Loose). l.tid ≡ m.tid → ⊥) (cond t (loose_of past h bs) (loose_one past h b ∷ loose_of past h bs))
    on true again = again
    on false again = (later, again)

module _ {spaces : List (ℕ × Kind)} {conflicts : List Done → List Done → Bool} {told : History} {decided : List LogTx}
    (snap : IsSnapshotHistory spaces conflicts told decided) where
  abbrev cs : List Committed
  cs = told.committed

  abbrev past : Begun → List Count
  past = past_of told

  abbrev es : List Entry
  es = (execution_by past_of told).entries

  -- NUMBERS
  keeps_order : AllLater KeepsOrder cs
  keeps_order = later_in RisesInSession KeepsOrder cs
      (λ c d i j rises same. not_preceding snap c d j
      (snap.snapshots.earlier c d.begun i (snap.names.begun d j) same (seqs_ascend snap c d i j same (rises same))))
      (numbers_ascend cs snap.names.numbered)

  entries_numbers : (s : SessionName) → numbers_of s es ≡ map (λ (c : Committed). c.number) (of_session s cs)
  entries_numbers s = entry_numbers past s (arbitrated cs) ∙ ap (map (λ (c : Committed). c.number)) (session_kept s cs keeps_order)

  numbers : (s : SessionName) → numbers_of s es ≡ range_with_len 1 (length (numbers_of s es))
  numbers s = subst (λ ns. ns ≡ range_with_len 1 (length ns)) (sym (entries_numbers s)) (are_numbered (of_session s cs) (snap.names.numbered s))

  -- PASTS
  as_many : (s : SessionName) → length (numbers_of s es) ≡ committed_in s cs
  as_many s = ap length (entries_numbers s) ∙ length-map (of_session s cs) (λ (c : Committed). c.number) ∙ sym (counted_session s cs)

  within : (s : SessionName) (c : Committed) → In c cs → c.begun.session ≡ s → c.number ≤ length (numbers_of s es)
  within s c i e =
      let k : c.number ≤ committed_in s cs = subst (λ r. c.number ≤ committed_in r cs) e (numbered snap.names c i).1 in
      omega (arith, as_many s)

  past_counted : (t : Begun) → IsCounted es (past t)
  past_counted t = record {
    sessions = counts_ascend test cs (sessions_of cs) (sessions_ascend cs);
    from_one = λ c i. (each c i).from_one;
    within = λ c i. (each c i).within;
  }
    where
      test : Committed → Bool
      test c = reaches told.links cs c t

      bound : SessionName → ℕ
      bound s = length (numbers_of s es)

      each : (c : Count) → In c (past t) → CountedOf bound (sessions_of cs) c
      each c i = of_counts bound test cs (λ s. count_most test s (bound s) cs (within s)) (sessions_of cs) c i

  -- NAMES
  begun : (d e : Entry) → In d es → In e es → d.session ≡ e.session → d.number < e.number → d.tid.seq < e.tid.seq
  begun d e i j same less =
      let f = of_entry snap d i in
      let g = of_entry snap e j in
      let n : f.source.number ≡ d.number = ap (λ (x : Entry). x.number) f.is in
      let m : g.source.number ≡ e.number = ap (λ (x : Entry). x.number) g.is in
      let k = seqs_ascend snap f.source g.source f.here g.here (same_session snap d e f g same) (omega arith) in
      let a : f.source.begun.tid.seq ≡ d.tid.seq = ap (λ (x : Entry). x.tid.seq) f.is in
      let b : g.source.begun.tid.seq ≡ e.tid.seq = ap (λ (x : Entry). x.tid.seq) g.is in
      omega arith

  once : (d e : Entry) → In d es → In e es → d.tid ≡ e.tid → d ≡ e
  once d e i j same =
      let f = of_entry snap d i in
      let g = of_entry snap e j in
      let one = decided_one snap.names f.source g.source f.here g.here (ap (λ (x : Entry). x.tid) f.is ∙ same ∙ sym (ap (λ (x : Entry). x.tid) g.is)) in
      sym f.is ∙ ap (entry_of past) one ∙ g.is

  apart : (e : Entry) (x : Loose) → In e es → In x (execution_by past_of told).loose → e.tid ≡ x.tid → ⊥
  apart e x i j same =
      let f = of_entry snap e i in
      let named : tid_eq f.source.begun.tid x.tid ≡ true = ap (λ t. tid_eq t x.tid) (ap (λ (y : Entry). y.tid) f.is ∙ same) ∙ tid_eq-same x.tid in
      let here = found-any (λ (c : Committed). tid_eq c.begun.tid x.tid) cs f.source f.here named in
      true≢false (sym here ∙ not_loose past told told.begun x j)

  -- WELL FORMED
  pub well_formed : IsWellFormed (execution_by past_of told)
  well_formed = record {
    numbers = numbers;
    coordinators =
        λ e i. let f = of_entry snap e i in subst (λ (x : Entry). IsOfCoordinator x.tid x.session) f.is (snap.names.coordinators f.source.begun f.begun);
    loose_coordinators = λ x i.
        let f = from_loose past told told.begun x i in
        subst (λ (y : Loose). IsOfCoordinator y.tid y.session) f.is (snap.names.coordinators f.source f.here);
    begun = begun;
    once = once;
    loose_once = loose_apart past told told.begun snap.names.begun_once;
    apart = apart;
    pasts = λ e i. let f = of_entry snap e i in subst (λ (x : Entry). IsCounted es x.past) f.is (past_counted f.source.begun);
    loose_pasts = λ x i. let f = from_loose past told told.begun x i in subst (λ (y : Loose). IsCounted es y.past) f.is (past_counted f.source);
  }
