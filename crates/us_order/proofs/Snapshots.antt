-- Every run's history is a snapshot history.
use Rattle.std.proofs.Common.{◌≡◌, ℕ, ◌<◌, ◌≤◌, ◌^◌, List, [], ◌∷◌, ◌++◌, Bool, true, false, refl, sym, ap, ◌∙◌, subst, arith, true≢false}
use Rattle.std.specs.Prelude.{nat_lt}
use Rattle.std.proofs.lemmas.Bool.Decides.{nat_tests}
use Rattle.us_kind.specs.Comparison.{In}
use Rattle.us_kind.specs.declared.identity.Tid.{Tid}
use Rattle.us_base.specs.Vector.{at_most, with_entry, sum_of, zero as no_vector}
use Rattle.us_base.proofs.Vectors.{at_most-true, sum-at_most}
use Rattle.us_exec.specs.declared.SessionName.{SessionName}
use Rattle.us_exec.specs.declared.Done.{Done}
use Rattle.us_exec.specs.Conflict.{conflict}
use Rattle.us_exec.specs.WellFormed.{IsOfCoordinator}
use Rattle.us_history.specs.declared.LogTx.{LogTx}
use Rattle.us_history.specs.Histories.{Begun, Committed, AreNumbered, ops_of}
use Rattle.us_history.specs.States.{own_sum}
use Rattle.us_snapshots.specs.Snapshots.{IsBegunFirst, AreNamed, GoesOnFrom, LinksLeadOn, HasVector, AllAnswered, IsSnapshotHistory}
use Rattle.us_snapshots.proofs.Numbers.{later_in, RisesInSession, numbers_ascend}
use Rattle.us_model.specs.State.{Partition, Spaces}
use Rattle.us_model.specs.Partitions.{known}
use Rattle.us_model.specs.Worlds.{start, run}
use Rattle.us_order.specs.Laws.{EveryRunIsASnapshotHistory}
use Rattle.us_order.proofs.Ledgers.{me, Ledger}
use Rattle.us_order.proofs.Partition.{PartitionOk, horizon, own_known-clock}
use Rattle.us_order.proofs.Facts.{AllTrue, BegunForm, DecidedFacts, PartitionFacts, SharedFacts}
use Rattle.us_order.proofs.Moves.{AllTrue-later}
use Rattle.us_order.proofs.Numbers.{IsPlain, history_numbered, history_plain}
use Rattle.us_order.proofs.Decided.{decided_in, full, later_full, are_decided}
use Rattle.us_order.proofs.World.{ledger_of, start_facts, run_facts}

-- WHAT IS KNOWN STAYS BELOW THE OWN SUM
sum_one : (x : ℕ) → sum_of (with_entry no_vector 1 x) ≡ x
unfolding with_entry
sum_one x = omega arith

known_small : (p : Partition) → PartitionOk p → sum_of (known me p) ≤ 2 ^ 62
known_small p h =
    let e : sum_of (known me p) ≡ horizon p = ap (λ g. sum_of (with_entry g 1 (horizon p))) h.received ∙ sum_one (horizon p) in
    omega (arith, own_known-clock p.clock p.prepared h.below_clock, h.small)

below_own : (p : Partition) (sn : List ℕ) → PartitionOk p → at_most sn (known me p) ≡ true → sum_of sn < own_sum
below_own p sn ok kn =
    let a = sum-at_most sn (known me p) (at_most-true sn (known me p) kn) in
    omega (arith, known_small p ok)

-- so what the partition answers is answered by the decided ones
answered : (spaces : Spaces) (p : Partition) (log : List LogTx) (tid : Tid) (sn : List ℕ) (before ds : List Done) → PartitionOk p
    → AllTrue spaces (record p { log = log }) tid sn before ds → AllAnswered spaces log tid sn before ds
answered spaces p log tid sn before [] ok h = tt
answered spaces p log tid sn before (d ∷ ds) ok h =
    (record { fits = h.0.fits; small = below_own p sn ok h.0.is_known; is = h.0.is }, answered spaces p log tid sn (before ++ d ∷ []) ds ok h.1)

-- A VECTOR OF ITS OWN OR NOT
vector_of : (spaces : Spaces) (p : Partition) (l : Ledger) (c : Committed) → DecidedFacts spaces p l c → HasVector c
vector_of spaces p l c f = record {
  at_least = f.grows;
  above = λ own. record { place = 1; less = f.above own };
  same = λ none. f.same (λ own. true≢false (sym own ∙ none));
}

of_coordinator : (last : ℕ) (b : Begun) → BegunForm last b → IsOfCoordinator b.tid b.session
of_coordinator last b f = record {
  site = f.site ∙ sym (ap (λ (s : SessionName). s.site) f.session);
  coord = f.coord ∙ sym (ap (λ (s : SessionName). s.coord) f.session);
}

module _ (spaces : Spaces) (p : Partition) (l : Ledger) (part : PartitionFacts spaces p l) (all : SharedFacts l) (are : AreNumbered l.history.committed)
    (plain : IsPlain l.history) where
  abbrev cs : List Committed
  cs = l.history.committed

  -- of two of a session the first that is decided was begun first: the second isn't of a lesser number
  begun_first : (c d : Committed) → In c cs → In d cs → RisesInSession c d → IsBegunFirst c d
  begun_first c d i j rises same = on (nat_lt c.begun.tid.seq d.begun.tid.seq) refl (nat_lt d.begun.tid.seq c.begun.tid.seq) refl
    where
      less : (a b : ℕ) → nat_lt a b ≡ true → a < b
      less a b e = grind (arith, nat_tests)

      equal : (a b : ℕ) → nat_lt a b ≡ false → nat_lt b a ≡ false → a ≡ b
      equal a b e f = grind (arith, nat_tests)

      one : c.begun.tid.seq ≡ d.begun.tid.seq → c ≡ d
      one e =
          let f = all.told.begun_form c.begun (part.decided c i).begun in
          let g = all.told.begun_form d.begun (part.decided d j).begun in
          all.told.decided_once c d i j (λ k. record { site = (f.site ∙ sym g.site) k; coord = (f.coord ∙ sym g.coord) k; seq = e k })

      on : (x : Bool) → nat_lt c.begun.tid.seq d.begun.tid.seq ≡ x → (y : Bool) → nat_lt d.begun.tid.seq c.begun.tid.seq ≡ y → c.begun.tid.seq < d.begun.tid.seq
      on true e y f = less c.begun.tid.seq d.begun.tid.seq e
      on false e true f =
          let n = all.told.numbers d c j i (sym same) (less d.begun.tid.seq c.begun.tid.seq f) in
          let m = rises same in
          absurd (omega arith)
      on false e false f =
          let n : c.number ≡ d.number = ap (λ (x : Committed). x.number) (one (equal c.begun.tid.seq d.begun.tid.seq e f)) in
          let m = rises same in
          absurd (omega arith)

  named : AreNamed l.history
  named = record {
    begun_once = all.told.begun_apart;
    decided_once = all.told.apart;
    coordinators = λ b i. of_coordinator l.seq b (all.told.begun_form b i);
    begun = λ c i. (part.decided c i).begun;
    ops = λ c i. (part.decided c i).ops;
    in_order = later_in RisesInSession IsBegunFirst cs begun_first (numbers_ascend cs are);
    numbered = are;
  }

  -- no session goes on from another one
  no_link : (b : Begun) (c : Committed) → GoesOnFrom l.history.links b c → ⊥
  no_link b c g = subst (In g.link) plain.unlinked g.here

  links : LinksLeadOn l.history
  links = record {
    other = λ c b i j g e. no_link b c g;
    first = later_in (λ c d. c.begun.tid ≡ d.begun.tid → ⊥) (λ c d. GoesOnFrom l.history.links c.begun d → ⊥) cs
        (λ c d i j apart g. no_link c.begun d g) all.told.apart;
  }

  answers : (b : Begun) → In b l.history.begun → AllAnswered spaces (decided_in spaces p.log cs) b.tid b.snapshot [] (ops_of b.tid l.history.performed)
  answers b i =
      answered spaces p (decided_in spaces p.log cs) b.tid b.snapshot [] (ops_of b.tid l.history.performed) part.ok
      (AllTrue-later spaces p (full spaces p l) b.tid b.snapshot [] (ops_of b.tid l.history.performed) (later_full spaces p l part all) (part.answers b i))

  pub is_snapshot_history : (conflicts : List Done → List Done → Bool) → IsSnapshotHistory spaces conflicts l.history (decided_in spaces p.log cs)
  is_snapshot_history conflicts = record {
    names = named;
    links = links;
    snapshots = record { earlier = all.told.order; linked = λ c b i j g. absurd (no_link b c g) };
    vectors = λ c i. vector_of spaces p l c (part.decided c i);
    decisions = are_decided spaces p l part all;
    answers = answers;
    certified = λ c d i j other strong. absurd (true≢false (sym strong ∙ plain.causal c i));
  }

pub every_run_snapshots : EveryRunIsASnapshotHistory
every_run_snapshots settings one hs =
    let w = run hs (start settings) in
    let h = run_facts settings one hs (start settings) (start_facts settings one) in
    let l = ledger_of h.shard w.packets w.notes in (
      decided_in settings.catalog h.shard.partition.log l.history.committed,
      is_snapshot_history settings.catalog h.shard.partition l h.facts.part h.facts.all (history_numbered w.notes) (history_plain w.notes)
          (conflict settings.conflicts),
    )
