-- The decided transactions: those of the log, and those that are decided and still prepared.
use Rattle.std.proofs.Common.{◌≡◌, ⊎_elim, ◌<◌, List, [], ◌∷◌, ◌++◌, Bool, true, false, ◌&&◌, refl, sym, ap, ◌∙◌, subst, arith, map, true≢false}
use Rattle.std.specs.Prelude.{not, filter}
use Rattle.std.specs.List.{list_any}
use Rattle.std.proofs.lemmas.Bool.{and_parts, and_from, not-true}
use Rattle.us_kind.specs.Comparison.{In, tid_eq}
use Rattle.us_kind.specs.Updates.{AllLater}
use Rattle.us_kind.specs.Histories.{all_from}
use Rattle.us_kind.specs.Ascending.{all_in}
use Rattle.us_kind.proofs.ListLemmas.{in_front, in_back, in_either, in_filter, filter_in, in_map, from_map, prefix_append}
use Rattle.us_kind.proofs.Members.{later_append, later_filter}
use Rattle.us_kind.proofs.TestLemmas.{tid_eq-true, tid_eq-same}
use Rattle.us_base.specs.Vector.{entry}
use Rattle.us_history.specs.declared.LogTx.{LogTx}
use Rattle.us_history.specs.Histories.{Committed, has_own_vector}
use Rattle.us_snapshots.specs.Snapshots.{writes_of, IsDecision, IsListed, AreDecided}
use Rattle.us_snapshots.proofs.Tests.{any-found, found-any}
use Rattle.us_model.specs.State.{Partition, Spaces}
use Rattle.us_order.proofs.Ledgers.{Ledger}
use Rattle.us_order.proofs.Partition.{Later, horizon, own_known-below}
use Rattle.us_order.proofs.Facts.{StillPrepared, InLog, PartitionFacts, SharedFacts}
use Rattle.us_order.proofs.Moves.{writes_of-later}

-- the log has the transaction
abbrev has : List LogTx → Committed → Bool
has log c = list_any (λ (e : LogTx). tid_eq e.tid c.begun.tid) log

-- it has a vector of its own, and isn't in the log yet
abbrev is_pending : List LogTx → Committed → Bool
is_pending log c = has_own_vector c && not (has log c)

-- as the log will have it
abbrev entry_for : Spaces → List LogTx → Committed → LogTx
entry_for spaces log c = record { tid = c.begun.tid; strong = c.strong; vector = c.vector; writes = writes_of spaces log c }

abbrev pending : Spaces → List LogTx → List Committed → List LogTx
pending spaces log cs = map (entry_for spaces log) (filter (is_pending log) cs)

abbrev pub decided_in : Spaces → List LogTx → List Committed → List LogTx
decided_in spaces log cs = log ++ pending spaces log cs

-- the partition, if it had them all
abbrev pub full : Spaces → Partition → Ledger → Partition
full spaces p l = record p { log = decided_in spaces p.log l.history.committed }

not_in : (log : List LogTx) (c : Committed) → not (has log c) ≡ true → (e : LogTx) → In e log → e.tid ≡ c.begun.tid → ⊥
not_in log c none e i same =
    true≢false (sym (found-any (λ (x : LogTx). tid_eq x.tid c.begun.tid) log e i (ap (λ t. tid_eq t c.begun.tid) same ∙ tid_eq-same c.begun.tid))
    ∙ not-true _ none)

-- entries of transactions apart are apart
apart_entries : (spaces : Spaces) (log : List LogTx) (cs : List Committed) → AllLater (λ (c d : Committed). c.begun.tid ≡ d.begun.tid → ⊥) cs
    → AllLater (λ (e f : LogTx). e.tid ≡ f.tid → ⊥) (map (entry_for spaces log) cs)
apart_entries spaces log [] h = tt
apart_entries spaces log (c ∷ cs) h = (all_from (λ (f : LogTx). c.begun.tid ≡ f.tid → ⊥) (map (entry_for spaces log) cs) first, apart_entries spaces log cs h.1)
  where
    first : (f : LogTx) → In f (map (entry_for spaces log) cs) → c.begun.tid ≡ f.tid → ⊥
    first f i same =
        let g = from_map (entry_for spaces log) f cs i in
        all_in (λ (d : Committed). c.begun.tid ≡ d.begun.tid → ⊥) cs g.source h.0 g.here (same ∙ sym (ap (λ (x : LogTx). x.tid) g.is))

module _ (spaces : Spaces) (p : Partition) (l : Ledger) (part : PartitionFacts spaces p l) (all : SharedFacts l) where
  abbrev cs : List Committed
  cs = l.history.committed

  abbrev ds : List LogTx
  ds = decided_in spaces p.log cs

  -- one that is decided and not in the log
  record Pending (e : LogTx) : Type 0 where
    source : Committed
    here : In source cs
    own : has_own_vector source ≡ true
    absent : not (has p.log source) ≡ true
    is : entry_for spaces p.log source ≡ e

  of_pending : (e : LogTx) → In e (pending spaces p.log cs) → Pending e
  of_pending e i =
      let f = from_map (entry_for spaces p.log) e (filter (is_pending p.log) cs) i in
      let g = in_filter (is_pending p.log) f.source cs f.here in
      let t = and_parts _ _ g.1 in
      record { source = f.source; here = g.0; own = t.0; absent = t.1; is = f.is }

  -- it is still prepared, so that its vector is above what is known
  above_known : (e : LogTx) → In e (pending spaces p.log cs) → horizon p < entry e.vector 1
  above_known e i = on (of_pending e i)
    where
      on : Pending e → horizon p < entry e.vector 1
      on f = ⊎_elim
          (λ (q : StillPrepared p.prepared f.source.begun.tid (entry f.source.vector 1)).
          let below = own_known-below p.clock p.prepared q.entry_of q.here (part.ok.positive q.entry_of q.here) in
          let ts = q.ts_is in
          subst (λ (x : LogTx). horizon p < entry x.vector 1) f.is (omega arith))
          (λ (g : InLog p.log f.source). absurd (not_in p.log f.source f.absent g.entry_of g.here g.tid_is))
          ((part.decided f.source f.here).kept f.own)

  pub later_full : Later p (full spaces p l)
  later_full = record { knows = omega arith; log = prefix_append p.log (pending spaces p.log cs); new = above_known; received = refl }

  -- THE LIST
  once : AllLater (λ (e f : LogTx). e.tid ≡ f.tid → ⊥) ds
  once =
      later_append (λ (e f : LogTx). e.tid ≡ f.tid → ⊥) p.log (pending spaces p.log cs) part.ok.once.log_apart
      (apart_entries spaces p.log (filter (is_pending p.log) cs)
      (later_filter (λ (c d : Committed). c.begun.tid ≡ d.begun.tid → ⊥) (is_pending p.log) cs all.told.apart))
      (λ e f i j same. let g = of_pending f j in not_in p.log g.source g.absent e i (same ∙ sym (ap (λ (x : LogTx). x.tid) g.is)))

  each : (e : LogTx) → In e ds → IsDecision spaces ds cs e
  each e i = ⊎_elim logged still (in_either e p.log (pending spaces p.log cs) i)
    where
      writes_now : (c : Committed) → In c cs → writes_of spaces ds c ≡ writes_of spaces p.log c
      writes_now c j = sym (writes_of-later spaces p (full spaces p l) l c later_full part j)

      logged : In e p.log → IsDecision spaces ds cs e
      logged j =
          let f = part.log e j in
          record { decision = f.decision; here = f.here; tid_is = f.tid_is; vector_is = f.vector_is; writes_is = writes_now f.decision f.here ∙ f.writes_is }

      still : In e (pending spaces p.log cs) → IsDecision spaces ds cs e
      still j =
          let f = of_pending e j in
          record {
            decision = f.source;
            here = f.here;
            tid_is = ap (λ (x : LogTx). x.tid) f.is;
            vector_is = ap (λ (x : LogTx). x.vector) f.is;
            writes_is = writes_now f.source f.here ∙ ap (λ (x : LogTx). x.writes) f.is;
          }

  listed : (c : Committed) → In c cs → has_own_vector c ≡ true → IsListed ds c
  listed c i own = on (has p.log c) refl
    where
      on : (b : Bool) → has p.log c ≡ b → IsListed ds c
      on true e =
          let f = any-found (λ (x : LogTx). tid_eq x.tid c.begun.tid) p.log e in
          record { entry_of = f.item; here = in_front f.item p.log (pending spaces p.log cs) f.here; tid_is = tid_eq-true f.item.tid c.begun.tid f.passes }
      on false e =
          let new = filter_in (is_pending p.log) c cs i (and_from _ _ own (ap not e)) in
          record {
            entry_of = entry_for spaces p.log c;
            here = in_back (entry_for spaces p.log c) p.log (pending spaces p.log cs) (in_map (entry_for spaces p.log) c (filter (is_pending p.log) cs) new);
            tid_is = refl;
          }

  pub are_decided : AreDecided spaces l.history ds
  are_decided = record { once = once; each = each; all = listed }
