-- What each step of the partition keeps.
use Rattle.std.proofs.Common.{◌≡◌, ◌⊎◌, inl, inr, ⊎_elim, ℕ, zero, suc, ◌+◌, ◌≤◌, ◌^◌, List, [], ◌∷◌, ◌++◌, Bool, true, false, ◌||◌, refl, sym, ap}
use Rattle.std.proofs.Common.{◌∙◌, subst, arith, cond, true≢false}
use Rattle.std.specs.Prelude.{Some, Option, slice_get}
use Rattle.us_kind.specs.Comparison.{In, tid_eq}
use Rattle.us_kind.specs.declared.identity.Tid.{Tid}
use Rattle.us_kind.proofs.ListLemmas.{in_front, in_either, in_push, in_one, in_append, in_later, in_last, in_filter, IsPrefix, prefix_refl, prefix_append}
use Rattle.us_kind.proofs.TestLemmas.{tid_eq-true, tid_eq-same}
use Rattle.us_base.specs.Vector.{entry, at_most}
use Rattle.us_base.proofs.Vectors.{at_most-true, at_most-from, entry-with_same, entry-with_other}
use Rattle.us_value.specs.declared.item.Item.{Item}
use Rattle.us_value.specs.declared.item.Write.{Write}
use Rattle.us_value.specs.declared.operation.Effect.{Effect}
use Rattle.us_value.specs.Values.{initial, answered, prepared as prepared_effect}
use Rattle.us_exec.specs.declared.Done.{Done}
use Rattle.us_peer_wire.specs.declared.message.Message.{Message}
use Rattle.us_peer_wire.specs.declared.message.Message.TheVariants as message
use Rattle.us_history.specs.declared.LogTx.{LogTx}
use Rattle.us_model.specs.declared.partition.PreparedTx.{PreparedTx}
use Rattle.us_model.specs.declared.partition.Get.{Get}
use Rattle.us_model.specs.declared.coordinator.Transaction.{Transaction}
use Rattle.us_model.specs.declared.coordinator.QueuedRequest.{QueuedRequest}
use Rattle.us_model.specs.declared.coordinator.Await.{Await}
use Rattle.us_model.specs.State.{Partition, Spaces}
use Rattle.us_history.specs.Histories.{Committed, has_own_vector, ops_of}
use Rattle.us_history.specs.States.{after_own, kind_for, own_effects, state_at}
use Rattle.us_snapshots.specs.Acts.{Act, act_of, writes_in, met_by, effect_at, acts_from, acts_of}
use Rattle.us_snapshots.specs.Snapshots.{writes_of, IsDecision}
use Rattle.us_model.specs.Partitions.{known, parked_with, contains_tid, prepared, timestamp_for, committed, is_of, state_for, may_answer, form_for, versions}
use Rattle.us_model.specs.Partitions.{version_for, still_parked}
use Rattle.us_order.proofs.Ledgers.{me, Ledger, messages_of, with_messages}
use Rattle.us_order.proofs.Partition.{PartitionOk, Later, later_same, horizon, read_later, get_keeps, get_later, prepared_keeps, prepared_later}
use Rattle.us_order.proofs.Partition.{committed_keeps, committed_later, removed_in, in_removed, next_timestamp-above}
use Rattle.us_order.proofs.Facts.{AllTrue, StillPrepared, IsDecided, DecidedAt, IsTrue, PreparedFacts, InLog, PartitionFacts, SharedFacts, SameKey}
use Rattle.us_order.proofs.Facts.{SameKey-sym, once_push, waits-later, begun_as, RunningFacts, SessionFacts}

pub known-later : (p p' : Partition) (v : List ℕ) → Later p p' → at_most v (known me p) ≡ true → at_most v (known me p') ≡ true
known-later p p' v l h = at_most-from v (known me p') at
  where
    at : (i : ℕ) → entry v i ≤ entry (known me p') i
    at zero =
        rw l.received (omega (
          arith,
          at_most-true v (known me p) h 0,
          entry-with_other p.received 1 (horizon p) 0 (λ e. cc),
          entry-with_other p.received 1
              (horizon p') 0 (λ e. cc),
        ))
    at (suc zero) = omega (arith, l.knows, at_most-true v (known me p) h 1, entry-with_same p.received 1 (horizon p), entry-with_same p'.received 1 (horizon p'))
    at (suc (suc i)) =
        rw l.received (omega (
          arith,
          at_most-true v (known me p) h (suc (suc i)),
          entry-with_other p.received 1 (horizon p) (suc (suc i)) (λ e. omega arith),
          entry-with_other p.received 1 (horizon p') (suc (suc i)) (λ e. omega arith),
        ))

-- a state that is read is the same ever after
state-later : (spaces : Spaces) (p p' : Partition) (tid : Tid) (sn : List ℕ) (item : Item) (own : List (ℕ × Effect)) → Later p p'
    → at_most sn (known me p) ≡ true → state_at spaces p.log tid sn item own ≡ state_at spaces p'.log tid sn item own
state-later spaces p p' tid sn item own l k = ap (λ s. after_own tid s own) (sym (read_later p p' sn item (initial (kind_for spaces item.space)) l k))

-- and so is what a transaction did at it
acts-later : (spaces : Spaces) (p p' : Partition) (tid : Tid) (sn : List ℕ) (n : ℕ) (acts : List Act) (ds : List Done) → Later p p'
    → at_most sn (known me p) ≡ true → acts_from spaces p.log tid sn n acts ds ≡ acts_from spaces p'.log tid sn n acts ds
acts-later spaces p p' tid sn n acts [] l k = refl
acts-later spaces p p' tid sn n acts (d ∷ ds) l k =
    let e : effect_at spaces p.log tid sn acts n d ≡ effect_at spaces p'.log tid sn acts n d =
    ap (prepared_effect (record { tid = tid; place = n }) d.op) (state-later spaces p p' tid sn d.item (own_effects d.item (writes_in acts)) l k) in
    acts-later spaces p p' tid sn (n + 1) (acts ++ act_of d n (effect_at spaces p.log tid sn acts n d)) ds l k
    ∙ ap (λ o. acts_from spaces p'.log tid sn (n + 1) (acts ++ act_of d n o) ds) e

pub AllTrue-later : (spaces : Spaces) (p p' : Partition) (tid : Tid) (sn : List ℕ) (before as' : List Done) → Later p p'
    → AllTrue spaces p tid sn before as' → AllTrue spaces p' tid sn before as'
AllTrue-later spaces p p' tid sn before [] l h = tt
AllTrue-later spaces p p' tid sn before (a ∷ as') l h =
    let same : met_by spaces p.log tid sn a.item (acts_of spaces p.log tid sn before) ≡ met_by spaces p'.log tid sn a.item
    (acts_of spaces p'.log tid sn before) =
    state-later spaces p p' tid sn a.item (own_effects a.item (writes_in (acts_of spaces p.log tid sn before))) l h.0.is_known ∙ ap
    (met_by spaces p'.log tid sn a.item) (acts-later spaces p p' tid sn 1 [] before l h.0.is_known) in (
      record { is_known = known-later p p' sn l h.0.is_known; fits = h.0.fits; is = h.0.is ∙ ap (answered a.op) same },
      AllTrue-later spaces p p' tid
          sn (before ++ a ∷ []) as' l h.1,
    )

-- so the writes of a transaction are the same ever after
pub acts_true-later : (spaces : Spaces) (p p' : Partition) (tid : Tid) (sn : List ℕ) (ds : List Done) → Later p p' → AllTrue spaces p tid sn [] ds
    → acts_of spaces p.log tid sn ds ≡ acts_of spaces p'.log tid sn ds
acts_true-later spaces p p' tid sn [] l h = refl
acts_true-later spaces p p' tid sn (d ∷ ds) l h = acts-later spaces p p' tid sn 1 [] (d ∷ ds) l h.0.is_known

pub writes_of-later : (spaces : Spaces) (p p' : Partition) (l : Ledger) (c : Committed) → Later p p' → PartitionFacts spaces p l
    → In c l.history.committed → writes_of spaces p.log c ≡ writes_of spaces p'.log c
writes_of-later spaces p p' l c later h i =
    let f = h.decided c i in
    ap writes_in (acts_true-later spaces p p' c.begun.tid c.begun.snapshot c.ops later
    (subst (AllTrue spaces p c.begun.tid c.begun.snapshot []) (sym f.ops) (h.answers c.begun f.begun)))

-- what a partition sends
abbrev pub FromPartition : Message → Type 0
FromPartition (message.Version v) = Unit {0}
FromPartition (message.Prepared tid ts) = Unit {0}
FromPartition _ = ⊥

-- a partition's step, with what it sends
pub record Moves (spaces : Spaces) (p p' : Partition) (l : Ledger) (ms : List Message) : Type 0 where
  pub later : Later p p'
  pub ok : PartitionOk p'
  pub done : IsPrefix p.done p'.done
  pub sent : (m : Message) → In m ms → FromPartition m
  pub true' : (m : Message) → In m ms → IsTrue spaces p' (with_messages l ms) m
  pub parked : (g : Get) → In g p'.parked → In (message.Get g.tid g.place g.at g.snapshot g.item g.op g.own) l.messages
  pub prepared : (q : PreparedTx) → In q p'.prepared → PreparedFacts p'.done (l.messages ++ ms) q
  pub log : (e : LogTx) → In e p'.log → IsDecision spaces p'.log l.history.committed e
  pub still : (tid : Tid) (ts : ℕ) → StillPrepared p.prepared tid ts → StillPrepared p'.prepared tid ts ⊎ IsDecided l.history.committed tid
  pub kept : (c : Committed) → In c l.history.committed → has_own_vector c ≡ true
      → StillPrepared p.prepared c.begun.tid (entry c.vector 1) ⊎ InLog p.log c
      → StillPrepared p'.prepared c.begun.tid (entry c.vector 1) ⊎ InLog p'.log c

is_true-moves : (spaces : Spaces) (p p' : Partition) (l : Ledger) (ms : List Message) (m : Message) → Moves spaces p p' l ms → IsTrue spaces p l m
    → IsTrue spaces p' (with_messages l ms) m
is_true-moves spaces p p' l ms (message.Get tid place at sn i o own) v h = h
is_true-moves spaces p p' l ms (message.Prepare tid sn ws) v h = h
is_true-moves spaces p p' l ms (message.Commit tid vector) v h = h
is_true-moves spaces p p' l ms (message.Prepared tid ts) v h = record {
  done = in_later _ v.done h.done;
  until = ⊎_elim (λ a. v.still tid ts a) (λ (b : IsDecided l.history.committed tid). inr b) h.until;
}
is_true-moves spaces p p' l ms (message.Version x) v h = record {
  snapshot = h.snapshot;
  item = h.item;
  op = h.op;
  own = h.own;
  asked = in_front _ l.messages ms h.asked;
  is_known = known-later p p' h.snapshot v.later h.is_known;
  is =
      h.is ∙ ap (λ s. form_for (answered h.op s) (prepared_effect (record { tid = x.tid; place = x.place }) h.op s))
      (state-later spaces p p' x.tid h.snapshot h.item h.own v.later h.is_known);
}
is_true-moves spaces p p' l ms _ v h = h

pub part_moves : (spaces : Spaces) (p p' : Partition) (l : Ledger) (ms : List Message) → Moves spaces p p' l ms → PartitionFacts spaces p l
    → PartitionFacts spaces p' (with_messages l ms)
part_moves spaces p p' l ms v h = record {
  ok = v.ok;
  messages = in_append (IsTrue spaces p' (with_messages l ms)) l.messages ms (λ m i. is_true-moves spaces p p' l ms m v (h.messages m i)) v.true';
  parked = λ g i. in_front _ l.messages ms (v.parked g i);
  prepared = v.prepared;
  log = v.log;
  decided = λ c i. let f = h.decided c i in record {
    begun = f.begun;
    ops = f.ops;
    grows = f.grows;
    same = f.same;
    above = f.above;
    asked =
        λ w. in_front _ l.messages ms (subst (λ ws. In (message.Prepare c.begun.tid c.begun.snapshot ws) l.messages)
        (writes_of-later spaces p p' l c v.later h i) (f.asked w));
    kept = λ w. v.kept c i w (f.kept w);
    small = f.small;
    numbered = f.numbered;
  };
  answers = λ b i. AllTrue-later spaces p p' b.tid b.snapshot [] (ops_of b.tid l.history.performed) v.later (h.answers b i);
}

-- and what it leaves of a session
running_moves : (spaces : Spaces) (p p' : Partition) (l : Ledger) (ms : List Message) (n last : ℕ) (w : Await) (t : Transaction) → Later p p'
    → PartitionFacts spaces p l → ((m : Message) → In m ms → FromPartition m) → RunningFacts spaces p.log l n last w t
    → RunningFacts spaces p'.log (with_messages l ms) n last w t
running_moves spaces p p' l ms n last w t later h from run = record {
  begun = run.begun;
  ops = run.ops;
  writes =
      run.writes ∙ ap writes_in (acts_true-later spaces p p' t.tid t.snapshot t.ops later
      (subst (AllTrue spaces p t.tid t.snapshot []) (sym run.ops) (h.answers (begun_as n t) run.begun)));
  after = run.after;
  latest = run.latest;
  gets = λ place at sn i o own j. ⊎_elim (λ k. run.gets place at sn i o own k) (λ k. absurd (from _ k)) (in_either _ l.messages ms j);
  prepares = λ sn ws j. ⊎_elim (λ k. run.prepares sn ws k) (λ k. absurd (from _ k)) (in_either _ l.messages ms j);
  waiting = waits-later l (with_messages l ms) t w (prefix_append l.messages ms) run.waiting;
}

pub session_moves : (spaces : Spaces) (p p' : Partition) (l : Ledger) (ms : List Message) (n : ℕ) (past : List ℕ) (running : Option Transaction)
    (w : Await) (requests : List QueuedRequest) (asked : ℕ) → Later p p' → PartitionFacts spaces p l → ((m : Message) → In m ms → FromPartition m)
    → SessionFacts spaces p.log l n past running w requests asked → SessionFacts spaces p'.log (with_messages l ms) n past running w requests asked
session_moves spaces p p' l ms n past running w requests asked later part from h =
    record {
      covered = h.covered;
      small = h.small;
      last = h.last;
      queue = h.queue;
      runs = λ t e. running_moves spaces p p' l ms n h.last w t later part from (h.runs t e);
    }

-- GET
prepared_more : (done : List Tid) (xs ms : List Message) (q : PreparedTx) → PreparedFacts done xs q → PreparedFacts done (xs ++ ms) q
prepared_more done xs ms q h = record { done = h.done; asked = in_front _ xs ms h.asked; told = in_front _ xs ms h.told; above = h.above }

pub get_moves : (spaces : Spaces) (p : Partition) (l : Ledger) (g : Get) → PartitionFacts spaces p l → SharedFacts l
    → In (message.Get g.tid g.place g.at g.snapshot g.item g.op g.own) l.messages → Moves spaces p (parked_with me p g) l []
get_moves spaces p l g h all asked =
    let f = h.messages _ asked in
    let small : entry g.snapshot 1 ≤ 2 ^ 62 = subst (λ sn. entry sn 1 ≤ 2 ^ 62) f.snapshot_is (all.told.begun_form f.by f.here).small in
    record {
      later = get_later p g h.ok;
      ok = get_keeps p g small h.ok;
      done = prefix_refl _;
      sent = λ m i. absurd i;
      true' = λ m i. absurd i;
      parked = in_push _ p.parked g h.parked asked;
      prepared = λ q i. prepared_more p.done l.messages [] q (h.prepared q i);
      log = h.log;
      still = λ tid ts f. inl f;
      kept = λ c i w k. k;
    }

-- WAKE: waiting questions are answered
versions_from : (spaces : Spaces) (kn : List ℕ) (log : List LogTx) (gs : List Get) (m : Message) → In m (messages_of (versions me spaces kn log gs))
    → FromPartition m
versions_from spaces kn log [] m h = absurd h
versions_from spaces kn log (g ∷ gs) m h = on (may_answer kn g) h (versions_from spaces kn log gs m)
  where
    on : (b : Bool) → In m (messages_of (cond b (version_for me spaces log g ∷ versions me spaces kn log gs) (versions me spaces kn log gs)))
        → (In m (messages_of (versions me spaces kn log gs)) → FromPartition m) → FromPartition m
    on true (inl e) again = subst FromPartition e tt
    on true (inr i) again = again i
    on false i again = again i

abbrev pub after_answers : Partition → Partition
after_answers p = record p { parked = still_parked (known me p) p.parked }

state_is : (spaces : Spaces) (log : List LogTx) (g : Get) → state_for spaces log g ≡ state_at spaces log g.tid g.snapshot g.item g.own
unfolding state_for
state_is spaces log g = refl

versions_true : (spaces : Spaces) (p : Partition) (l : Ledger) (ms : List Message) (gs : List Get)
    → ((g : Get) → In g gs → In (message.Get g.tid g.place g.at g.snapshot g.item g.op g.own) l.messages) → (m : Message)
    → In m (messages_of (versions me spaces (known me p) p.log gs)) → IsTrue spaces (after_answers p) (with_messages l ms) m
versions_true spaces p l ms [] asked m h = absurd h
versions_true spaces p l ms (g ∷ gs) asked m h = on (may_answer (known me p) g) refl h (versions_true spaces p l ms gs (λ x i. asked x (inr i)) m)
  where
    kn : List ℕ
    kn = known me p

    one : may_answer kn g ≡ true → IsTrue spaces (after_answers p) (with_messages l ms) (version_for me spaces p.log g).message
    one e = record {
      snapshot = g.snapshot;
      item = g.item;
      op = g.op;
      own = g.own;
      asked = in_front _ l.messages ms (asked g (inl refl));
      is_known = e;
      is =
          (λ i. form_for (answered g.op (state_is spaces p.log g i))
          (prepared_effect (record { tid = g.tid; place = g.place }) g.op (state_is spaces p.log g i)));
    }

    on : (b : Bool) → may_answer kn g ≡ b
        → In m (messages_of (cond b (version_for me spaces p.log g ∷ versions me spaces kn p.log gs) (versions me spaces kn p.log gs)))
        → (In m (messages_of (versions me spaces kn p.log gs)) → IsTrue spaces (after_answers p) (with_messages l ms) m)
        → IsTrue spaces (after_answers p) (with_messages l ms) m
    on true e (inl f) again = subst (IsTrue spaces (after_answers p) (with_messages l ms)) f (one e)
    on true e (inr i) again = again i
    on false e i again = again i

pub answers_moves : (spaces : Spaces) (p : Partition) (l : Ledger) → PartitionFacts spaces p l
    → Moves spaces p (after_answers p) l (messages_of (versions me spaces (known me p) p.log p.parked))
answers_moves spaces p l h =
    let ms = messages_of (versions me spaces (known me p) p.log p.parked) in
    record {
      later = later_same p (after_answers p) (omega arith) refl refl;
      ok = record { once = h.ok.once; below_clock = h.ok.below_clock; positive = h.ok.positive; small = h.ok.small; received = h.ok.received };
      done = prefix_refl _;
      sent = versions_from spaces (known me p) p.log p.parked;
      true' = versions_true spaces p l ms p.parked h.parked;
      parked = λ g i. h.parked g (in_filter _ g p.parked i).0;
      prepared = λ q i. prepared_more p.done l.messages ms q (h.prepared q i);
      log = h.log;
      still = λ tid ts f. inl f;
      kept = λ c i w k. k;
    }

-- what a partition sends at waking has no key
no_version_key : (m m' : Message) → FromPartition m' → ((tid : Tid) (ts : ℕ) → m' ≡ message.Prepared tid ts → ⊥) → SameKey m m' → ⊥
no_version_key (message.Get t n a sn i o own) (message.Get t' n' a' sn' i' o' own') f g k = f
no_version_key (message.Prepare t sn ws) (message.Prepare t' sn' ws') f g k = f
no_version_key (message.Prepared t n) (message.Prepared t' n') f g k = g t' n' refl
no_version_key _ _ f g k = k

versions_are : (spaces : Spaces) (kn : List ℕ) (log : List LogTx) (gs : List Get) (m : Message) → In m (messages_of (versions me spaces kn log gs))
    → (tid : Tid) (ts : ℕ) → m ≡ message.Prepared tid ts → ⊥
versions_are spaces kn log [] m h tid ts e = h
versions_are spaces kn log (g ∷ gs) m h tid ts e = on (may_answer kn g) h (λ i. versions_are spaces kn log gs m i tid ts e)
  where
    on : (b : Bool) → In m (messages_of (cond b (version_for me spaces log g ∷ versions me spaces kn log gs) (versions me spaces kn log gs)))
        → (In m (messages_of (versions me spaces kn log gs)) → ⊥) → ⊥
    on true (inl f) again = absurd (let k = f ∙ e in cc)
    on true (inr i) again = again i
    on false i again = again i

pub once_append : (ms ns : List Message) → ((m m' : Message) → In m ms → In m' ms → SameKey m m' → m ≡ m')
    → ((m m' : Message) → In m' ns → SameKey m m' → ⊥) → (m m' : Message) → In m (ms ++ ns) → In m' (ms ++ ns) → SameKey m m' → m ≡ m'
once_append ms ns old new m m' i j k =
    ⊎_elim
    (λ (a : In m ms). ⊎_elim (λ (b : In m' ms). old m m' a b k) (λ b. absurd (new m m' b k)) (in_either m' ms ns j))
    (λ a. absurd (new m' m a (SameKey-sym m m' k)))
    (in_either m ms ns i)

pub answers_all : (spaces : Spaces) (p : Partition) (l : Ledger) → SharedFacts l
    → SharedFacts (with_messages l (messages_of (versions me spaces (known me p) p.log p.parked)))
answers_all spaces p l h =
    record {
      told = h.told;
      once = once_append l.messages _ h.once
          (λ m m' i k. no_version_key m m' (versions_from spaces (known me p) p.log p.parked m' i) (versions_are spaces (known me p) p.log p.parked m' i) k);
    }

-- PREPARE
contains-in : (t : Tid) (ts : List Tid) → In t ts → contains_tid t ts ≡ true
contains-in t [] h = absurd h
contains-in t (u ∷ us) (inl e) = first (tid_eq u t) _ (ap (λ x. tid_eq x t) e ∙ tid_eq-same t)
  where
    first : (a b : Bool) → a ≡ true → (a || b) ≡ true
    first a b e = rw e refl
contains-in t (u ∷ us) (inr i) = second (tid_eq u t) _ (contains-in t us i)
  where
    second : (a b : Bool) → b ≡ true → (a || b) ≡ true
    second true b e = refl
    second false b e = e

pub prepare_moves : (spaces : Spaces) (p : Partition) (l : Ledger) (tid : Tid) (sn : List ℕ) (ws : List Write) → timestamp_for me p sn ≤ 2 ^ 62
    → contains_tid tid p.done ≡ false → PartitionFacts spaces p l → In (message.Prepare tid sn ws) l.messages
    → Moves spaces p (prepared me p tid sn ws) l (message.Prepared tid (timestamp_for me p sn) ∷ [])
prepare_moves spaces p l tid sn ws small fresh h asked =
    let ts = timestamp_for me p sn in
    let m = message.Prepared tid ts in
    let p' = prepared me p tid sn ws in
    let q : PreparedTx = record { tid = tid; ts = ts; snapshot = sn; writes = ws } in
    let there : StillPrepared p'.prepared tid ts = record { entry_of = q; here = in_last p.prepared q; tid_is = refl; ts_is = refl } in
    record {
      later = prepared_later p tid sn ws h.ok;
      ok = prepared_keeps p tid sn ws small (λ i. true≢false (sym (contains-in tid p.done i) ∙ fresh)) h.ok;
      done = prefix_append p.done (tid ∷ []);
      sent = in_one FromPartition m tt;
      true' = in_one (IsTrue spaces p' (with_messages l (m ∷ []))) m (record { done = in_last p.done tid; until = inl there });
      parked = h.parked;
      prepared =
          in_push (PreparedFacts p'.done (l.messages ++ m ∷ [])) p.prepared q
          (λ r i. let f = h.prepared r i in record {
            done = in_front _ p.done (tid ∷ []) f.done;
            asked = in_front _ l.messages (m ∷ []) f.asked;
            told = in_front _ l.messages (m ∷ []) f.told;
            above = f.above;
          })
          (record {
            done = in_last p.done tid;
            asked = in_front _ l.messages (m ∷ []) asked;
            told = in_last l.messages m;
            above = omega (arith, next_timestamp-above);
          });
      log = h.log;
      still = λ t n f. inl (record { entry_of = f.entry_of; here = in_front _ p.prepared (q ∷ []) f.here; tid_is = f.tid_is; ts_is = f.ts_is });
      kept =
          λ c i w k. ⊎_elim (λ (f : StillPrepared p.prepared c.begun.tid (entry c.vector 1)). inl
          (record { entry_of = f.entry_of; here = in_front _ p.prepared (q ∷ []) f.here; tid_is = f.tid_is; ts_is = f.ts_is })) (λ f. inr f) k;
    }

new_told : (spaces : Spaces) (p : Partition) (l : Ledger) (tid : Tid) (n : ℕ) → PartitionFacts spaces p l → contains_tid tid p.done ≡ false
    → (m : Message) → In m l.messages → SameKey m (message.Prepared tid n) → ⊥
new_told spaces p l tid n h fresh (message.Prepared t k) i e =
    let f = (h.messages _ i).done in
    true≢false (sym (contains-in tid p.done (subst (λ x. In x p.done) e f)) ∙ fresh)
new_told spaces p l tid n h fresh (message.Get t k a sn i o own) j e = e
new_told spaces p l tid n h fresh (message.Version v) j e = e
new_told spaces p l tid n h fresh (message.Prepare t sn ws) j e = e
new_told spaces p l tid n h fresh (message.Commit t v) j e = e
new_told spaces p l tid n h fresh _ j e = e

pub prepare_all : (spaces : Spaces) (p : Partition) (l : Ledger) (tid : Tid) (n : ℕ) → PartitionFacts spaces p l → SharedFacts l
    → contains_tid tid p.done ≡ false → SharedFacts (with_messages l (message.Prepared tid n ∷ []))
prepare_all spaces p l tid n h all fresh =
    record { told = all.told; once = once_push l.messages (message.Prepared tid n) all.once (new_told spaces p l tid n h fresh) }

-- COMMIT
pub commit_moves : (spaces : Spaces) (p : Partition) (l : Ledger) (tid : Tid) (v : List ℕ) (i : ℕ) (q : PreparedTx) → PartitionFacts spaces p l
    → SharedFacts l → In (message.Commit tid v) l.messages → slice_get p.prepared i ≡ Some q → In q p.prepared → is_of tid q ≡ true → q.ts ≤ entry v 1
    → Moves spaces p (committed me p v i q) l []
commit_moves spaces p l tid v i q h all asked got here of le =
    let d : DecidedAt l.history.committed tid v = h.messages _ asked in
    let f = h.decided d.decision d.here in
    let q_is : q.tid ≡ tid = tid_eq-true q.tid tid of in
    let c_is : q.tid ≡ d.decision.begun.tid = q_is ∙ sym d.tid_is in
    let pf = h.prepared q here in
    let same = all.once _ _ pf.asked (f.asked d.has) c_is in
    let writes_is : q.writes ≡ writes_of spaces p.log d.decision = cc in
    let later = committed_later p v i q here le h.ok in
    let writes_later = writes_of-later spaces p (committed me p v i q) l d.decision later h d.here in
    let e : LogTx = record { tid = q.tid; strong = false; vector = v; writes = q.writes } in
    record {
      later = later;
      ok = committed_keeps p v i q (subst (λ x. entry x 1 ≤ 2 ^ 62) d.vector_is f.small) got h.ok;
      done = prefix_refl _;
      sent = λ m j. absurd j;
      true' = λ m j. absurd j;
      parked = h.parked;
      prepared = λ r j. prepared_more p.done l.messages [] r (h.prepared r (in_removed p.prepared i r j));
      log = in_push (IsDecision spaces (committed me p v i q).log l.history.committed) p.log e
          (λ x j. let g = h.log x j in record {
            decision = g.decision;
            here = g.here;
            tid_is = g.tid_is;
            vector_is = g.vector_is;
            writes_is = sym (writes_of-later spaces p (committed me p v i q) l g.decision later h g.here) ∙ g.writes_is;
          })
          (record { decision = d.decision; here = d.here; tid_is = sym c_is; vector_is = d.vector_is; writes_is = sym (writes_is ∙ writes_later) });
      still = λ t n s. still_of t n s d c_is (removed_in p.prepared i s.entry_of q got s.here);
      kept =
          λ c j w k. ⊎_elim (λ (s : StillPrepared p.prepared c.begun.tid (entry c.vector 1)). kept_of c j s d q_is
          (removed_in p.prepared i s.entry_of q got s.here)) (λ (s : InLog p.log c). inr
          (record { entry_of = s.entry_of; here = in_front _ p.log (e ∷ []) s.here; tid_is = s.tid_is; vector_is = s.vector_is })) k;
    }
  where
    still_of : (t : Tid) (n : ℕ) → (s : StillPrepared p.prepared t n) → (d : DecidedAt l.history.committed tid v) → q.tid ≡ d.decision.begun.tid
        → In s.entry_of (committed me p v i q).prepared ⊎ (q ≡ s.entry_of)
        → StillPrepared (committed me p v i q).prepared t n ⊎ IsDecided l.history.committed t
    still_of t n s d c_is (inl j) = inl (record { entry_of = s.entry_of; here = j; tid_is = s.tid_is; ts_is = s.ts_is })
    still_of t n s d c_is (inr e) = inr (record { decision = d.decision; here = d.here; tid_is = sym c_is ∙ ap (λ (x : PreparedTx). x.tid) e ∙ s.tid_is })

    kept_of : (c : Committed) → In c l.history.committed → (s : StillPrepared p.prepared c.begun.tid (entry c.vector 1))
        → (d : DecidedAt l.history.committed tid v) → q.tid ≡ tid → In s.entry_of (committed me p v i q).prepared ⊎ (q ≡ s.entry_of)
        → StillPrepared (committed me p v i q).prepared c.begun.tid (entry c.vector 1) ⊎ InLog (committed me p v i q).log c
    kept_of c j s d q_is (inl k) = inl (record { entry_of = s.entry_of; here = k; tid_is = s.tid_is; ts_is = s.ts_is })
    kept_of c j s d q_is (inr k) =
        let e : LogTx = record { tid = q.tid; strong = false; vector = v; writes = q.writes } in
        let t_is : q.tid ≡ c.begun.tid = ap (λ (x : PreparedTx). x.tid) k ∙ s.tid_is in
        let same : d.decision ≡ c = all.told.decided_once d.decision c d.here j (d.tid_is ∙ sym q_is ∙ t_is) in
        inr (record { entry_of = e; here = in_last p.log e; tid_is = t_is; vector_is = sym d.vector_is ∙ ap (λ (x : Committed). x.vector) same })
