-- What each rule of a session keeps.
use Rattle.std.proofs.Common.{◌≡◌, ◌⊎◌, inl, inr, ⊎_elim, ℕ, zero, suc, ◌+◌, ◌<◌, ◌≤◌, ◌^◌, List, [], ◌∷◌, ◌++◌, length, Bool, true, false, refl, sym}
use Rattle.std.proofs.Common.{ap, ◌∙◌, subst, arith, cond, true≢false}
use Rattle.std.specs.Prelude.{Some, None, Option, nat_lt}
use Rattle.us_kind.specs.Comparison.{In, tid_eq}
use Rattle.us_kind.specs.declared.identity.Tid.{Tid}
use Rattle.us_kind.proofs.ListLemmas.{in_front, in_push, in_one, in_later, in_grown, in_split, in_old, in_last, IsPrefix, prefix_refl, prefix_append}
use Rattle.us_kind.proofs.Members.{later_push}
use Rattle.us_kind.proofs.TestLemmas.{tid_eq-true, tid_eq-same}
use Rattle.us_base.specs.Vector.{entry, at_most, join, with_entry}
use Rattle.us_base.proofs.Vectors.{at_most-refl, at_most-from, at_most-join_left, at_most-join_right, entry-join, entry-with_same, entry-with_other}
use Rattle.us_value.specs.declared.item.Item.{Item}
use Rattle.us_value.specs.declared.item.Write.{Write}
use Rattle.us_value.specs.declared.operation.Op.{Op}
use Rattle.us_value.specs.declared.operation.Effect.{Effect}
use Rattle.us_value.specs.declared.operation.Answer.{Answer}
use Rattle.us_value.specs.Lengths.{answer_length}
use Rattle.us_value.specs.Values.{op_fits, answered, prepared as prepared_effect}
use Rattle.us_exec.specs.declared.SessionName.{SessionName}
use Rattle.us_exec.specs.declared.Done.{Done}
use Rattle.us_exec.specs.Past.{session_eq}
use Rattle.us_client_wire.specs.declared.frame.Reply.TheVariants as reply
use Rattle.us_peer_wire.specs.declared.message.Message.{Message}
use Rattle.us_peer_wire.specs.declared.message.Message.TheVariants as message
use Rattle.us_peer_wire.specs.declared.message.Version.{Version}
use Rattle.us_peer_wire.specs.declared.message.Form.TheVariants as form
use Rattle.us_model.specs.declared.event.Note.TheVariants as note
use Rattle.us_history.specs.declared.LogTx.{LogTx}
use Rattle.us_model.specs.declared.coordinator.Transaction.{Transaction}
use Rattle.us_model.specs.declared.coordinator.QueuedRequest.{QueuedRequest}
use Rattle.us_model.specs.declared.coordinator.Await.{Await}
use Rattle.us_model.specs.declared.coordinator.Await.TheVariants as waits
use Rattle.us_model.specs.declared.coordinator.Session.{Session}
use Rattle.us_model.specs.declared.coordinator.Context.{Context}
use Rattle.us_model.specs.State.{Partition, Spaces}
use Rattle.us_history.specs.Histories.{Begun, Performed, Committed, History, begun_of, ops_of, has_own_vector, committed_in}
use Rattle.us_history.specs.States.{kind_for, own_effects, state_at}
use Rattle.us_snapshots.specs.Acts.{Fits, act_of, writes_in, effect_at, acts_of}
use Rattle.us_snapshots.proofs.Acts.{writes_in-append, HasWrites, acts_from-push, update-writes, writes-update}
use Rattle.us_snapshots.proofs.Stands.{StandsEarlier, earlier_front, earlier_push}
use Rattle.us_snapshots.specs.Snapshots.{writes_of}
use Rattle.us_model.specs.Partitions.{known, is_too_long, form_for}
use Rattle.us_model.specs.Sessions.{SessionStep, with_packets, with_note, tell, to_partition, home, next_tid, begun_transaction, begun, asked_for, ended}
use Rattle.us_model.specs.Sessions.{sent_out, write_of, recorded, decided, session_name}
use Rattle.us_model.specs.Executions.{decided_as, decided_one}
use Rattle.us_order.proofs.Ledgers.{me, name, Ledger, with_messages, with_told, Stands, stands_packets, stands_note, stands_tell}
use Rattle.us_order.proofs.Partition.{own_known-clock, horizon}
use Rattle.us_order.proofs.Writes.{writes_in-one}
use Rattle.us_order.proofs.OnePartition.{sent_to_one, sent_out_one, decided_at_one}
use Rattle.us_order.proofs.Queue.{Ascends}
use Rattle.us_order.proofs.Facts.{OfBegun, ops_of-none, ops_of-same, ops_of-still, IsTrueAnswer, AllTrue, AllTrue-push, AllTrue-fits, StillPrepared}
use Rattle.us_order.proofs.Facts.{IsDecided, IsTrue, Numbered, DecidedFacts, PartitionFacts, SameKey, once_push, BegunForm, HistoryFacts, SharedFacts}
use Rattle.us_order.proofs.Facts.{Waits, waits-later, WaitsForPrepared, begun_as, RunningFacts, SessionFacts, OfSession, FromSession, Grows}
use Rattle.us_order.proofs.Facts.{grows_nowhere, grows_further}

-- what is known before a rule
pub record Facts (spaces : Spaces) (p : Partition) (l : Ledger) (s : Session) : Type 0 where
  pub part : PartitionFacts spaces p l
  pub all : SharedFacts l
  pub mine : SessionFacts spaces p.log l s.number s.past s.running s.waits s.requests s.asked

-- a frame that comes after the one that was performed last, and before those that wait
abbrev pub IsNext : (spaces : Spaces) (p : Partition) (l : Ledger) (s : Session) → Facts spaces p l s → ℕ → Type 0
IsNext spaces p l s h at = (h.mine.last < at) × Ascends at s.requests s.asked

-- what a rule keeps
pub record Preserves (spaces : Spaces) (b : Ledger) (p : Partition) (l : Ledger) (n : ℕ) (a : SessionStep) : Type 0 where
  pub ledger : Ledger
  pub stands : Stands b p ledger a.context
  pub grow : Grows n l ledger
  pub facts : Facts spaces p ledger a.session
  pub number : a.session.number ≡ n

pub preserves_trans : (spaces : Spaces) (b : Ledger) (p : Partition) (l : Ledger) (n : ℕ) (a c : SessionStep) (k : Preserves spaces b p l n a)
    → Preserves spaces b p k.ledger n c → Preserves spaces b p l n c
preserves_trans spaces b p l n a c k h = record { ledger = h.ledger; stands = h.stands; grow = grows_further k.grow h.grow; facts = h.facts; number = h.number }

-- TRUTH LASTS
pub is_true-later : (spaces : Spaces) (p : Partition) (l l' : Ledger) (m : Message) → IsPrefix l.messages l'.messages
    → IsPrefix l.history.begun l'.history.begun → IsPrefix l.history.committed l'.history.committed → IsTrue spaces p l m → IsTrue spaces p l' m
is_true-later spaces p l l' (message.Get tid place at snapshot item op own) g b d h =
    record { by = h.by; here = in_later _ b h.here; tid_is = h.tid_is; snapshot_is = h.snapshot_is; fits = h.fits }
is_true-later spaces p l l' (message.Version v) g b d h =
    record { snapshot = h.snapshot; item = h.item; op = h.op; own = h.own; asked = in_later _ g h.asked; is_known = h.is_known; is = h.is }
is_true-later spaces p l l' (message.Prepare tid snapshot writes) g b d h =
    record { by = h.by; here = in_later _ b h.here; tid_is = h.tid_is; snapshot_is = h.snapshot_is }
is_true-later spaces p l l' (message.Prepared tid ts) g b d h =
    record {
      done = h.done;
      until = ⊎_elim (λ a. inl a)
          (λ (k : IsDecided l.history.committed tid). inr (record { decision = k.decision; here = in_later _ d k.here; tid_is = k.tid_is })) h.until;
    }
is_true-later spaces p l l' (message.Commit tid vector) g b d h =
    record { decision = h.decision; here = in_later _ d h.here; tid_is = h.tid_is; vector_is = h.vector_is; has = h.has }
is_true-later spaces p l l' _ g b d h = h

committed_in-append : (s : SessionName) (cs ds : List Committed) → committed_in s cs ≤ committed_in s (cs ++ ds)
committed_in-append s [] ds = omega arith
committed_in-append s (c ∷ cs) ds = on (session_eq c.begun.session s) (committed_in-append s cs ds)
  where
    on : (b : Bool) → committed_in s cs ≤ committed_in s (cs ++ ds)
        → cond b (committed_in s cs + 1) (committed_in s cs) ≤ cond b (committed_in s (cs ++ ds) + 1) (committed_in s (cs ++ ds))
    on true h = omega arith
    on false h = h

numbered-later : (cs ds : List Committed) (c : Committed) → IsPrefix cs ds → Numbered cs c → Numbered ds c
numbered-later cs ds c g h =
    let e = committed_in-append c.begun.session cs g.rest in
    let w = h.within in
    record { from_one = h.from_one; within = subst (λ xs. c.number ≤ committed_in c.begun.session xs) (sym g.is) (omega arith) }

decided-later : (spaces : Spaces) (p : Partition) (l l' : Ledger) (c : Committed) → IsPrefix l.messages l'.messages
    → IsPrefix l.history.begun l'.history.begun → IsPrefix l.history.committed l'.history.committed → c.ops ≡ ops_of c.begun.tid l'.history.performed
    → DecidedFacts spaces p l c → DecidedFacts spaces p l' c
decided-later spaces p l l' c g b d ops h = record {
  begun = in_later _ b h.begun;
  ops = ops;
  grows = h.grows;
  same = h.same;
  above = h.above;
  asked = λ w. in_later _ g (h.asked w);
  kept = h.kept;
  small = h.small;
  numbered = numbered-later l.history.committed l'.history.committed c d h.numbered;
}

-- the partition's facts need only what is new
pub part_grows : (spaces : Spaces) (p : Partition) (n : ℕ) (l l' : Ledger) → (g : Grows n l l') → PartitionFacts spaces p l
    → ((m : Message) → In m g.messages.rest → IsTrue spaces p l' m)
    → ((c : Committed) → In c l.history.committed → c.ops ≡ ops_of c.begun.tid l'.history.performed)
    → ((c : Committed) → In c g.committed.rest → DecidedFacts spaces p l' c)
    → ((b : Begun) → In b l'.history.begun → AllTrue spaces p b.tid b.snapshot [] (ops_of b.tid l'.history.performed))
    → PartitionFacts spaces p l'
part_grows spaces p n l l' g h new_messages ops new_decided answers =
    record {
      ok = h.ok;
      messages =
          λ m i. ⊎_elim (λ a. is_true-later spaces p l l' m g.messages g.begun g.committed (h.messages m a)) (λ b. new_messages m b)
          (in_grown m g.messages i);
      parked = λ q i. in_later _ g.messages (h.parked q i);
      prepared =
          λ q i. let f = h.prepared q i in record {
            done = f.done;
            asked = in_later _ g.messages f.asked;
            told = in_later _ g.messages f.told;
            above = f.above;
          };
      log =
          λ e i. let f = h.log e i in record {
            decision = f.decision;
            here = in_later _ g.committed f.here;
            tid_is = f.tid_is;
            vector_is = f.vector_is;
            writes_is = f.writes_is;
          };
      decided =
          λ c i. ⊎_elim (λ a. decided-later spaces p l l' c g.messages g.begun g.committed (ops c a) (h.decided c a)) (λ b. new_decided c b)
          (in_grown c g.committed i);
      answers = answers;
    }

-- nothing new is shared
pub preserves_same : (spaces : Spaces) (b : Ledger) (p : Partition) (l : Ledger) (s s' : Session) (d : Context) → Stands b p l d → Facts spaces p l s
    → SessionFacts spaces p.log l s'.number s'.past s'.running s'.waits s'.requests s'.asked → s'.number ≡ s.number
    → Preserves spaces b p l s.number (record { context = d; session = s' })
preserves_same spaces b p l s s' d st h mine n =
    record { ledger = l; stands = st; grow = grows_nowhere s.number l; facts = record { part = h.part; all = h.all; mine = mine }; number = n }

abbrev mine_of : (spaces : Spaces) (log : List LogTx) (l : Ledger) (n last : ℕ) (w : Await) (tx : Transaction)
    → RunningFacts spaces log l n last w tx → OfSession l.history.begun n tx.tid
mine_of spaces log l n last w tx run = record { by = begun_as n tx; here = run.begun; tid_is = refl; session_is = refl }

-- one more message, of session n
abbrev grows_message : (l : Ledger) (n : ℕ) (m : Message) → FromSession (with_messages l (m ∷ [])) n m → Grows n l (with_messages l (m ∷ []))
grows_message l n m from = record {
  messages = prefix_append l.messages (m ∷ []);
  sent = in_one (FromSession (with_messages l (m ∷ [])) n) m from;
  begun = prefix_refl _;
  begins = λ b i. absurd i;
  performed = prefix_refl _;
  performs = λ q i. absurd i;
  committed = prefix_refl _;
  decides = λ c i. absurd i;
}

idle_prepared : (w : Await) → w ≡ waits.Nothing → WaitsForPrepared w → ⊥
idle_prepared w e h = subst WaitsForPrepared e h

-- PERFORM
new_get : (spaces : Spaces) (log : List LogTx) (l : Ledger) (n last : ℕ) (w : Await) (at : ℕ) (tx : Transaction) (item : Item) (op : Op)
    (own : List (ℕ × Effect)) → RunningFacts spaces log l n last w tx → last < at → (m : Message) → In m l.messages
    → SameKey m (message.Get tx.tid (length tx.ops + 1) at tx.snapshot item op own) → ⊥
new_get spaces log l n last w at tx item op own run less (message.Get t k a sn i o own') h key =
    let e = key.2 in
    let le : a ≤ last = run.gets k a sn i o own' (let P : Tid → Type 0 = λ t. In (message.Get t k a sn i o own') l.messages in subst P key.0 h) in
    omega arith
new_get spaces log l n last w at tx item op own run less _ h key = absurd key

pub asked_for_keeps : (spaces : Spaces) (b : Ledger) (p : Partition) (l : Ledger) (d : Context) (s : Session) (at : ℕ) (tx : Transaction) (item : Item)
    (op : Op) → Fits spaces item op → Stands b p l d → (h : Facts spaces p l s) → s.running ≡ Some tx → s.waits ≡ waits.Nothing
    → IsNext spaces p l s h at → Preserves spaces b p l s.number (asked_for d s at tx item op)
asked_for_keeps spaces b p l d s at tx item op fits st h running idle next =
    let run = h.mine.runs tx running in
    let m = message.Get tx.tid (length tx.ops + 1) at tx.snapshot item op (own_effects item tx.writes) in
    let l' = with_messages l (m ∷ []) in
    let g = grows_message l s.number m (mine_of spaces p.log l s.number h.mine.last s.waits tx run) in
    let w' = waits.Version at (length tx.ops + 1) item op in
    record {
      ledger = l';
      stands = stands_packets b p l d (to_partition d (home d.shape item) m ∷ []) st;
      grow = g;
      facts = record {
        part =
            part_grows spaces p s.number l l' g h.part (in_one (IsTrue spaces p l') m
            (record { by = begun_as s.number tx; here = run.begun; tid_is = refl; snapshot_is = refl; fits = fits }))
            (λ c i. (h.part.decided c i).ops) (λ c i. absurd i) h.part.answers;
        all =
            record {
              told = h.all.told;
              once = once_push l.messages m h.all.once
                  (new_get spaces p.log l s.number h.mine.last s.waits at tx item op (own_effects item tx.writes) run next.0);
            };
        mine = record {
          covered = h.mine.covered;
          small = h.mine.small;
          last = at;
          queue = next.1;
          runs = λ t e. let same : tx ≡ t = cc in subst (RunningFacts spaces p.log l' s.number at w') same (record {
            begun = run.begun;
            ops = run.ops;
            writes = run.writes;
            after = run.after;
            latest = run.latest;
            gets =
                λ place at' sn i o own j. ⊎_elim (λ k. omega (arith, run.gets place at' sn i o own k, next.0))
                (λ (e : m ≡ message.Get tx.tid place at' sn i o own). let f : at ≡ at' = cc in omega arith) (in_split _ l.messages m j);
            prepares = λ sn ws j. absurd (idle_prepared s.waits idle (run.prepares sn ws (in_old _ l.messages m (λ e. cc) j)));
            waiting = (refl, in_last l.messages m);
          });
        };
      };
      number = refl;
    }

-- COMMIT of a transaction with writes: PREPARE goes out
new_prepare : (spaces : Spaces) (log : List LogTx) (l : Ledger) (n last : ℕ) (w : Await) (tx : Transaction) → RunningFacts spaces log l n last w tx
    → w ≡ waits.Nothing → (m : Message) → In m l.messages → SameKey m (message.Prepare tx.tid tx.snapshot tx.writes) → ⊥
new_prepare spaces log l n last w tx run idle (message.Prepare t sn ws) h k =
    idle_prepared w idle (run.prepares sn ws (let P : Tid → Type 0 = λ t. In (message.Prepare t sn ws) l.messages in subst P k h))
new_prepare spaces log l n last w tx run idle (message.Get t m a sn i o own) h k = k
new_prepare spaces log l n last w tx run idle (message.Version v) h k = k
new_prepare spaces log l n last w tx run idle (message.Prepared t m) h k = k
new_prepare spaces log l n last w tx run idle (message.Commit t v) h k = k
new_prepare spaces log l n last w tx run idle _ h k = k

sent_to_one_keeps : (spaces : Spaces) (b : Ledger) (p : Partition) (l : Ledger) (d : Context) (s : Session) (at : ℕ) (tx : Transaction) → Stands b p l d
    → Facts spaces p l s → s.running ≡ Some tx → s.waits ≡ waits.Nothing → HasWrites tx.writes → Preserves spaces b p l s.number (sent_to_one d s at tx)
sent_to_one_keeps spaces b p l d s at tx st h running idle has =
    let run = h.mine.runs tx running in
    let m = message.Prepare tx.tid tx.snapshot tx.writes in
    let l' = with_messages l (m ∷ []) in
    let g = grows_message l s.number m (mine_of spaces p.log l s.number h.mine.last s.waits tx run) in
    let w' = waits.Prepared at (1 ∷ []) [] in
    record {
      ledger = l';
      stands = stands_packets b p l d (to_partition d 1 m ∷ []) st;
      grow = g;
      facts = record {
        part =
            part_grows spaces p s.number l l' g h.part (in_one (IsTrue spaces p l') m
            (record { by = begun_as s.number tx; here = run.begun; tid_is = refl; snapshot_is = refl })) (λ c i. (h.part.decided c i).ops)
            (λ c i. absurd i) h.part.answers;
        all = record { told = h.all.told; once = once_push l.messages m h.all.once (new_prepare spaces p.log l s.number h.mine.last s.waits tx run idle) };
        mine = record {
          covered = h.mine.covered;
          small = h.mine.small;
          last = h.mine.last;
          queue = h.mine.queue;
          runs = λ t e. let same : tx ≡ t = cc in subst (RunningFacts spaces p.log l' s.number h.mine.last w') same (record {
            begun = run.begun;
            ops = run.ops;
            writes = run.writes;
            after = run.after;
            latest = run.latest;
            gets = λ place at' sn i o own j. run.gets place at' sn i o own (in_old _ l.messages m (λ e. cc) j);
            prepares = λ sn ws j. tt;
            waiting = (has, refl, refl, in_last l.messages m);
          });
        };
      };
      number = refl;
    }

pub sent_out_keeps : (spaces : Spaces) (b : Ledger) (p : Partition) (l : Ledger) (d : Context) (s : Session) (at : ℕ) (tx : Transaction) → Stands b p l d
    → Facts spaces p l s → s.running ≡ Some tx → s.waits ≡ waits.Nothing → HasWrites tx.writes → Preserves spaces b p l s.number (sent_out d s at tx)
sent_out_keeps spaces b p l d s at tx st h running idle has =
    subst (Preserves spaces b p l s.number) (sym (sent_out_one d s at tx st.one has)) (sent_to_one_keeps spaces b p l d s at tx st h running idle has)

-- BEGIN
abbrev pub tid_after : ℕ → Tid
tid_after n = record { site = 1; coord = 1; seq = n + 1 }

abbrev pub begins_with : Ledger → ℕ → List ℕ → Begun
begins_with l n snapshot = record { tid = tid_after l.seq; session = name n; snapshot = snapshot }

abbrev pub with_begun : Ledger → Begun → Ledger
with_begun l b = record { seq = l.seq + 1; messages = l.messages; history = record l.history { begun = l.history.begun ++ b ∷ [] } }

next-new : (last : ℕ) (h : History) → HistoryFacts last h → (b : Begun) → In b h.begun → b.tid ≡ tid_after last → ⊥
next-new last h all b i e = let f : b.tid.seq ≡ last + 1 = ap (λ (t : Tid). t.seq) e in omega (arith, (all.begun_form b i).seq)

begun_history : (l : Ledger) (n : ℕ) (snapshot : List ℕ) → HistoryFacts l.seq l.history → entry snapshot 1 ≤ 2 ^ 62
    → ((c : Committed) → In c l.history.committed → c.begun.session ≡ name n → at_most c.vector snapshot ≡ true)
    → HistoryFacts (l.seq + 1) (with_begun l (begins_with l n snapshot)).history
begun_history l n snapshot h small covered = record {
  begun_once = λ x y i j e. once x y e (in_split x l.history.begun new i) (in_split y l.history.begun new j);
  begun_apart = later_push (λ (x y : Begun). x.tid ≡ y.tid → ⊥) l.history.begun new h.begun_apart (next-new l.seq l.history h);
  begun_form =
      in_push (BegunForm (l.seq + 1)) l.history.begun new
      (λ x i. let f = h.begun_form x i in record { site = f.site; coord = f.coord; seq = omega (arith, f.seq); session = f.session; small = f.small })
      (record { site = refl; coord = refl; seq = omega arith; session = refl; small = small });
  performed = λ q i. let f = h.performed q i in record { by = f.by; here = in_front _ l.history.begun (new ∷ []) f.here; tid_is = f.tid_is };
  order =
      λ c x i j e less. ⊎_elim (λ k. h.order c x i k e less)
      (λ k. subst (λ (y : Begun). at_most c.vector y.snapshot ≡ true) k (covered c i (e ∙ sym (ap (λ (y : Begun). y.session) k))))
      (in_split x l.history.begun new j);
  apart = h.apart;
  decided_once = h.decided_once;
  numbers = h.numbers;
  stands = h.stands;
}
  where
    new : Begun
    new = begins_with l n snapshot

    once : (x y : Begun) → x.tid ≡ y.tid → In x l.history.begun ⊎ (new ≡ x) → In y l.history.begun ⊎ (new ≡ y) → x ≡ y
    once x y e (inl i) (inl j) = h.begun_once x y i j e
    once x y e (inl i) (inr k) = absurd (next-new l.seq l.history h x i (e ∙ sym (ap (λ (z : Begun). z.tid) k)))
    once x y e (inr k) (inl j) = absurd (next-new l.seq l.history h y j (sym e ∙ sym (ap (λ (z : Begun). z.tid) k)))
    once x y e (inr k) (inr m) = sym k ∙ m

-- the base is at most the clock
base_small : (spaces : Spaces) (p : Partition) (l : Ledger) → PartitionFacts spaces p l → entry (known me p) 1 ≤ 2 ^ 62
base_small spaces p l h = let a = own_known-clock p.clock p.prepared h.ok.below_clock in omega (arith, entry-with_same p.received 1 (horizon p), h.ok.small)

new_answers : (spaces : Spaces) (p : Partition) (l : Ledger) → PartitionFacts spaces p l → HistoryFacts l.seq l.history → (b : Begun)
    → b.tid ≡ tid_after l.seq → AllTrue spaces p b.tid b.snapshot [] (ops_of b.tid l.history.performed)
new_answers spaces p l part h b e =
    subst (AllTrue spaces p b.tid b.snapshot []) (sym (ops_of-none b.tid l.history.performed
    (λ q i f. let o = h.performed q i in next-new l.seq l.history h o.by o.here (o.tid_is ∙ f ∙ e)))) tt

begun_keeps_at : (spaces : Spaces) (b : Ledger) (p : Partition) (l : Ledger) (d : Context) (s : Session) (at : ℕ) → d.seq ≡ l.seq
    → Stands b p l (record d { me = me; base = known me p; seq = l.seq }) → Facts spaces p l s → s.waits ≡ waits.Nothing
    → Preserves spaces b p l s.number (begun (record d { me = me; base = known me p; seq = l.seq }) s at)
begun_keeps_at spaces b p l d s at same st h idle =
    let d0 : Context = record d { me = me; base = known me p; seq = l.seq } in
    let snapshot = join s.past (known me p) in
    let tx : Transaction = begun_transaction d0 s in
    let new = begins_with l s.number snapshot in
    let l' = with_begun l new in
    let small : entry snapshot 1 ≤ 2 ^ 62 = omega (arith, entry-join s.past (known me p) 1, base_small spaces p l h.part, h.mine.small) in
    let told =
    stands_note b p l (tell d0 s (reply.Started at (next_tid d0))) (note.Begun (next_tid d0) (session_name d0 s) snapshot)
    (stands_tell b p l d0 s (reply.Started at (next_tid d0)) st) in
    let told_history = begun_history l s.number snapshot h.all.told small (λ c i e. at_most-join_left c.vector s.past (known me p) (h.mine.covered c i e)) in
    let g : Grows s.number l l' = record {
      messages = prefix_refl _;
      sent = λ m i. absurd i;
      begun = prefix_append l.history.begun (new ∷ []);
      begins = in_one (λ (x : Begun). x.session ≡ name s.number) new refl;
      performed = prefix_refl _;
      performs = λ q i. absurd i;
      committed = prefix_refl _;
      decides = λ c i. absurd i;
    } in
    record {
      ledger = l';
      stands = record { actor = told.actor; one = told.one; base = told.base; seq = refl; messages = told.messages; history = told.history };
      grow = g;
      facts = record {
        part = part_grows spaces p s.number l l' g h.part (λ m i. absurd i) (λ c i. (h.part.decided c i).ops) (λ c i. absurd i)
            (in_push (λ x. AllTrue spaces p x.tid x.snapshot [] (ops_of x.tid l.history.performed)) l.history.begun new h.part.answers
            (new_answers spaces p l h.part h.all.told new refl));
        all = record { told = told_history; once = h.all.once };
        mine = record {
          covered = h.mine.covered;
          small = h.mine.small;
          last = h.mine.last;
          queue = h.mine.queue;
          runs = λ t e. let same : tx ≡ t = cc in subst (RunningFacts spaces p.log l' s.number h.mine.last s.waits) same (record {
            begun = in_last l.history.begun new;
            ops =
                sym (ops_of-none tx.tid l.history.performed (λ q i f. let o = h.all.told.performed q i in next-new l.seq l.history h.all.told o.by
                o.here (o.tid_is ∙ f)));
            writes = refl;
            after = λ c i e. omega (arith, (h.all.told.begun_form _ (h.part.decided c i).begun).seq);
            latest =
                in_push (λ (x : Begun). x.session ≡ name s.number → x.tid.seq ≤ l.seq + 1) l.history.begun new
                (λ x i e. omega (arith, (h.all.told.begun_form x i).seq)) (λ e. omega arith);
            gets = λ place at' sn i o own j. absurd (let f = h.part.messages _ j in next-new l.seq l.history h.all.told f.by f.here f.tid_is);
            prepares = λ sn ws j. absurd (let f = h.part.messages _ j in next-new l.seq l.history h.all.told f.by f.here f.tid_is);
            waiting = rw idle tt;
          });
        };
      };
      number = refl;
    }

pub begun_keeps : (spaces : Spaces) (b : Ledger) (p : Partition) (l : Ledger) (d : Context) (s : Session) (at : ℕ) → Stands b p l d → Facts spaces p l s
    → s.waits ≡ waits.Nothing → Preserves spaces b p l s.number (begun d s at)
begun_keeps spaces b p l d s at st h idle =
    let d0 : Context = record d { me = me; base = known me p; seq = l.seq } in
    let e : d0 ≡ d = λ i. record d { me = sym st.actor i; base = sym st.base i; seq = sym st.seq i } in
    subst (λ x. Preserves spaces b p l s.number (begun x s at)) e
    (begun_keeps_at spaces b p l d s at st.seq (record {
      actor = refl;
      one = st.one;
      base = refl;
      seq = refl;
      messages = st.messages;
      history = st.history;
    }) h idle)

-- A DECISION

-- the transaction that runs is not decided yet
undecided : (spaces : Spaces) (p : Partition) (l : Ledger) (n last : ℕ) (w : Await) (tx : Transaction) → PartitionFacts spaces p l → SharedFacts l
    → RunningFacts spaces p.log l n last w tx → (c : Committed) → In c l.history.committed → c.begun.tid ≡ tx.tid → ⊥
undecided spaces p l n last w tx part all run c i e =
    let same = all.told.begun_once c.begun (begun_as n tx) (part.decided c i).begun run.begun e in
    let less = run.after c i (ap (λ (b : Begun). b.session) same) in
    let f : c.begun.tid.seq ≡ tx.tid.seq = ap (λ (t : Tid). t.seq) e in
    omega arith

begun_of-found : (bs : List Begun) (b : Begun) → In b bs → ((x : Begun) → In x bs → x.tid ≡ b.tid → x ≡ b) → begun_of b.tid bs ≡ Some b
begun_of-found [] b h one = absurd h
begun_of-found (x ∷ bs) b h one = on (tid_eq x.tid b.tid) refl (λ i. begun_of-found bs b i (λ y j e. one y (inr j) e)) h
  where
    on : (t : Bool) → tid_eq x.tid b.tid ≡ t → (In b bs → begun_of b.tid bs ≡ Some b) → In b (x ∷ bs) → cond t (Some x) (begun_of b.tid bs) ≡ Some b
    on true e again i = ap Some (one x (inl refl) (tid_eq-true x.tid b.tid e))
    on false e again (inl s) = absurd (true≢false (sym (tid_eq-same b.tid) ∙ ap (λ (y : Begun). tid_eq y.tid b.tid) (sym s) ∙ e))
    on false e again (inr i) = again i

session_eq-same : (s : SessionName) → session_eq s s ≡ true
session_eq-same s = grind arith

committed_in-push : (s : SessionName) (cs : List Committed) (c : Committed) → c.begun.session ≡ s → committed_in s (cs ++ c ∷ []) ≡ committed_in s cs + 1
committed_in-push s [] c e = on (session_eq c.begun.session s) (ap (λ x. session_eq x s) e ∙ session_eq-same s)
  where
    on : (b : Bool) → b ≡ true → cond b (0 + 1) 0 ≡ 0 + 1
    on true h = refl
    on false h = absurd (true≢false (sym h))
committed_in-push s (x ∷ cs) c e = on (session_eq x.begun.session s) (committed_in-push s cs c e)
  where
    on : (b : Bool) → committed_in s (cs ++ c ∷ []) ≡ committed_in s cs + 1
        → cond b (committed_in s (cs ++ c ∷ []) + 1) (committed_in s (cs ++ c ∷ [])) ≡ cond b (committed_in s cs + 1) (committed_in s cs) + 1
    on true h = ap (λ k. k + 1) h
    on false h = h

abbrev with_decided : History → Committed → History
with_decided h c = record h { committed = h.committed ++ c ∷ [] }

abbrev decision : Ledger → ℕ → Transaction → List ℕ → Committed
decision l n tx vector = decided_as l.history false vector (begun_as n tx)

decided_history : (spaces : Spaces) (p : Partition) (l : Ledger) (n last : ℕ) (w : Await) (tx : Transaction) (vector : List ℕ)
    → PartitionFacts spaces p l → SharedFacts l → RunningFacts spaces p.log l n last w tx
    → HistoryFacts l.seq (with_decided l.history (decision l n tx vector))
decided_history spaces p l n last w tx vector part all run = record {
  begun_once = all.told.begun_once;
  begun_apart = all.told.begun_apart;
  begun_form = all.told.begun_form;
  performed = all.told.performed;
  order = λ c x i j e less. ⊎_elim (λ k. all.told.order c x k j e less) (λ k. order_new c x k j e less) (in_split c cs new i);
  apart = later_push (λ (c d : Committed). c.begun.tid ≡ d.begun.tid → ⊥) cs new all.told.apart (λ c i e. undecided spaces p l n last w tx part all run c i e);
  decided_once = λ c d i j e. once c d e (in_split c cs new i) (in_split d cs new j);
  numbers = λ c d i j e less. numbers c d e less (in_split c cs new i) (in_split d cs new j);
  stands = λ c d i j e less. stands c d e less (in_split c cs new i) (in_split d cs new j);
}
  where
    cs : List Committed
    cs = l.history.committed

    new : Committed
    new = decision l n tx vector

    seq_is : (c : Committed) → new ≡ c → c.begun.tid.seq ≡ tx.tid.seq
    seq_is c k = sym (ap (λ (x : Committed). x.begun.tid.seq) k)

    session_is : (c : Committed) → new ≡ c → c.begun.session ≡ name n
    session_is c k = sym (ap (λ (x : Committed). x.begun.session) k)

    order_new : (c : Committed) (x : Begun) → new ≡ c → In x l.history.begun → c.begun.session ≡ x.session → c.begun.tid.seq < x.tid.seq
        → at_most c.vector x.snapshot ≡ true
    order_new c x k j e less = absurd (let f = run.latest x j (sym e ∙ session_is c k) in let g = seq_is c k in omega arith)

    once : (c d : Committed) → c.begun.tid ≡ d.begun.tid → In c cs ⊎ (new ≡ c) → In d cs ⊎ (new ≡ d) → c ≡ d
    once c d e (inl i) (inl j) = all.told.decided_once c d i j e
    once c d e (inl i) (inr k) = absurd (undecided spaces p l n last w tx part all run c i (e ∙ sym (ap (λ (x : Committed). x.begun.tid) k)))
    once c d e (inr k) (inl j) = absurd (undecided spaces p l n last w tx part all run d j (sym e ∙ sym (ap (λ (x : Committed). x.begun.tid) k)))
    once c d e (inr k) (inr m) = sym k ∙ m

    too_late : (c d : Committed) → c.begun.session ≡ d.begun.session → c.begun.tid.seq < d.begun.tid.seq → new ≡ c → In d cs ⊎ (new ≡ d) → ⊥
    too_late c d e less k (inl j) = let f = run.after d j (sym e ∙ session_is c k) in let g = seq_is c k in omega arith
    too_late c d e less k (inr m) = let f = seq_is c k in let g = seq_is d m in omega arith

    numbers : (c d : Committed) → c.begun.session ≡ d.begun.session → c.begun.tid.seq < d.begun.tid.seq → In c cs ⊎ (new ≡ c) → In d cs ⊎ (new ≡ d)
        → c.number < d.number
    numbers c d e less (inl i) (inl j) = all.told.numbers c d i j e less
    numbers c d e less (inl i) (inr k) =
        let s : c.begun.session ≡ name n = e ∙ session_is d k in
        let f : c.number ≤ committed_in (name n) cs = subst (λ x. c.number ≤ committed_in x cs) s (part.decided c i).numbered.within in
        let g : committed_in (name n) cs + 1 ≡ d.number = ap (λ (x : Committed). x.number) k in
        omega arith
    numbers c d e less (inr k) j = absurd (too_late c d e less k j)

    stands : (c d : Committed) → c.begun.session ≡ d.begun.session → c.begun.tid.seq < d.begun.tid.seq → In c cs ⊎ (new ≡ c) → In d cs ⊎ (new ≡ d)
        → StandsEarlier c d (cs ++ new ∷ [])
    stands c d e less (inl i) (inl j) = earlier_front c d cs (new ∷ []) (all.told.stands c d i j e less)
    stands c d e less (inl i) (inr k) = subst (λ x. StandsEarlier c x (cs ++ new ∷ [])) k (earlier_push c new cs i)
    stands c d e less (inr k) j = absurd (too_late c d e less k j)

-- a session after its transaction's end
ended_session : (spaces : Spaces) (log : List LogTx) (l : Ledger) (n : ℕ) (past : List ℕ) (running : Option Transaction) (w : Await)
    (requests : List QueuedRequest) (asked : ℕ) (new : Committed) → entry new.vector 1 ≤ 2 ^ 62 → SessionFacts spaces log l n past running w requests asked
    → SessionFacts spaces log (record l { history = with_decided l.history new }) n (join past new.vector) None waits.Nothing requests asked
ended_session spaces log l n past running w requests asked new small h = record {
  covered =
      λ c i e. ⊎_elim (λ j. at_most-join_left c.vector past new.vector (h.covered c j e))
      (λ k. subst (λ (x : Committed). at_most x.vector (join past new.vector) ≡ true) k
      (at_most-join_right new.vector past new.vector (at_most-refl new.vector))) (in_split c l.history.committed new i);
  small = omega (arith, entry-join past new.vector 1, h.small);
  last = h.last;
  queue = h.queue;
  runs = λ t e. absurd (cc);
}

-- what was told of it is what it wrote
writes_told : (spaces : Spaces) (log : List LogTx) (l : Ledger) (n last : ℕ) (w : Await) (tx : Transaction) → RunningFacts spaces log l n last w tx
    → tx.writes ≡ writes_in (acts_of spaces log tx.tid tx.snapshot (ops_of tx.tid l.history.performed))
writes_told spaces log l n last w tx run = run.writes ∙ ap (λ ds. writes_in (acts_of spaces log tx.tid tx.snapshot ds)) run.ops

-- the decision is told
stands_decided : (spaces : Spaces) (b : Ledger) (p : Partition) (l : Ledger) (d : Context) (n last : ℕ) (w : Await) (tx : Transaction)
    (vector : List ℕ) → SharedFacts l → RunningFacts spaces p.log l n last w tx → Stands b p l d
    → Stands b p (record l { history = with_decided l.history (decision l n tx vector) }) (with_note d (note.Decided tx.tid vector))
stands_decided spaces b p l d n last w tx vector all run st =
    let f = stands_note b p l d (note.Decided tx.tid vector) st in
    let one = begun_of-found l.history.begun (begun_as n tx) run.begun (λ x i e. all.told.begun_once x (begun_as n tx) i run.begun e) in
    record {
      actor = f.actor;
      one = f.one;
      base = f.base;
      seq = f.seq;
      messages = f.messages;
      history = sym (ap (decided_one l.history false vector) one) ∙ f.history;
    }

abbrev grows_decided : (l : Ledger) (n : ℕ) (tx : Transaction) (vector : List ℕ)
    → Grows n l (record l { history = with_decided l.history (decision l n tx vector) })
grows_decided l n tx vector = record {
  messages = prefix_refl _;
  sent = λ m i. absurd i;
  begun = prefix_refl _;
  begins = λ x i. absurd i;
  performed = prefix_refl _;
  performs = λ q i. absurd i;
  committed = prefix_append l.history.committed (decision l n tx vector ∷ []);
  decides = in_one (λ (c : Committed). c.begun.session ≡ name n) (decision l n tx vector) refl;
}

-- the end of a transaction, whose facts as a decided one are given
ended_keeps : (spaces : Spaces) (b : Ledger) (p : Partition) (l : Ledger) (d : Context) (s : Session) (at : ℕ) (tx : Transaction) (vector : List ℕ)
    → Stands b p l d → Facts spaces p l s → s.running ≡ Some tx
    → DecidedFacts spaces p (record l { history = with_decided l.history (decision l s.number tx vector) }) (decision l s.number tx vector)
    → Preserves spaces b p l s.number (ended d s at tx vector)
ended_keeps spaces b p l d s at tx vector st h running f =
    let run = h.mine.runs tx running in
    let new = decision l s.number tx vector in
    let l' : Ledger = record l { history = with_decided l.history new } in
    let g = grows_decided l s.number tx vector in
    record {
      ledger = l';
      stands =
          stands_decided spaces b p l (tell d s (reply.Committed at (s.count + 1))) s.number h.mine.last s.waits tx vector h.all run
          (stands_tell b p l d s (reply.Committed at (s.count + 1)) st);
      grow = g;
      facts = record {
        part =
            part_grows spaces p s.number l l' g h.part (λ m i. absurd i) (λ c i. (h.part.decided c i).ops) (in_one (DecidedFacts spaces p l') new f)
            h.part.answers;
        all = record { told = decided_history spaces p l s.number h.mine.last s.waits tx vector h.part h.all run; once = h.all.once };
        mine = ended_session spaces p.log l s.number s.past s.running s.waits s.requests s.asked new f.small h.mine;
      };
      number = refl;
    }

new_numbered : (l : Ledger) (n : ℕ) (tx : Transaction) (vector : List ℕ)
    → Numbered (l.history.committed ++ decision l n tx vector ∷ []) (decision l n tx vector)
new_numbered l n tx vector =
    record { from_one = omega arith; within = let e = committed_in-push (name n) l.history.committed (decision l n tx vector) refl in omega arith }

-- COMMIT of a transaction without writes
pub ends_keeps : (spaces : Spaces) (b : Ledger) (p : Partition) (l : Ledger) (d : Context) (s : Session) (at : ℕ) (tx : Transaction) → Stands b p l d
    → Facts spaces p l s → s.running ≡ Some tx → tx.writes ≡ [] → Preserves spaces b p l s.number (ended d s at tx tx.snapshot)
ends_keeps spaces b p l d s at tx st h running none =
    let run = h.mine.runs tx running in
    let ds = ops_of tx.tid l.history.performed in
    let fits = AllTrue-fits spaces p tx.tid tx.snapshot [] ds (h.part.answers (begun_as s.number tx) run.begun) in
    let no : has_own_vector (decision l s.number tx tx.snapshot) ≡ true → ⊥ =
    λ w. subst HasWrites (sym (writes_told spaces p.log l s.number h.mine.last s.waits tx run) ∙ none)
    (update-writes spaces p.log tx.tid tx.snapshot ds fits w) in
    ended_keeps spaces b p l d s at tx tx.snapshot st h running (record {
      begun = run.begun;
      ops = refl;
      grows = at_most-refl tx.snapshot;
      same = λ _. refl;
      above = λ w. absurd (no w);
      asked = λ w. absurd (no w);
      kept = λ w. absurd (no w);
      small = (h.all.told.begun_form (begun_as s.number tx) run.begun).small;
      numbered = new_numbered l s.number tx tx.snapshot;
    })

at_most-with : (v : List ℕ) (x : ℕ) → entry v 1 ≤ x → at_most v (with_entry v 1 x) ≡ true
at_most-with v x h = at_most-from v (with_entry v 1 x) at
  where
    at : (i : ℕ) → entry v i ≤ entry (with_entry v 1 x) i
    at zero = omega (arith, entry-with_other v 1 x 0 (λ e. cc))
    at (suc zero) = omega (arith, entry-with_same v 1 x)
    at (suc (suc i)) = omega (arith, entry-with_other v 1 x (suc (suc i)) (λ e. omega arith))

no_key : (m : Message) (t : Tid) (v : List ℕ) → SameKey m (message.Commit t v) → ⊥
no_key (message.Prepare t sn ws) u v k = k
no_key (message.Get t n a sn i o own) u v k = k
no_key (message.Version x) u v k = k
no_key (message.Prepared t n) u v k = k
no_key (message.Commit t w) u v k = k
no_key _ u v k = k

-- PREPARED: the decision of a transaction with writes, which COMMIT tells
above_snapshot : (spaces : Spaces) (p : Partition) (l : Ledger) (tx : Transaction) (ts : ℕ) → PartitionFacts spaces p l → SharedFacts l
    → In (message.Prepare tx.tid tx.snapshot tx.writes) l.messages → StillPrepared p.prepared tx.tid ts → entry tx.snapshot 1 < ts
above_snapshot spaces p l tx ts part all asked still =
    let f = part.prepared still.entry_of still.here in
    let e = all.once _ _ f.asked asked still.tid_is in
    let k : still.entry_of.snapshot ≡ tx.snapshot = cc in
    let ab = f.above in
    let tis = still.ts_is in
    subst (λ v. entry v 1 < ts) k (omega arith)

decided_at_one_keeps : (spaces : Spaces) (b : Ledger) (p : Partition) (l : Ledger) (d : Context) (s : Session) (at : ℕ) (tx : Transaction) (ts : ℕ)
    → Stands b p l d → Facts spaces p l s → s.running ≡ Some tx → HasWrites tx.writes → In (message.Prepare tx.tid tx.snapshot tx.writes) l.messages
    → In (message.Prepared tx.tid ts) l.messages
    → Preserves spaces b p l s.number (ended (with_packets d (to_partition d 1 (message.Commit tx.tid (with_entry tx.snapshot 1 ts)) ∷ [])) s at tx
    (with_entry tx.snapshot 1 ts))
decided_at_one_keeps spaces b p l d s at tx ts st h running has asked told =
    let run = h.mine.runs tx running in
    let vector = with_entry tx.snapshot 1 ts in
    let m = message.Commit tx.tid vector in
    let new = decision l s.number tx vector in
    let ls : Ledger = with_messages l (m ∷ []) in
    let l' : Ledger = record ls { history = with_decided l.history new } in
    let d' = with_packets d (to_partition d 1 m ∷ []) in
    let told_is = writes_told spaces p.log l s.number h.mine.last s.waits tx run in
    let still : StillPrepared p.prepared tx.tid ts =
    ⊎_elim (λ a. a) (λ (k : IsDecided l.history.committed tx.tid). absurd
    (undecided spaces p l s.number h.mine.last s.waits tx h.part h.all run k.decision k.here k.tid_is)) (h.part.messages _ told).until in
    let above : entry tx.snapshot 1 < ts = above_snapshot spaces p l tx ts h.part h.all asked still in
    let below : still.entry_of.ts ≤ p.clock = h.part.ok.below_clock still.entry_of still.here in
    let ts_is = still.ts_is in
    let small : ts ≤ 2 ^ 62 = omega (arith, h.part.ok.small) in
    let same : entry vector 1 ≡ ts = entry-with_same tx.snapshot 1 ts in
    let ds = ops_of tx.tid l.history.performed in
    let fits = AllTrue-fits spaces p tx.tid tx.snapshot [] ds (h.part.answers (begun_as s.number tx) run.begun) in
    let updates : has_own_vector new ≡ true = writes-update spaces p.log tx.tid tx.snapshot ds fits (subst HasWrites told_is has) in
    let asked' : In (message.Prepare tx.tid tx.snapshot (writes_of spaces p.log new)) l.messages =
    subst (λ ws. In (message.Prepare tx.tid tx.snapshot ws) l.messages) told_is asked in
    let g : Grows s.number l l' = record {
      messages = prefix_append l.messages (m ∷ []);
      sent = in_one (FromSession l' s.number) m tt;
      begun = prefix_refl _;
      begins = λ x i. absurd i;
      performed = prefix_refl _;
      performs = λ q i. absurd i;
      committed = prefix_append l.history.committed (new ∷ []);
      decides = in_one (λ (c : Committed). c.begun.session ≡ name s.number) new refl;
    } in
    let f : DecidedFacts spaces p l' new = record {
      begun = run.begun;
      ops = refl;
      grows = at_most-with tx.snapshot ts (omega arith);
      same = λ no. absurd (no updates);
      above = λ w. omega arith;
      asked = λ w. in_front _ l.messages (m ∷ []) asked';
      kept = λ w. inl (subst (λ k. StillPrepared p.prepared tx.tid k) (sym same) still);
      small = omega arith;
      numbered = new_numbered l s.number tx vector;
    } in
    record {
      ledger = l';
      stands =
          stands_decided spaces b p ls (tell d' s (reply.Committed at (s.count + 1))) s.number h.mine.last s.waits tx vector
          (record { told = h.all.told; once = once_push l.messages m h.all.once (λ x i k. no_key x tx.tid vector k) })
          (running_message p.log l s.number h.mine.last s.waits tx m run (λ t n a sn i o own e. cc) (λ t sn ws e. cc))
          (stands_tell b p ls d' s (reply.Committed at (s.count + 1)) (stands_packets b p l d (to_partition d 1 m ∷ []) st));
      grow = g;
      facts = record {
        part =
            part_grows spaces p s.number l l' g h.part (in_one (IsTrue spaces p l') m
            (record { decision = new; here = in_last l.history.committed new; tid_is = refl; vector_is = refl; has = updates }))
            (λ c i. (h.part.decided c i).ops) (in_one (DecidedFacts spaces p l') new f) h.part.answers;
        all =
            record {
              told = decided_history spaces p l s.number h.mine.last s.waits tx vector h.part h.all run;
              once = once_push l.messages m h.all.once (λ x i k. no_key x tx.tid vector k);
            };
        mine =
            let e = ended_session spaces p.log l s.number s.past s.running s.waits s.requests s.asked new f.small h.mine
            in record { covered = e.covered; small = e.small; last = e.last; queue = e.queue; runs = λ t q. absurd (cc) };
      };
      number = refl;
    }
  where
    running_message : (log : List LogTx) (l : Ledger) (n last : ℕ) (w : Await) (tx : Transaction) (m : Message) → RunningFacts spaces log l n last w tx
        → ((t : Tid) (n a : ℕ) (sn : List ℕ) (i : Item) (o : Op) (own : List (ℕ × Effect)) → m ≡ message.Get t n a sn i o own → ⊥)
        → ((t : Tid) (sn : List ℕ) (ws : List Write) → m ≡ message.Prepare t sn ws → ⊥)
        → RunningFacts spaces log (with_messages l (m ∷ [])) n last w tx
    running_message log l n last w tx m run no_get no_prepare = record {
      begun = run.begun;
      ops = run.ops;
      writes = run.writes;
      after = run.after;
      latest = run.latest;
      gets = λ place at sn i o own j. run.gets place at sn i o own (in_old _ l.messages m (no_get _ _ _ _ _ _ _) j);
      prepares = λ sn ws j. run.prepares sn ws (in_old _ l.messages m (no_prepare _ _ _) j);
      waiting = waits-later l (with_messages l (m ∷ [])) tx w (prefix_append l.messages (m ∷ [])) run.waiting;
    }

pub decided_keeps : (spaces : Spaces) (b : Ledger) (p : Partition) (l : Ledger) (d : Context) (s : Session) (at : ℕ) (tx : Transaction) (ts : ℕ)
    → Stands b p l d → Facts spaces p l s → s.running ≡ Some tx → HasWrites tx.writes → In (message.Prepare tx.tid tx.snapshot tx.writes) l.messages
    → In (message.Prepared tx.tid ts) l.messages → Preserves spaces b p l s.number (decided d s at tx (with_entry tx.snapshot 1 ts))
decided_keeps spaces b p l d s at tx ts st h running has asked told =
    subst (Preserves spaces b p l s.number) (sym (decided_at_one d s at tx (with_entry tx.snapshot 1 ts) st.one has))
    (decided_at_one_keeps spaces b p l d s at tx ts st h running has asked told)

-- VERSION: an operation is answered
-- what is told where it isn't too long
told_form : (answer a : Answer) (effect e : Option Effect) → form.Answered answer effect ≡ form_for a e → (answer ≡ a) × (effect ≡ e)
told_form answer a effect e h = on (nat_lt 65000 (answer_length a)) (is_too_long e) h
  where
    on : (b c : Bool) → form.Answered answer effect ≡ cond b form.AnswerFull (cond c form.WritesFull (form.Answered a e)) → (answer ≡ a) × (effect ≡ e)
    on true c k = absurd (cc)
    on false true k = absurd (cc)
    on false false k = (cc, cc)

pub recorded_keeps : (spaces : Spaces) (b : Ledger) (p : Partition) (l : Ledger) (d : Context) (s : Session) (at place : ℕ) (item : Item) (op : Op)
    (tx : Transaction) (answer : Answer) (effect : Option Effect) (v : Version) → Stands b p l d → Facts spaces p l s → s.running ≡ Some tx
    → s.waits ≡ waits.Version at place item op → v.tid ≡ tx.tid → v.place ≡ place → v.at ≡ at → v.form ≡ form.Answered answer effect
    → In (message.Version v) l.messages → Preserves spaces b p l s.number (recorded d s at place item op tx answer effect)
recorded_keeps spaces b p l d s at place item op tx answer effect v st h running waiting tid_is place_is at_is form_is told =
    let run = h.mine.runs tx running in
    let w : Waits l tx (waits.Version at place item op) = subst (Waits l tx) waiting run.waiting in
    let a = h.part.messages _ told in
    let e = h.all.once _ _ a.asked w.1 (tid_is, place_is, at_is) in
    let e1 : a.snapshot ≡ tx.snapshot = cc in
    let e2 : a.item ≡ item = cc in
    let e3 : a.op ≡ op = cc in
    let e4 : a.own ≡ own_effects item tx.writes = cc in
    let e5 = told_form answer _ effect _ (sym form_is ∙ a.is) in
    let answer_is : answer ≡ answered a.op (state_at spaces p.log v.tid a.snapshot a.item a.own) = e5.0 in
    let effect_is : effect ≡ prepared_effect (record { tid = v.tid; place = v.place }) a.op (state_at spaces p.log v.tid a.snapshot a.item a.own) = e5.1 in
    let requests = h.part.messages _ a.asked in
    let fits : Fits spaces item op = (λ i. op_fits (kind_for spaces (sym e2 i).space) (sym e3 i)) ∙ requests.fits in
    let told_is = writes_told spaces p.log l s.number h.mine.last s.waits tx run in
    let done : Done = record { item = item; op = op; answer = answer } in
    let q : Performed = record { tid = tx.tid; done = done } in
    let before = ops_of tx.tid l.history.performed in
    let new_answer : IsTrueAnswer spaces p tx.tid tx.snapshot before done = record {
      is_known = subst (λ sn. at_most sn (known me p) ≡ true) e1 a.is_known;
      fits = fits;
      is =
          answer_is ∙ (λ i. answered (e3 i) (state_at spaces p.log (tid_is i) (e1 i) (e2 i) (e4 i))) ∙ ap
          (λ ws. answered op (state_at spaces p.log tx.tid tx.snapshot item (own_effects item ws))) told_is;
    } in
    let acts = acts_of spaces p.log tx.tid tx.snapshot tx.ops in
    let effect_here : effect ≡ effect_at spaces p.log tx.tid tx.snapshot acts place done =
    effect_is
    ∙ (λ i. prepared_effect (record { tid = tid_is i; place = place_is i }) (e3 i) (state_at spaces p.log (tid_is i) (e1 i) (e2 i) (e4 i)))
    ∙ ap (λ ws. prepared_effect (record { tid = tx.tid; place = place }) op (state_at spaces p.log tx.tid tx.snapshot item (own_effects item ws))) run.writes in
    let l' = with_told l (note.Performed tx.tid done) in
    let tx' : Transaction = record tx { ops = tx.ops ++ done ∷ []; writes = tx.writes ++ write_of item place effect } in
    let g : Grows s.number l l' = record {
      messages = prefix_refl _;
      sent = λ m i. absurd i;
      begun = prefix_refl _;
      begins = λ x i. absurd i;
      performed = prefix_append l.history.performed (q ∷ []);
      performs = in_one (λ (x : Performed). OfSession l'.history.begun s.number x.tid) q (mine_of spaces p.log l s.number h.mine.last s.waits tx run);
      committed = prefix_refl _;
      decides = λ c i. absurd i;
    } in
    record {
      ledger = l';
      stands = stands_note b p l (tell d s (reply.Answered at answer)) (note.Performed tx.tid done) (stands_tell b p l d s (reply.Answered at answer) st);
      grow = g;
      facts = record {
        part = part_grows spaces p s.number l l' g h.part (λ m i. absurd i)
            (λ c i. (h.part.decided c i).ops ∙ sym (ops_of-still c.begun.tid l.history.performed (l.history.performed ++ q ∷ []) g.performed
            (in_one (λ (x : Performed). x.tid ≡ c.begun.tid → ⊥) q
            (λ f. undecided spaces p l s.number h.mine.last s.waits tx h.part h.all run c i (sym f)))))
            (λ c i. absurd i)
            (λ x i. answers_of p l tx s.number h.mine.last s.waits done h.part h.all run new_answer x i (tid_eq x.tid tx.tid) refl);
        all = record { told = told_performed l q (record { by = begun_as s.number tx; here = run.begun; tid_is = refl }) h.all.told; once = h.all.once };
        mine = record {
          covered = h.mine.covered;
          small = h.mine.small;
          last = h.mine.last;
          queue = h.mine.queue;
          runs = λ t e. let same : tx' ≡ t = cc in subst (RunningFacts spaces p.log l' s.number h.mine.last waits.Nothing) same (record {
            begun = run.begun;
            ops = ap (λ ds. ds ++ done ∷ []) run.ops ∙ sym (ops_of-same tx.tid l.history.performed done);
            writes = writes_on p.log tx item op answer place effect w.0 run.writes effect_here;
            after = run.after;
            latest = run.latest;
            gets = run.gets;
            prepares = λ sn ws j. absurd (subst WaitsForPrepared waiting (run.prepares sn ws j));
            waiting = tt;
          });
        };
      };
      number = refl;
    }
  where
    writes_on : (log : List LogTx) (tx : Transaction) (item : Item) (op : Op) (answer : Answer) (place : ℕ) (effect : Option Effect) → place ≡ length tx.ops + 1
        → tx.writes ≡ writes_in (acts_of spaces log tx.tid tx.snapshot tx.ops)
        → effect ≡ effect_at spaces log tx.tid tx.snapshot (acts_of spaces log tx.tid tx.snapshot tx.ops) place
        (record { item = item; op = op; answer = answer })
        → tx.writes ++ write_of item place effect ≡ writes_in
        (acts_of spaces log tx.tid tx.snapshot (tx.ops ++ record { item = item; op = op; answer = answer } ∷ []))
    writes_on log tx item op answer place effect e f k =
        let done : Done = record { item = item; op = op; answer = answer } in
        let acts = acts_of spaces log tx.tid tx.snapshot tx.ops in
        let g : place ≡ 1 + length tx.ops = omega arith in
        (λ i. f i ++ write_of item place (k i))
        ∙ ap (λ n. writes_in acts ++ write_of item n (effect_at spaces log tx.tid tx.snapshot acts n done)) g
        ∙ ap (λ ws. writes_in acts ++ ws) (sym (writes_in-one done (1 + length tx.ops) (effect_at spaces log tx.tid tx.snapshot acts (1 + length tx.ops) done)))
        ∙ sym (writes_in-append acts (act_of done (1 + length tx.ops) (effect_at spaces log tx.tid tx.snapshot acts (1 + length tx.ops) done)))
        ∙ ap writes_in (sym (acts_from-push spaces log tx.tid tx.snapshot 1 [] tx.ops done))

    told_performed : (l : Ledger) (q : Performed) → (o : OfBegun l.history.begun q.tid) → HistoryFacts l.seq l.history
        → HistoryFacts l.seq (record l.history { performed = l.history.performed ++ q ∷ [] })
    told_performed l q o h = record {
      begun_once = h.begun_once;
      begun_apart = h.begun_apart;
      begun_form = h.begun_form;
      performed = in_push (λ (x : Performed). OfBegun l.history.begun x.tid) l.history.performed q h.performed o;
      order = h.order;
      apart = h.apart;
      decided_once = h.decided_once;
      numbers = h.numbers;
      stands = h.stands;
    }

    answers_of : (p : Partition) (l : Ledger) (tx : Transaction) (n last : ℕ) (w : Await) (done : Done) → PartitionFacts spaces p l → SharedFacts l
        → RunningFacts spaces p.log l n last w tx → IsTrueAnswer spaces p tx.tid tx.snapshot (ops_of tx.tid l.history.performed) done → (x : Begun)
        → In x l.history.begun → (t : Bool) → tid_eq x.tid tx.tid ≡ t
        → AllTrue spaces p x.tid x.snapshot [] (ops_of x.tid (l.history.performed ++ record { tid = tx.tid; done = done } ∷ []))
    answers_of p l tx n last w done part all run new x i true e =
        let same = all.told.begun_once (begun_as n tx) x run.begun i (sym (tid_eq-true x.tid tx.tid e)) in
        let P : Begun → Type 0 = λ y. AllTrue spaces p y.tid y.snapshot [] (ops_of y.tid (l.history.performed ++ record { tid = tx.tid; done = done } ∷ [])) in
        let old = part.answers (begun_as n tx) run.begun in
        subst P same (subst (AllTrue spaces p tx.tid tx.snapshot []) (sym (ops_of-same tx.tid l.history.performed done))
        (AllTrue-push spaces p tx.tid tx.snapshot [] (ops_of tx.tid l.history.performed) done old new))
    answers_of p l tx n last w done part all run new x i false e =
        let q : Performed = record { tid = tx.tid; done = done } in
        let still =
        ops_of-still x.tid l.history.performed (l.history.performed ++ q ∷ []) (prefix_append l.history.performed (q ∷ []))
        (in_one (λ (y : Performed). y.tid ≡ x.tid → ⊥) q (λ f. true≢false (sym (tid_eq-same x.tid) ∙ ap (tid_eq x.tid) (sym f) ∙ e))) in
        subst (AllTrue spaces p x.tid x.snapshot []) (sym still) (part.answers x i)
