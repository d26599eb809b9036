-- The facts that every event keeps.
use Rattle.std.proofs.Common.{◌≡◌, ◌⊎◌, inl, inr, ⊎_elim, ℕ, ◌+◌, ◌<◌, ◌≤◌, ◌^◌, List, [], ◌∷◌, ◌++◌, length, append-nil, append_assoc, Bool, true}
use Rattle.std.proofs.Common.{false, refl, sym, ap, ◌∙◌, subst, cond, true≢false}
use Rattle.std.specs.Prelude.{Some, Option}
use Rattle.us_kind.specs.Comparison.{In, tid_eq}
use Rattle.us_kind.specs.declared.identity.Tid.{Tid}
use Rattle.us_kind.proofs.ListLemmas.{in_append, in_split, in_later, in_grown, IsPrefix, prefix_refl, prefix_trans}
use Rattle.us_kind.proofs.TestLemmas.{tid_eq-true, tid_eq-same}
use Rattle.us_base.specs.Vector.{entry, at_most}
use Rattle.us_kind.specs.Updates.{AllLater}
use Rattle.us_value.specs.declared.item.Item.{Item}
use Rattle.us_value.specs.declared.item.Write.{Write}
use Rattle.us_value.specs.declared.operation.Op.{Op}
use Rattle.us_value.specs.declared.operation.Effect.{Effect}
use Rattle.us_value.specs.Values.{answered, prepared as prepared_effect}
use Rattle.us_exec.specs.declared.SessionName.{SessionName}
use Rattle.us_exec.specs.declared.Done.{Done}
use Rattle.us_peer_wire.specs.declared.message.Message.{Message}
use Rattle.us_peer_wire.specs.declared.message.Message.TheVariants as message
use Rattle.us_peer_wire.specs.declared.message.Form.{Form}
use Rattle.us_history.specs.declared.LogTx.{LogTx}
use Rattle.us_model.specs.declared.partition.PreparedTx.{PreparedTx}
use Rattle.us_model.specs.declared.partition.Get.{Get}
use Rattle.us_model.specs.declared.coordinator.Transaction.{Transaction}
use Rattle.us_model.specs.declared.coordinator.QueuedRequest.{QueuedRequest}
use Rattle.us_model.specs.declared.coordinator.Await.{Await}
use Rattle.us_model.specs.declared.coordinator.Await.TheVariants as waits
use Rattle.us_model.specs.State.{Partition, Spaces}
use Rattle.us_history.specs.Histories.{Begun, Performed, Committed, History, ops_of, committed_in, has_own_vector}
use Rattle.us_history.specs.States.{own_effects, state_at}
use Rattle.us_snapshots.specs.Snapshots.{writes_of, IsDecision}
use Rattle.us_snapshots.proofs.Stands.{StandsEarlier}
use Rattle.us_snapshots.specs.Acts.{Fits, AllFits, writes_in, met_by, acts_of}
use Rattle.us_snapshots.proofs.Acts.{HasWrites}
use Rattle.us_model.specs.Partitions.{known, form_for}
use Rattle.us_order.proofs.Ledgers.{me, name, Ledger}
use Rattle.us_order.proofs.Partition.{PartitionOk}
use Rattle.us_order.proofs.Queue.{Ascends}

-- THE OPERATIONS THAT WERE TOLD OF A TRANSACTION
pub ops_of-append : (tid : Tid) (xs ys : List Performed) → ops_of tid (xs ++ ys) ≡ ops_of tid xs ++ ops_of tid ys
ops_of-append tid [] ys = refl
ops_of-append tid (x ∷ xs) ys = on (tid_eq x.tid tid) (ops_of-append tid xs ys)
  where
    on : (b : Bool) → ops_of tid (xs ++ ys) ≡ ops_of tid xs ++ ops_of tid ys
        → cond b (x.done ∷ ops_of tid (xs ++ ys)) (ops_of tid (xs ++ ys)) ≡ cond b (x.done ∷ ops_of tid xs) (ops_of tid xs) ++ ops_of tid ys
    on true e = ap (λ l. x.done ∷ l) e
    on false e = e

pub ops_of-none : (tid : Tid) (xs : List Performed) → ((q : Performed) → In q xs → q.tid ≡ tid → ⊥) → ops_of tid xs ≡ []
ops_of-none tid [] none = refl
ops_of-none tid (x ∷ xs) none = on (tid_eq x.tid tid) refl (ops_of-none tid xs (λ q i. none q (inr i)))
  where
    on : (b : Bool) → tid_eq x.tid tid ≡ b → ops_of tid xs ≡ [] → cond b (x.done ∷ ops_of tid xs) (ops_of tid xs) ≡ []
    on true e again = absurd (none x (inl refl) (tid_eq-true x.tid tid e))
    on false e again = again

pub ops_of-same : (tid : Tid) (xs : List Performed) (d : Done) → ops_of tid (xs ++ record { tid = tid; done = d } ∷ []) ≡ ops_of tid xs ++ d ∷ []
ops_of-same tid xs d = ops_of-append tid xs _ ∙ ap (λ l. ops_of tid xs ++ l) (on (tid_eq tid tid) (tid_eq-same tid))
  where
    on : (b : Bool) → b ≡ true → cond b (d ∷ []) [] ≡ d ∷ []
    on true e = refl
    on false e = absurd (true≢false (sym e))

-- nothing new was told of this one
pub ops_of-still : (tid : Tid) (xs ys : List Performed) (g : IsPrefix xs ys) → ((q : Performed) → In q g.rest → q.tid ≡ tid → ⊥) → ops_of tid ys ≡ ops_of tid xs
ops_of-still tid xs ys g none = ap (ops_of tid) g.is ∙ ops_of-append tid xs g.rest ∙ ap (λ l. ops_of tid xs ++ l) (ops_of-none tid g.rest none) ∙ append-nil _

-- ANSWERS
-- the answer is the log's at the snapshot, and then the operations' before it
pub record IsTrueAnswer (spaces : Spaces) (p : Partition) (tid : Tid) (snapshot : List ℕ) (before : List Done) (a : Done) : Type 0 where
  pub is_known : at_most snapshot (known me p) ≡ true
  pub fits : Fits spaces a.item a.op
  pub is : a.answer ≡ answered a.op (met_by spaces p.log tid snapshot a.item (acts_of spaces p.log tid snapshot before))

abbrev pub AllTrue : Spaces → Partition → Tid → List ℕ → List Done → List Done → Type 0
AllTrue spaces p tid snapshot before [] = Unit {0}
AllTrue spaces p tid snapshot before (a ∷ rest) = IsTrueAnswer spaces p tid snapshot before a × AllTrue spaces p tid snapshot (before ++ a ∷ []) rest

pub AllTrue-push : (spaces : Spaces) (p : Partition) (tid : Tid) (sn : List ℕ) (before as' : List Done) (a : Done)
    → AllTrue spaces p tid sn before as' → IsTrueAnswer spaces p tid sn (before ++ as') a → AllTrue spaces p tid sn before (as' ++ a ∷ [])
AllTrue-push spaces p tid sn before [] a h t = (subst (λ l. IsTrueAnswer spaces p tid sn l a) (append-nil before) t, tt)
AllTrue-push spaces p tid sn before (x ∷ as') a h t = (
  h.0,
  AllTrue-push spaces p tid sn (before ++ x ∷ []) as' a h.1
      (subst (λ l. IsTrueAnswer spaces p tid sn l a) (sym (append_assoc before (x ∷ []) as')) t),
)

pub AllTrue-fits : (spaces : Spaces) (p : Partition) (tid : Tid) (sn : List ℕ) (before as' : List Done) → AllTrue spaces p tid sn before as'
    → AllFits spaces as'
AllTrue-fits spaces p tid sn before [] h = tt
AllTrue-fits spaces p tid sn before (x ∷ as') h = (h.0.fits, AllTrue-fits spaces p tid sn (before ++ x ∷ []) as' h.1)

-- THE PARTITION'S FACTS

-- this answers a question that was sent
pub record AnswersGet (spaces : Spaces) (p : Partition) (ms : List Message) (tid : Tid) (place at : ℕ) (f : Form) : Type 0 where
  pub snapshot : List ℕ
  pub item : Item
  pub op : Op
  pub own : List (ℕ × Effect)
  pub asked : In (message.Get tid place at snapshot item op own) ms
  pub is_known : at_most snapshot (known me p) ≡ true
  pub is : f ≡ form_for (answered op (state_at spaces p.log tid snapshot item own))
      (prepared_effect (record { tid = tid; place = place }) op (state_at spaces p.log tid snapshot item own))

pub record StillPrepared (qs : List PreparedTx) (tid : Tid) (ts : ℕ) : Type 0 where
  pub entry_of : PreparedTx
  pub here : In entry_of qs
  pub tid_is : entry_of.tid ≡ tid
  pub ts_is : entry_of.ts ≡ ts

pub record IsDecided (cs : List Committed) (tid : Tid) : Type 0 where
  pub decision : Committed
  pub here : In decision cs
  pub tid_is : decision.begun.tid ≡ tid

pub record DecidedAt (cs : List Committed) (tid : Tid) (vector : List ℕ) : Type 0 where
  pub decision : Committed
  pub here : In decision cs
  pub tid_is : decision.begun.tid ≡ tid
  pub vector_is : decision.vector ≡ vector
  pub has : has_own_vector decision ≡ true

pub record Promised (p : Partition) (cs : List Committed) (tid : Tid) (ts : ℕ) : Type 0 where
  pub done : In tid p.done
  pub until : StillPrepared p.prepared tid ts ⊎ IsDecided cs tid

pub record IsBegun (bs : List Begun) (tid : Tid) (snapshot : List ℕ) : Type 0 where
  pub by : Begun
  pub here : In by bs
  pub tid_is : by.tid ≡ tid
  pub snapshot_is : by.snapshot ≡ snapshot

-- a transaction that was begun asks for a version, by an operation of the item's kind
pub record Asks (spaces : Spaces) (bs : List Begun) (tid : Tid) (snapshot : List ℕ) (item : Item) (op : Op) : Type 0 where
  pub by : Begun
  pub here : In by bs
  pub tid_is : by.tid ≡ tid
  pub snapshot_is : by.snapshot ≡ snapshot
  pub fits : Fits spaces item op

-- messages tell the truth
abbrev pub IsTrue : Spaces → Partition → Ledger → Message → Type 0
IsTrue spaces p l (message.Get tid place at snapshot item op own) = Asks spaces l.history.begun tid snapshot item op
IsTrue spaces p l (message.Version v) = AnswersGet spaces p l.messages v.tid v.place v.at v.form
IsTrue spaces p l (message.Prepare tid snapshot writes) = IsBegun l.history.begun tid snapshot
IsTrue spaces p l (message.Prepared tid ts) = Promised p l.history.committed tid ts
IsTrue spaces p l (message.Commit tid vector) = DecidedAt l.history.committed tid vector
IsTrue spaces p l _ = Unit {0}

pub record PreparedFacts (done_here : List Tid) (ms : List Message) (q : PreparedTx) : Type 0 where
  pub done : In q.tid done_here
  pub asked : In (message.Prepare q.tid q.snapshot q.writes) ms
  pub told : In (message.Prepared q.tid q.ts) ms
  pub above : entry q.snapshot 1 < q.ts

pub record InLog (log : List LogTx) (c : Committed) : Type 0 where
  pub entry_of : LogTx
  pub here : In entry_of log
  pub tid_is : entry_of.tid ≡ c.begun.tid
  pub vector_is : entry_of.vector ≡ c.vector

-- the numbers of a session's committed transactions are 1 and so on
pub record Numbered (cs : List Committed) (c : Committed) : Type 0 where
  pub from_one : 1 ≤ c.number
  pub within : c.number ≤ committed_in c.begun.session cs

pub record DecidedFacts (spaces : Spaces) (p : Partition) (l : Ledger) (c : Committed) : Type 0 where
  pub begun : In c.begun l.history.begun
  pub ops : c.ops ≡ ops_of c.begun.tid l.history.performed
  pub grows : at_most c.begun.snapshot c.vector ≡ true
  pub same : (has_own_vector c ≡ true → ⊥) → c.vector ≡ c.begun.snapshot
  pub above : has_own_vector c ≡ true → entry c.begun.snapshot 1 < entry c.vector 1
  pub asked : has_own_vector c ≡ true → In (message.Prepare c.begun.tid c.begun.snapshot (writes_of spaces p.log c)) l.messages
  pub kept : has_own_vector c ≡ true → StillPrepared p.prepared c.begun.tid (entry c.vector 1) ⊎ InLog p.log c
  pub small : entry c.vector 1 ≤ 2 ^ 62
  pub numbered : Numbered l.history.committed c

pub record PartitionFacts (spaces : Spaces) (p : Partition) (l : Ledger) : Type 0 where
  pub ok : PartitionOk p
  pub messages : (m : Message) → In m l.messages → IsTrue spaces p l m
  pub parked : (g : Get) → In g p.parked → In (message.Get g.tid g.place g.at g.snapshot g.item g.op g.own) l.messages
  pub prepared : (q : PreparedTx) → In q p.prepared → PreparedFacts p.done l.messages q
  pub log : (e : LogTx) → In e p.log → IsDecision spaces p.log l.history.committed e
  pub decided : (c : Committed) → In c l.history.committed → DecidedFacts spaces p l c
  pub answers : (b : Begun) → In b l.history.begun → AllTrue spaces p b.tid b.snapshot [] (ops_of b.tid l.history.performed)

-- WHAT SESSIONS SHARE

-- two messages that are to be one. An operation that is refused gives its place back, so that two questions of a transaction
-- may be of one place; but they are of different frames
abbrev pub SameKey : Message → Message → Type 0
SameKey (message.Get t n a s i o w) (message.Get t' n' a' s' i' o' w') = (t ≡ t') × (n ≡ n') × (a ≡ a')
SameKey (message.Prepare t s w) (message.Prepare t' s' w') = t ≡ t'
SameKey (message.Prepared t n) (message.Prepared t' n') = t ≡ t'
SameKey _ _ = ⊥

pub SameKey-sym : (m m' : Message) → SameKey m m' → SameKey m' m
SameKey-sym (message.Get t n a s i o w) (message.Get t' n' a' s' i' o' w') k = (sym k.0, sym k.1, sym k.2)
SameKey-sym (message.Prepare t s w) (message.Prepare t' s' w') k = sym k
SameKey-sym (message.Prepared t n) (message.Prepared t' n') k = sym k
SameKey-sym _ _ k = absurd k

-- one more message, of a key that was not there
pub once_push : (ms : List Message) (y : Message) → ((m m' : Message) → In m ms → In m' ms → SameKey m m' → m ≡ m')
    → ((m : Message) → In m ms → SameKey m y → ⊥) → (m m' : Message) → In m (ms ++ y ∷ []) → In m' (ms ++ y ∷ []) → SameKey m m' → m ≡ m'
once_push ms y old new m m' i j k =
    ⊎_elim
    (λ (a : In m ms). ⊎_elim (λ (b : In m' ms). old m m' a b k) (λ (e : y ≡ m'). absurd (new m a (subst (SameKey m) (sym e) k))) (in_split m' ms y j))
    (λ (d : y ≡ m). ⊎_elim (λ (b : In m' ms). absurd (new m' b (SameKey-sym y m' (subst (λ x. SameKey x m') (sym d) k)))) (λ (e : y ≡ m'). sym d ∙ e)
    (in_split m' ms y j))
    (in_split m ms y i)

pub record BegunForm (last : ℕ) (b : Begun) : Type 0 where
  pub site : b.tid.site ≡ 1
  pub coord : b.tid.coord ≡ 1
  pub seq : b.tid.seq ≤ last
  pub session : b.session ≡ name b.session.number
  pub small : entry b.snapshot 1 ≤ 2 ^ 62

-- an operation that was told is of a transaction that was begun
pub record OfBegun (bs : List Begun) (tid : Tid) : Type 0 where
  pub by : Begun
  pub here : In by bs
  pub tid_is : by.tid ≡ tid

pub record HistoryFacts (last : ℕ) (h : History) : Type 0 where
  pub begun_once : (b b' : Begun) → In b h.begun → In b' h.begun → b.tid ≡ b'.tid → b ≡ b'
  pub begun_apart : AllLater (λ (b c : Begun). b.tid ≡ c.tid → ⊥) h.begun
  pub begun_form : (b : Begun) → In b h.begun → BegunForm last b
  pub performed : (q : Performed) → In q h.performed → OfBegun h.begun q.tid
  pub order : (c : Committed) (b : Begun) → In c h.committed → In b h.begun → c.begun.session ≡ b.session → c.begun.tid.seq < b.tid.seq
      → at_most c.vector b.snapshot ≡ true
  pub apart : AllLater (λ (c d : Committed). c.begun.tid ≡ d.begun.tid → ⊥) h.committed
  pub decided_once : (c d : Committed) → In c h.committed → In d h.committed → c.begun.tid ≡ d.begun.tid → c ≡ d
  pub numbers : (c d : Committed) → In c h.committed → In d h.committed → c.begun.session ≡ d.begun.session → c.begun.tid.seq < d.begun.tid.seq
      → c.number < d.number
  pub stands : (c d : Committed) → In c h.committed → In d h.committed → c.begun.session ≡ d.begun.session → c.begun.tid.seq < d.begun.tid.seq
      → StandsEarlier c d h.committed

pub record SharedFacts (l : Ledger) : Type 0 where
  pub told : HistoryFacts l.seq l.history
  pub once : (m m' : Message) → In m l.messages → In m' l.messages → SameKey m m' → m ≡ m'

-- A SESSION

abbrev pub Waits : Ledger → Transaction → Await → Type 0
Waits l t waits.Nothing = Unit {0}
Waits l t (waits.Version at place item op) =
    (place ≡ length t.ops + 1) × In (message.Get t.tid place at t.snapshot item op (own_effects item t.writes)) l.messages
Waits l t (waits.Prepared at missing told) = HasWrites t.writes × (missing ≡ 1 ∷ []) × (told ≡ []) × In (message.Prepare t.tid t.snapshot t.writes) l.messages

abbrev pub WaitsForPrepared : Await → Type 0
WaitsForPrepared waits.Nothing = ⊥
WaitsForPrepared (waits.Version at place item op) = ⊥
WaitsForPrepared (waits.Prepared at missing told) = Unit {0}

abbrev pub begun_as : ℕ → Transaction → Begun
begun_as n t = record { tid = t.tid; session = name n; snapshot = t.snapshot }

-- the running transaction of session n, whose questions are of frames up to the last one that was performed
pub record RunningFacts (spaces : Spaces) (log : List LogTx) (l : Ledger) (n last : ℕ) (w : Await) (t : Transaction) : Type 0 where
  pub begun : In (begun_as n t) l.history.begun
  pub ops : t.ops ≡ ops_of t.tid l.history.performed
  pub writes : t.writes ≡ writes_in (acts_of spaces log t.tid t.snapshot t.ops)
  pub after : (c : Committed) → In c l.history.committed → c.begun.session ≡ name n → c.begun.tid.seq < t.tid.seq
  pub latest : (b : Begun) → In b l.history.begun → b.session ≡ name n → b.tid.seq ≤ t.tid.seq
  pub gets : (place at : ℕ) (sn : List ℕ) (i : Item) (o : Op) (own : List (ℕ × Effect)) → In (message.Get t.tid place at sn i o own) l.messages → at ≤ last
  pub prepares : (sn : List ℕ) (ws : List Write) → In (message.Prepare t.tid sn ws) l.messages → WaitsForPrepared w
  pub waiting : Waits l t w

-- a session, and the last of its frames that was performed: those that wait came later
pub record SessionFacts (spaces : Spaces) (log : List LogTx) (l : Ledger) (n : ℕ) (past : List ℕ) (running : Option Transaction) (w : Await)
    (requests : List QueuedRequest) (asked : ℕ) : Type 0 where
  pub covered : (c : Committed) → In c l.history.committed → c.begun.session ≡ name n → at_most c.vector past ≡ true
  pub small : entry past 1 ≤ 2 ^ 62
  pub last : ℕ
  pub queue : Ascends last requests asked
  pub runs : (t : Transaction) → running ≡ Some t → RunningFacts spaces log l n last w t

-- GROWTH

-- a transaction of this session
pub record OfSession (bs : List Begun) (n : ℕ) (tid : Tid) : Type 0 where
  pub by : Begun
  pub here : In by bs
  pub tid_is : by.tid ≡ tid
  pub session_is : by.session ≡ name n

-- what a session may send
abbrev pub FromSession : Ledger → ℕ → Message → Type 0
FromSession l n (message.Get tid place at snapshot item op own) = OfSession l.history.begun n tid
FromSession l n (message.Version v) = ⊥
FromSession l n (message.Prepare tid snapshot writes) = OfSession l.history.begun n tid
FromSession l n (message.Prepared tid ts) = ⊥
FromSession l n (message.Commit tid vector) = Unit {0}
FromSession l n _ = ⊥

-- what session n may do to what is shared
pub record Grows (n : ℕ) (l l' : Ledger) : Type 0 where
  pub messages : IsPrefix l.messages l'.messages
  pub sent : (m : Message) → In m messages.rest → FromSession l' n m
  pub begun : IsPrefix l.history.begun l'.history.begun
  pub begins : (b : Begun) → In b begun.rest → b.session ≡ name n
  pub performed : IsPrefix l.history.performed l'.history.performed
  pub performs : (q : Performed) → In q performed.rest → OfSession l'.history.begun n q.tid
  pub committed : IsPrefix l.history.committed l'.history.committed
  pub decides : (c : Committed) → In c committed.rest → c.begun.session ≡ name n

of_session-later : (bs bs' : List Begun) (n : ℕ) (tid : Tid) → IsPrefix bs bs' → OfSession bs n tid → OfSession bs' n tid
of_session-later bs bs' n tid g h = record { by = h.by; here = in_later _ g h.here; tid_is = h.tid_is; session_is = h.session_is }

from_session-later : (l l' : Ledger) (n : ℕ) (m : Message) → IsPrefix l.history.begun l'.history.begun → FromSession l n m → FromSession l' n m
from_session-later l l' n (message.Get tid place at snapshot item op own) g h = of_session-later l.history.begun l'.history.begun n tid g h
from_session-later l l' n (message.Version v) g h = h
from_session-later l l' n (message.Prepare tid snapshot writes) g h = of_session-later l.history.begun l'.history.begun n tid g h
from_session-later l l' n (message.Prepared tid ts) g h = h
from_session-later l l' n (message.Commit tid vector) g h = tt
from_session-later l l' n _ g h = h

pub grows_further : {n : ℕ} {a b c : Ledger} → Grows n a b → Grows n b c → Grows n a c
grows_further {n} {a} {b} {c} g h = record {
  messages = prefix_trans g.messages h.messages;
  sent = in_append _ g.messages.rest h.messages.rest (λ m i. from_session-later b c n m h.begun (g.sent m i)) h.sent;
  begun = prefix_trans g.begun h.begun;
  begins = in_append _ g.begun.rest h.begun.rest g.begins h.begins;
  performed = prefix_trans g.performed h.performed;
  performs =
      in_append _ g.performed.rest h.performed.rest (λ q i. of_session-later b.history.begun c.history.begun n q.tid h.begun (g.performs q i))
      h.performs;
  committed = prefix_trans g.committed h.committed;
  decides = in_append _ g.committed.rest h.committed.rest g.decides h.decides;
}

pub grows_nowhere : (n : ℕ) (l : Ledger) → Grows n l l
grows_nowhere n l = record {
  messages = prefix_refl _;
  sent = λ m i. absurd i;
  begun = prefix_refl _;
  begins = λ b i. absurd i;
  performed = prefix_refl _;
  performs = λ q i. absurd i;
  committed = prefix_refl _;
  decides = λ c i. absurd i;
}

pub waits-later : (l l' : Ledger) (t : Transaction) (w : Await) → IsPrefix l.messages l'.messages → Waits l t w → Waits l' t w
waits-later l l' t waits.Nothing g h = tt
waits-later l l' t (waits.Version at place item op) g h = (h.0, in_later _ g h.1)
waits-later l l' t (waits.Prepared at missing told) g h = (h.0, h.1, h.2, in_later _ g h.3)

-- THE FRAME: what another session does leaves a session's facts

-- what is of one session isn't of another
pub apart_of : (last : ℕ) (h : History) (n m : ℕ) (tid : Tid) (b : Begun) → HistoryFacts last h → OfSession h.begun n tid → In b h.begun → b.tid ≡ tid
    → b.session ≡ name m → n ≡ m
apart_of last h n m tid b all o i e f =
    let same = all.begun_once o.by b o.here i (o.tid_is ∙ sym e) in
    ap (λ (s : SessionName). s.number) (sym o.session_is ∙ ap (λ (x : Begun). x.session) same ∙ f)

name-one : (n m : ℕ) (s : SessionName) → s ≡ name n → s ≡ name m → n ≡ m
name-one n m s e f = ap (λ (x : SessionName). x.number) (sym e ∙ f)

running_frame : (spaces : Spaces) (log : List LogTx) (n m last : ℕ) (l l' : Ledger) (w : Await) (t : Transaction) → SharedFacts l' → Grows n l l'
    → (n ≡ m → ⊥) → RunningFacts spaces log l m last w t → RunningFacts spaces log l' m last w t
running_frame spaces log n m last l l' w t all g apart h =
    let mine = in_later _ g.begun h.begun in
    record {
      begun = mine;
      ops =
          h.ops ∙ sym (ops_of-still t.tid l.history.performed l'.history.performed g.performed
          (λ q i e. apart (apart_of l'.seq l'.history n m q.tid (begun_as m t) all.told (g.performs q i) mine (sym e) refl)));
      writes = h.writes;
      after = λ c i e. ⊎_elim (λ j. h.after c j e) (λ j. absurd (apart (name-one n m _ (g.decides c j) e))) (in_grown c g.committed i);
      latest = λ b i e. ⊎_elim (λ j. h.latest b j e) (λ j. absurd (apart (name-one n m _ (g.begins b j) e))) (in_grown b g.begun i);
      gets =
          λ place at sn i o own j. ⊎_elim (λ k. h.gets place at sn i o own k)
          (λ k. absurd (apart (apart_of l'.seq l'.history n m t.tid (begun_as m t) all.told (g.sent _ k) mine refl refl))) (in_grown _ g.messages j);
      prepares =
          λ sn ws j. ⊎_elim (λ k. h.prepares sn ws k) (λ k. absurd
          (apart (apart_of l'.seq l'.history n m t.tid (begun_as m t) all.told (g.sent _ k) mine refl refl))) (in_grown _ g.messages j);
      waiting = waits-later l l' t w g.messages h.waiting;
    }

pub session_frame : (spaces : Spaces) (log : List LogTx) (n m : ℕ) (l l' : Ledger) (past : List ℕ) (running : Option Transaction) (w : Await)
    (requests : List QueuedRequest) (asked : ℕ) → SharedFacts l' → Grows n l l' → (n ≡ m → ⊥) → SessionFacts spaces log l m past running w requests asked
    → SessionFacts spaces log l' m past running w requests asked
session_frame spaces log n m l l' past running w requests asked all g apart h = record {
  covered = λ c i e. ⊎_elim (λ j. h.covered c j e) (λ j. absurd (apart (name-one n m _ (g.decides c j) e))) (in_grown c g.committed i);
  small = h.small;
  last = h.last;
  queue = h.queue;
  runs = λ t e. running_frame spaces log n m h.last l l' w t all g apart (h.runs t e);
}
