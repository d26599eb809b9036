-- What requests, frames and packets keep at a session.
use Rattle.std.proofs.Common.{◌≡◌, ℕ, ◌+◌, ◌≤◌, List, [], ◌∷◌, ◌++◌, Bool, true, false, ◌&&◌, length, refl, sym, ap, ◌∙◌, subst, arith}
use Rattle.std.proofs.Common.{cond, max, true≢false}
use Rattle.std.specs.Prelude.{Some, None, Option, ◌==◌, not, nat_lt, nat_le}
use Rattle.std.proofs.lemmas.Bool.{cond_both, and_parts, eqb-true}
use Rattle.std.specs.List.{list_any}
use Rattle.std.proofs.lemmas.Bool.Decides.{nat_tests}
use Rattle.us_kind.specs.Comparison.{In, tid_eq}
use Rattle.us_kind.proofs.ListLemmas.{prefix_refl}
use Rattle.us_peer_wire.specs.declared.message.Actor.{Actor}
use Rattle.us_exec.specs.declared.RefusedRequest.{RefusedRequest}
use Rattle.us_history.specs.States.{or_register}
use Rattle.us_snapshots.proofs.Acts.{HasWrites}
use Rattle.us_kind.specs.declared.identity.Tid.{Tid}
use Rattle.us_kind.proofs.TestLemmas.{tid_eq-true}
use Rattle.us_base.specs.Vector.{with_entry}
use Rattle.us_value.specs.declared.item.Item.{Item}
use Rattle.us_value.specs.declared.item.Write.{Write}
use Rattle.us_value.specs.declared.operation.Op.{Op}
use Rattle.us_value.specs.declared.operation.Kind.{Kind}
use Rattle.us_value.specs.Values.{op_fits}
use Rattle.us_value.specs.Catalogs.{kind_in}
use Rattle.us_wire.specs.Frames.{frames_of, fed}
use Rattle.us_client_wire.specs.declared.frame.Request.{Request}
use Rattle.us_client_wire.specs.declared.frame.Request.TheVariants.{Begin, Perform, CommitCausal, CommitStrong, Abandon, Barrier, AskToken, Attach}
use Rattle.us_client_wire.specs.Requests.{request_of}
use Rattle.us_client_wire.specs.declared.frame.Reply.TheVariants as reply
use Rattle.us_peer_wire.specs.declared.message.Message.TheVariants as message
use Rattle.us_peer_wire.specs.declared.message.Version.{Version}
use Rattle.us_peer_wire.specs.declared.message.Form.{Form}
use Rattle.us_peer_wire.specs.declared.message.Form.TheVariants as form
use Rattle.us_model.specs.declared.event.Note.TheVariants as note
use Rattle.us_history.specs.declared.LogTx.{LogTx}
use Rattle.us_model.specs.declared.coordinator.QueuedRequest.{QueuedRequest}
use Rattle.us_model.specs.declared.coordinator.Transaction.{Transaction}
use Rattle.us_model.specs.declared.coordinator.Vote.{Vote}
use Rattle.us_model.specs.declared.coordinator.Await.{Await}
use Rattle.us_model.specs.declared.coordinator.Await.TheVariants as waits
use Rattle.us_model.specs.declared.coordinator.Session.{Session}
use Rattle.us_model.specs.declared.coordinator.Context.{Context}
use Rattle.us_model.specs.State.{Partition, Spaces}
use Rattle.us_model.specs.declared.refusal.Refusal.{Refusal}
use Rattle.us_model.specs.declared.refusal.Refusal.TheVariants as refusal
use Rattle.us_model.specs.Refusals.{number_of}
use Rattle.us_model.specs.Sessions.{SessionStep, stays, with_client, with_note, tell, reply_out, session_name, refused, objection, performed, begin}
use Rattle.us_model.specs.Sessions.{perform, commit_causal, abandon, abandoned, committing, request, is_built, is_nothing, run_requests, run_session}
use Rattle.us_model.specs.Sessions.{closed, left, closes_in, close, next_frame, malformed, unanswered, joins, framed_in, framed, take_frames, bytes}
use Rattle.us_model.specs.Sessions.{write_of, writes_length, recorded, turned_down, recorded_by, is_awaited, version_in, version, without, all_voted}
use Rattle.us_model.specs.Sessions.{prepared_in, prepared, decided}
use Rattle.us_order.proofs.Ledgers.{Ledger, with_told, Stands, stands_note, stands_client, stands_tell}
use Rattle.us_order.proofs.Queue.{Ascends, ascends-bounds, ascends-below, ascends-above, ascends-push}
use Rattle.us_order.proofs.Facts.{SharedFacts, Waits, waits-later, RunningFacts, SessionFacts, Grows}
use Rattle.us_order.proofs.Sessions.{Facts, IsNext, Preserves, preserves_trans, preserves_same, part_grows, asked_for_keeps, sent_out_keeps, begun_keeps}
use Rattle.us_order.proofs.Sessions.{ends_keeps, decided_keeps, recorded_keeps}

pub stays_keeps : (spaces : Spaces) (b : Ledger) (p : Partition) (l : Ledger) (d : Context) (s : Session) → Stands b p l d → Facts spaces p l s
    → Preserves spaces b p l s.number (stays d s)
stays_keeps spaces b p l d s st h = preserves_same spaces b p l s s d st h h.mine refl

-- A NOTE OF WHICH NO FACT SPEAKS
abbrev pub quiet : Ledger → List Tid → List RefusedRequest → Ledger
quiet l xs ys = record l { history = record l.history { left = xs; refused = ys } }

abbrev quiet_grows : (n : ℕ) (l : Ledger) (xs : List Tid) (ys : List RefusedRequest) → Grows n l (quiet l xs ys)
quiet_grows n l xs ys = record {
  messages = prefix_refl _;
  sent = λ m i. absurd i;
  begun = prefix_refl _;
  begins = λ b i. absurd i;
  performed = prefix_refl _;
  performs = λ q i. absurd i;
  committed = prefix_refl _;
  decides = λ c i. absurd i;
}

quiet_running : (spaces : Spaces) (log : List LogTx) (l : Ledger) (xs : List Tid) (ys : List RefusedRequest) (n last : ℕ) (w : Await)
    (t : Transaction) → RunningFacts spaces log l n last w t → RunningFacts spaces log (quiet l xs ys) n last w t
quiet_running spaces log l xs ys n last w t h = record {
  begun = h.begun;
  ops = h.ops;
  writes = h.writes;
  after = h.after;
  latest = h.latest;
  gets = h.gets;
  prepares = h.prepares;
  waiting = waits-later l (quiet l xs ys) t w (prefix_refl l.messages) h.waiting;
}

quiet_session : (spaces : Spaces) (log : List LogTx) (l : Ledger) (xs : List Tid) (ys : List RefusedRequest) (n : ℕ) (past : List ℕ)
    (running : Option Transaction) (w : Await) (requests : List QueuedRequest) (asked : ℕ) → SessionFacts spaces log l n past running w requests asked
    → SessionFacts spaces log (quiet l xs ys) n past running w requests asked
quiet_session spaces log l xs ys n past running w requests asked h =
    record {
      covered = h.covered;
      small = h.small;
      last = h.last;
      queue = h.queue;
      runs = λ t e. quiet_running spaces log l xs ys n h.last w t (h.runs t e);
    }

quiet_shared : (l : Ledger) (xs : List Tid) (ys : List RefusedRequest) → SharedFacts l → SharedFacts (quiet l xs ys)
quiet_shared l xs ys h = record {
  told =
      record {
        begun_once = h.told.begun_once;
        begun_apart = h.told.begun_apart;
        begun_form = h.told.begun_form;
        performed = h.told.performed;
        order = h.told.order;
        apart = h.told.apart;
        decided_once = h.told.decided_once;
        numbers = h.told.numbers;
        stands = h.told.stands;
      };
  once = h.once;
}

quiet_keeps : (spaces : Spaces) (b : Ledger) (p : Partition) (l : Ledger) (xs : List Tid) (ys : List RefusedRequest) (d : Context) (s s' : Session)
    → Stands b p (quiet l xs ys) d → Facts spaces p l s → SessionFacts spaces p.log l s'.number s'.past s'.running s'.waits s'.requests s'.asked
    → s'.number ≡ s.number → Preserves spaces b p l s.number (record { context = d; session = s' })
quiet_keeps spaces b p l xs ys d s s' st h mine n = record {
  ledger = quiet l xs ys;
  stands = st;
  grow = quiet_grows s.number l xs ys;
  facts = record {
    part =
        part_grows spaces p s.number l (quiet l xs ys) (quiet_grows s.number l xs ys) h.part (λ m i. absurd i) (λ c i. (h.part.decided c i).ops)
        (λ c i. absurd i) h.part.answers;
    all = quiet_shared l xs ys h.all;
    mine = quiet_session spaces p.log l xs ys s'.number s'.past s'.running s'.waits s'.requests s'.asked mine;
  };
  number = n;
}

-- REFUSED
pub refused_keeps : (spaces : Spaces) (b : Ledger) (p : Partition) (l : Ledger) (d : Context) (s : Session) (at : ℕ) (why : Refusal)
    → Stands b p l d → Facts spaces p l s → Preserves spaces b p l s.number (refused d s at why)
refused_keeps spaces b p l d s at why st h =
    let number = number_of why in
    let n = note.Refused (session_name d s) at number in
    let d' = with_client d (reply_out d s (reply.Refused at number) (number == 1)) in
    quiet_keeps spaces b p l l.history.left (with_told l n).history.refused (with_note d' n) s s (stands_note b p l d' n (stands_client b p l d _ st))
    h h.mine refl

-- OTHER REQUESTS WAIT
abbrev queued : (spaces : Spaces) (p : Partition) (l : Ledger) (s : Session) (requests : List QueuedRequest) (asked : ℕ) → (h : Facts spaces p l s)
    → Ascends h.mine.last requests asked → Facts spaces p l (record s { requests = requests; asked = asked })
queued spaces p l s requests asked h q =
    record {
      part = h.part;
      all = h.all;
      mine = record {
        covered = h.mine.covered;
        small = h.mine.small;
        last = h.mine.last;
        queue = q;
        runs = h.mine.runs;
      };
    }

-- CLOSE: the transaction that ran, and the requests that waited, are no more
dropped : (spaces : Spaces) (p : Partition) (l : Ledger) (s : Session) → Facts spaces p l s
    → SessionFacts spaces p.log l s.number s.past None waits.Nothing [] s.asked
dropped spaces p l s h =
    record {
      covered = h.mine.covered;
      small = h.mine.small;
      last = h.mine.last;
      queue = ascends-bounds h.mine.last s.requests s.asked h.mine.queue;
      runs = λ t e. absurd (cc);
    }

left_keeps : (spaces : Spaces) (b : Ledger) (p : Partition) (l : Ledger) (d : Context) (s : Session) (o : Option Transaction) → s.running ≡ o
    → Stands b p l d → Facts spaces p l s → Preserves spaces b p l s.number (left d s o)
left_keeps spaces b p l d s None e st h =
    let none : SessionFacts spaces p.log l s.number s.past s.running waits.Nothing [] s.asked =
    subst (λ o. SessionFacts spaces p.log l s.number s.past o waits.Nothing [] s.asked) (sym e) (dropped spaces p l s h) in
    preserves_same spaces b p l s (record (closed s) { waits = waits.Nothing }) d st h none refl
left_keeps spaces b p l d s (Some tx) e st h =
    quiet_keeps spaces b p l (with_told l (note.Left tx.tid)).history.left l.history.refused (with_note d (note.Left tx.tid)) s
    (record (closed s) { running = None; waits = waits.Nothing })
    (stands_note b p l d (note.Left tx.tid) st) h (dropped spaces p l s h) refl

closes_in_keeps : (spaces : Spaces) (b : Ledger) (p : Partition) (l : Ledger) (d : Context) (s : Session) (w : Await) → Stands b p l d
    → Facts spaces p l s → Preserves spaces b p l s.number (closes_in d s w)
closes_in_keeps spaces b p l d s waits.Nothing st h = left_keeps spaces b p l d s s.running refl st h
closes_in_keeps spaces b p l d s (waits.Version at place item op) st h = left_keeps spaces b p l d s s.running refl st h
closes_in_keeps spaces b p l d s (waits.Prepared at missing told) st h =
    preserves_same spaces b p l s (closed s) d st h (queued spaces p l s [] s.asked h (ascends-bounds h.mine.last s.requests s.asked h.mine.queue)).mine refl

pub close_keeps : (spaces : Spaces) (b : Ledger) (p : Partition) (number : ℕ) (l : Ledger) (d : Context) (s : Session) → Stands b p l d
    → Facts spaces p l s → Preserves spaces b p l s.number (close number d s)
unfolding close
close_keeps spaces b p number l d s st h =
    cond_both ((s.number == number) && not s.closed) (closes_in d s s.waits) (stays d s) (Preserves spaces b p l s.number)
    (λ _. closes_in_keeps spaces b p l d s s.waits st h) (λ _. stays_keeps spaces b p l d s st h)

-- A FACT OF THE SESSION AFTER A RULE, for the next rule
next_keeps : (spaces : Spaces) (b : Ledger) (p : Partition) (l : Ledger) (n : ℕ) (a : SessionStep) (f : Context → Session → SessionStep)
    → (k : Preserves spaces b p l n a) → ((l' : Ledger) → Stands b p l' a.context → Facts spaces p l' a.session → Preserves spaces b p l' a.session.number
    (f a.context a.session)) → Preserves spaces b p l n (f a.context a.session)
next_keeps spaces b p l n a f k next =
    preserves_trans spaces b p l n a (f a.context a.session) k
    (subst (λ m. Preserves spaces b p k.ledger m (f a.context a.session)) k.number (next k.ledger k.stands k.facts))

malformed_keeps : (spaces : Spaces) (b : Ledger) (p : Partition) (l : Ledger) (d : Context) (s : Session) → Stands b p l d → Facts spaces p l s
    → Preserves spaces b p l s.number (malformed d s)
malformed_keeps spaces b p l d s st h =
    let a = refused d s s.asked refusal.Malformed in
    next_keeps spaces b p l s.number a (λ d' s'. closes_in d' s' s'.waits) (refused_keeps spaces b p l d s s.asked refusal.Malformed st h)
    (λ l' st' h'. closes_in_keeps spaces b p l' a.context a.session a.session.waits st' h')

-- A REQUEST
committing_keeps : (spaces : Spaces) (b : Ledger) (p : Partition) (l : Ledger) (d : Context) (s : Session) (at : ℕ) (tx : Transaction) (ws : List Write)
    → tx.writes ≡ ws → Stands b p l d → Facts spaces p l s → s.running ≡ Some tx → s.waits ≡ waits.Nothing
    → Preserves spaces b p l s.number (committing d s at tx ws)
committing_keeps spaces b p l d s at tx [] e st h running idle = ends_keeps spaces b p l d s at tx st h running e
committing_keeps spaces b p l d s at tx (w ∷ ws) e st h running idle = sent_out_keeps spaces b p l d s at tx st h running idle
    (subst HasWrites (sym e) tt)

-- an operation to which nothing is objected is of its item's kind
no_objection : (o : Option Kind) (tx : Transaction) (op : Op) → objection o tx op ≡ None → op_fits (or_register o) op ≡ true
no_objection None tx op e = absurd (cc)
no_objection (Some kind) tx op e = on (op_fits kind op) refl e
  where
    on : (b : Bool) → op_fits kind op ≡ b → cond {A = Option Refusal} b (cond (nat_lt (length tx.ops) 64) None (Some refusal.TooManyOperations))
        (Some refusal.OtherKind) ≡ None
        → op_fits kind op ≡ true
    on true f h = f
    on false f h = absurd (cc)

performed_keeps : (spaces : Spaces) (b : Ledger) (p : Partition) (l : Ledger) (d : Context) (s : Session) (at : ℕ) (tx : Transaction) (item : Item)
    (op : Op) (o : Option Refusal) → objection (kind_in spaces item.space) tx op ≡ o → s.running ≡ Some tx → Stands b p l d → (h : Facts spaces p l s)
    → s.waits ≡ waits.Nothing → IsNext spaces p l s h at → Preserves spaces b p l s.number (performed d s at tx item op o)
performed_keeps spaces b p l d s at tx item op None o e st h idle next =
    asked_for_keeps spaces b p l d s at tx item op (no_objection (kind_in spaces item.space) tx op o) st h e idle next
performed_keeps spaces b p l d s at tx item op (Some why) o e st h idle next = refused_keeps spaces b p l d s at why st h

begin_keeps : (spaces : Spaces) (b : Ledger) (p : Partition) (l : Ledger) (d : Context) (s : Session) (at : ℕ) (o : Option Transaction) → Stands b p l d
    → Facts spaces p l s → s.waits ≡ waits.Nothing → Preserves spaces b p l s.number (begin d s at o)
begin_keeps spaces b p l d s at None st h idle = begun_keeps spaces b p l d s at st h idle
begin_keeps spaces b p l d s at (Some tx) st h idle = refused_keeps spaces b p l d s at refusal.InTransaction st h

perform_keeps : (spaces : Spaces) (b : Ledger) (p : Partition) (l : Ledger) (d : Context) (s : Session) (at : ℕ) (item : Item) (op : Op)
    (o : Option Transaction) → s.running ≡ o → Stands b p l d → (h : Facts spaces p l s) → s.waits ≡ waits.Nothing → IsNext spaces p l s h at
    → Preserves spaces b p l s.number (perform spaces d s at item op o)
perform_keeps spaces b p l d s at item op None e st h idle next = refused_keeps spaces b p l d s at refusal.NoTransaction st h
perform_keeps spaces b p l d s at item op (Some tx) e st h idle next =
    performed_keeps spaces b p l d s at tx item op (objection (kind_in spaces item.space) tx op) refl e st h idle next

commit_causal_keeps : (spaces : Spaces) (b : Ledger) (p : Partition) (l : Ledger) (d : Context) (s : Session) (at : ℕ) (o : Option Transaction)
    → s.running ≡ o → Stands b p l d → Facts spaces p l s → s.waits ≡ waits.Nothing → Preserves spaces b p l s.number (commit_causal d s at o)
commit_causal_keeps spaces b p l d s at None e st h idle = refused_keeps spaces b p l d s at refusal.NoTransaction st h
commit_causal_keeps spaces b p l d s at (Some tx) e st h idle = committing_keeps spaces b p l d s at tx tx.writes refl st h e idle

-- no transaction runs any more, and nothing else that facts speak of changes
abandoned_keeps : (spaces : Spaces) (b : Ledger) (p : Partition) (l : Ledger) (d : Context) (s : Session) (at : ℕ) (tx : Transaction) → Stands b p l d
    → Facts spaces p l s → Preserves spaces b p l s.number (abandoned d s at tx)
abandoned_keeps spaces b p l d s at tx st h =
    let d' = tell d s (reply.Dropped at) in
    quiet_keeps spaces b p l (with_told l (note.Left tx.tid)).history.left l.history.refused (with_note d' (note.Left tx.tid)) s
    (record s { running = None })
    (stands_note b p l d' (note.Left tx.tid) (stands_tell b p l d s (reply.Dropped at) st)) h
    (record { covered = h.mine.covered; small = h.mine.small; last = h.mine.last; queue = h.mine.queue; runs = λ t e. absurd (cc) }) refl

abandon_keeps : (spaces : Spaces) (b : Ledger) (p : Partition) (l : Ledger) (d : Context) (s : Session) (at : ℕ) (o : Option Transaction)
    → Stands b p l d → Facts spaces p l s → Preserves spaces b p l s.number (abandon d s at o)
abandon_keeps spaces b p l d s at None st h = refused_keeps spaces b p l d s at refusal.NoTransaction st h
abandon_keeps spaces b p l d s at (Some tx) st h = abandoned_keeps spaces b p l d s at tx st h

request_keeps : (spaces : Spaces) (b : Ledger) (p : Partition) (l : Ledger) (d : Context) (s : Session) (at : ℕ) (r : Request) → Stands b p l d
    → (h : Facts spaces p l s) → s.waits ≡ waits.Nothing → IsNext spaces p l s h at → Preserves spaces b p l s.number (request spaces d s at r)
unfolding request
request_keeps spaces b p l d s at Begin st h idle next = begin_keeps spaces b p l d s at s.running st h idle
request_keeps spaces b p l d s at (Perform item op) st h idle next = perform_keeps spaces b p l d s at item op s.running refl st h idle next
request_keeps spaces b p l d s at CommitCausal st h idle next = commit_causal_keeps spaces b p l d s at s.running refl st h idle
request_keeps spaces b p l d s at Abandon st h idle next = abandon_keeps spaces b p l d s at s.running st h
request_keeps spaces b p l d s at CommitStrong st h idle next = stays_keeps spaces b p l d s st h
request_keeps spaces b p l d s at Barrier st h idle next = stays_keeps spaces b p l d s st h
request_keeps spaces b p l d s at AskToken st h idle next = stays_keeps spaces b p l d s st h
request_keeps spaces b p l d s at (Attach token) st h idle next = stays_keeps spaces b p l d s st h

-- RUN
nothing_waits : (w : Await) → is_nothing w ≡ true → w ≡ waits.Nothing
nothing_waits waits.Nothing e = refl
nothing_waits (waits.Version at place item op) e = absurd (true≢false (sym e))
nothing_waits (waits.Prepared at missing told) e = absurd (true≢false (sym e))

-- a request leaves those that wait
request_queue : (spaces : Spaces) (d : Context) (s : Session) (at : ℕ) (r : Request) → (request spaces d s at r).session.requests ≡ s.requests
unfolding request
request_queue spaces d s at Begin = on s.running
  where
    on : (o : Option Transaction) → (begin d s at o).session.requests ≡ s.requests
    on None = refl
    on (Some tx) = refl
request_queue spaces d s at (Perform item op) = on s.running
  where
    done : (tx : Transaction) (o : Option Refusal) → (performed d s at tx item op o).session.requests ≡ s.requests
    done tx None = refl
    done tx (Some why) = refl

    on : (o : Option Transaction) → (perform spaces d s at item op o).session.requests ≡ s.requests
    on None = refl
    on (Some tx) = done tx (objection (kind_in spaces item.space) tx op)
request_queue spaces d s at CommitCausal = on s.running
  where
    done : (tx : Transaction) (ws : List Write) → (committing d s at tx ws).session.requests ≡ s.requests
    done tx [] = refl
    done tx (w ∷ ws) = refl

    on : (o : Option Transaction) → (commit_causal d s at o).session.requests ≡ s.requests
    on None = refl
    on (Some tx) = done tx tx.writes
request_queue spaces d s at Abandon = on s.running
  where
    on : (o : Option Transaction) → (abandon d s at o).session.requests ≡ s.requests
    on None = refl
    on (Some tx) = refl
request_queue spaces d s at CommitStrong = refl
request_queue spaces d s at Barrier = refl
request_queue spaces d s at AskToken = refl
request_queue spaces d s at (Attach token) = refl

-- the first one is taken out
without_first : (spaces : Spaces) (p : Partition) (l : Ledger) (s : Session) (a : QueuedRequest) (rest : List QueuedRequest) → (h : Facts spaces p l s)
    → Ascends h.mine.last (a ∷ rest) s.asked → Facts spaces p l (record s { requests = rest })
without_first spaces p l s a rest h q =
    let lower : h.mine.last ≤ a.at = omega (arith, q.0) in
    queued spaces p l s rest s.asked h (ascends-below a.at h.mine.last rest s.asked lower q.1)

run_requests_keeps : (spaces : Spaces) (b : Ledger) (p : Partition) (requests : List QueuedRequest) (l : Ledger) (d : Context) (s : Session) → s.requests ≡ requests
    → Stands b p l d → Facts spaces p l s → s.waits ≡ waits.Nothing → Preserves spaces b p l s.number (run_requests spaces d s requests)
unfolding without_first
run_requests_keeps spaces b p [] l d s e st h idle =
    subst (λ requests. Preserves spaces b p l s.number (stays d (record s { requests = requests }))) e (stays_keeps spaces b p l d s st h)
run_requests_keeps spaces b p (a ∷ rest) l d s e st h idle =
    let s0 : Session = record s { requests = rest } in
    let r = request spaces d s0 a.at a.request in
    let q : Ascends h.mine.last (a ∷ rest) s.asked = subst (λ requests. Ascends h.mine.last requests s.asked) e h.mine.queue in
    let k = request_keeps spaces b p l d s0 a.at a.request st (without_first spaces p l s a rest h q) idle q in
    cond_both (is_nothing r.session.waits) (run_requests spaces r.context r.session rest) r (Preserves spaces b p l s.number)
    (λ f. next_keeps spaces b p l s.number r (λ d' s'. run_requests spaces d' s' rest) k
    (λ l' st' h'. run_requests_keeps spaces b p rest l' r.context r.session (request_queue spaces d s0 a.at a.request) st' h'
    (nothing_waits r.session.waits f)))
    (λ _. k)

pub run_session_keeps : (spaces : Spaces) (b : Ledger) (p : Partition) (l : Ledger) (d : Context) (s : Session) → Stands b p l d → Facts spaces p l s
    → Preserves spaces b p l s.number (run_session spaces d s)
unfolding run_session
run_session_keeps spaces b p l d s st h =
    cond_both (is_nothing s.waits) (run_requests spaces d s s.requests) (stays d s) (Preserves spaces b p l s.number)
    (λ e. run_requests_keeps spaces b p s.requests l d s refl st h (nothing_waits s.waits e)) (λ _. stays_keeps spaces b p l d s st h)

-- BYTES
-- a frame counts
next_frame_facts : (spaces : Spaces) (p : Partition) (l : Ledger) (s : Session) → Facts spaces p l s → Facts spaces p l (next_frame s)
next_frame_facts spaces p l s h = queued spaces p l s s.requests (s.asked + 1) h
    (ascends-above h.mine.last s.requests s.asked (s.asked + 1) (omega arith) h.mine.queue)

-- its request is the last one
joins_keeps : (spaces : Spaces) (b : Ledger) (p : Partition) (l : Ledger) (d : Context) (s : Session) (r : Request) → Stands b p l d → Facts spaces p l s
    → Preserves spaces b p l s.number (joins spaces d (next_frame s) r)
joins_keeps spaces b p l d s r st h =
    let requests = s.requests ++ record { at = s.asked + 1; request = r } ∷ [] in
    let queue = ascends-push h.mine.last s.requests s.asked (s.asked + 1) r (omega arith) h.mine.queue in
    run_session_keeps spaces b p l d (record (next_frame s) { requests = requests }) st (queued spaces p l s requests (s.asked + 1) h queue)

framed_in_keeps : (spaces : Spaces) (b : Ledger) (p : Partition) (l : Ledger) (d : Context) (s : Session) (o : Option Request) → Stands b p l d
    → Facts spaces p l s → Preserves spaces b p l s.number (framed_in spaces d (next_frame s) o)
framed_in_keeps spaces b p l d s None st h = malformed_keeps spaces b p l d (next_frame s) st (next_frame_facts spaces p l s h)
framed_in_keeps spaces b p l d s (Some r) st h =
    let c = next_frame s in
    let facts = next_frame_facts spaces p l s h in
    let has_room = nat_lt (unanswered c) 64 in
    cond_both (is_built r) (cond has_room (joins spaces d c r) (refused d c c.asked refusal.TooManyRequests)) (malformed d c)
    (Preserves spaces b p l s.number)
    (λ _. cond_both has_room (joins spaces d c r) (refused d c c.asked refusal.TooManyRequests) (Preserves spaces b p l s.number)
    (λ _. joins_keeps spaces b p l d s r st h)
    (λ _. refused_keeps spaces b p l d c c.asked refusal.TooManyRequests st facts))
    (λ _. malformed_keeps spaces b p l d c st facts)

framed_keeps : (spaces : Spaces) (b : Ledger) (p : Partition) (l : Ledger) (d : Context) (s : Session) (frame : List ℕ) → Stands b p l d
    → Facts spaces p l s → Preserves spaces b p l s.number (framed spaces d s frame)
unfolding framed
framed_keeps spaces b p l d s frame st h = framed_in_keeps spaces b p l d s (request_of d.shape frame) st h

take_frames_keeps : (spaces : Spaces) (b : Ledger) (p : Partition) (frames : List (List ℕ)) (bad : Bool) (l : Ledger) (d : Context) (s : Session)
    → Stands b p l d → Facts spaces p l s → Preserves spaces b p l s.number (take_frames spaces d s frames bad)
take_frames_keeps spaces b p [] bad l d s st h =
    cond_both bad _ _ (Preserves spaces b p l s.number) (λ _. malformed_keeps spaces b p l d (next_frame s) st (next_frame_facts spaces p l s h))
    (λ _. stays_keeps spaces b p l d s st h)
take_frames_keeps spaces b p (frame ∷ frames) bad l d s st h =
    let a = framed spaces d s frame in
    let k = framed_keeps spaces b p l d s frame st h in
    cond_both a.session.closed a (take_frames spaces a.context a.session frames bad) (Preserves spaces b p l s.number)
    (λ _. k)
    (λ _. next_keeps spaces b p l s.number a (λ d' s'. take_frames spaces d' s' frames bad) k
    (λ l' st' h'. take_frames_keeps spaces b p frames bad l' a.context a.session st' h'))

pub bytes_keeps : (spaces : Spaces) (b : Ledger) (p : Partition) (number : ℕ) (piece : List ℕ) (l : Ledger) (d : Context) (s : Session) → Stands b p l d
    → Facts spaces p l s → Preserves spaces b p l s.number (bytes spaces number piece d s)
unfolding bytes
bytes_keeps spaces b p number piece l d s st h =
    let r = fed s.stream piece in
    let fs = frames_of r.limit r.unread in
    let s' : Session = record s { stream = record { limit = r.limit; unread = fs.rest } } in
    cond_both ((s.number == number) && not s.closed) (take_frames spaces d s' fs.whole fs.bad) (stays d s) (Preserves spaces b p l s.number)
    (λ _. take_frames_keeps spaces b p fs.whole fs.bad l d s' st (record { part = h.part; all = h.all; mine = h.mine }))
    (λ _. stays_keeps spaces b p l d s st h)

-- VERSION COMES
-- nothing waits any more
idle_running : (spaces : Spaces) (log : List LogTx) (l : Ledger) (n last at place : ℕ) (item : Item) (op : Op) (t : Transaction)
    → RunningFacts spaces log l n last (waits.Version at place item op) t → RunningFacts spaces log l n last waits.Nothing t
idle_running spaces log l n last at place item op t h = record {
  begun = h.begun;
  ops = h.ops;
  writes = h.writes;
  after = h.after;
  latest = h.latest;
  gets = h.gets;
  prepares = h.prepares;
  waiting = tt;
}

-- the operation isn't done: its transaction is as before
turned_down_keeps : (spaces : Spaces) (b : Ledger) (p : Partition) (l : Ledger) (d : Context) (s : Session) (at : ℕ) (why : Refusal) (place : ℕ)
    (item : Item) (op : Op) → Stands b p l d → Facts spaces p l s → s.waits ≡ waits.Version at place item op
    → Preserves spaces b p l s.number (turned_down d s at why)
turned_down_keeps spaces b p l d s at why place item op st h waiting =
    let runs : (t : Transaction) → s.running ≡ Some t → RunningFacts spaces p.log l s.number h.mine.last waits.Nothing t =
    λ t e. idle_running spaces p.log l s.number h.mine.last at place item op t
    (subst (λ w. RunningFacts spaces p.log l s.number h.mine.last w t) waiting (h.mine.runs t e)) in
    refused_keeps spaces b p l d (record s { waits = waits.Nothing }) at why st
    (record {
      part = h.part;
      all = h.all;
      mine = record {
        covered = h.mine.covered;
        small = h.mine.small;
        last = h.mine.last;
        queue = h.mine.queue;
        runs = runs;
      };
    })

recorded_by_keeps : (spaces : Spaces) (b : Ledger) (p : Partition) (l : Ledger) (d : Context) (s : Session) (at place : ℕ) (item : Item) (op : Op)
    (tx : Transaction) (v : Version) (f : Form) → v.form ≡ f → Stands b p l d → Facts spaces p l s → s.running ≡ Some tx
    → s.waits ≡ waits.Version at place item op → v.tid ≡ tx.tid → v.place ≡ place → v.at ≡ at → In (message.Version v) l.messages
    → Preserves spaces b p l s.number (recorded_by d s at place item op tx f)
recorded_by_keeps spaces b p l d s at place item op tx v (form.Answered answer effect) e st h running waiting tid_is place_is at_is told =
    cond_both (nat_le (writes_length (tx.writes ++ write_of item place effect)) 65536) (recorded d s at place item op tx answer effect)
    (turned_down d s at refusal.WritesTooLong) (Preserves spaces b p l s.number)
    (λ _. recorded_keeps spaces b p l d s at place item op tx answer effect v st h running waiting tid_is place_is at_is e told)
    (λ _. turned_down_keeps spaces b p l d s at refusal.WritesTooLong place item op st h waiting)
recorded_by_keeps spaces b p l d s at place item op tx v form.WritesFull e st h running waiting tid_is place_is at_is told =
    turned_down_keeps spaces b p l d s at refusal.WritesTooLong place item op st h waiting
recorded_by_keeps spaces b p l d s at place item op tx v form.AnswerFull e st h running waiting tid_is place_is at_is told =
    turned_down_keeps spaces b p l d s at refusal.AnswerTooLong place item op st h waiting

version_in_keeps : (spaces : Spaces) (b : Ledger) (p : Partition) (v : Version) (l : Ledger) (d : Context) (s : Session) (w : Await)
    (o : Option Transaction) → s.waits ≡ w → s.running ≡ o → In (message.Version v) l.messages → Stands b p l d → Facts spaces p l s
    → Preserves spaces b p l s.number (version_in v d s w o)
version_in_keeps spaces b p v l d s waits.Nothing o e f told st h = stays_keeps spaces b p l d s st h
version_in_keeps spaces b p v l d s (waits.Prepared at missing told') o e f told st h = stays_keeps spaces b p l d s st h
version_in_keeps spaces b p v l d s (waits.Version at place item op) None e f told st h = stays_keeps spaces b p l d s st h
version_in_keeps spaces b p v l d s (waits.Version at place item op) (Some tx) e f told st h =
    cond_both (is_awaited v at place tx) _ _ (Preserves spaces b p l s.number)
    (λ t. let x = and_parts _ _ t in let y = and_parts _ _ x.1 in recorded_by_keeps spaces b p l d s at place item op tx v v.form refl st h f e
    (sym (tid_eq-true _ _ x.0)) (sym (eqb-true _ _ y.1)) (sym (eqb-true _ _ y.0)) told)
    (λ _. stays_keeps spaces b p l d s st h)

pub version_keeps : (spaces : Spaces) (b : Ledger) (p : Partition) (v : Version) (l : Ledger) (d : Context) (s : Session)
    → In (message.Version v) l.messages → Stands b p l d → Facts spaces p l s → Preserves spaces b p l s.number (version v d s)
unfolding version
version_keeps spaces b p v l d s told st h = version_in_keeps spaces b p v l d s s.waits s.running refl refl told st h

-- PREPARED COMES
only_one : (part : ℕ) → list_any (λ n. n == part) (1 ∷ []) ≡ true → part ≡ 1
only_one part e = grind (arith, nat_tests)

all_voted_keeps : (spaces : Spaces) (b : Ledger) (p : Partition) (l : Ledger) (d : Context) (s : Session) (at part : ℕ) (tx : Transaction) (ts : ℕ)
    (missing : List ℕ) (told : List Vote) → missing ≡ 1 ∷ [] → told ≡ [] → part ≡ 1 → Stands b p l d → Facts spaces p l s → s.running ≡ Some tx
    → HasWrites tx.writes → In (message.Prepare tx.tid tx.snapshot tx.writes) l.messages → In (message.Prepared tx.tid ts) l.messages
    → Preserves spaces b p l s.number (all_voted d s at tx (without part missing) (told ++ record { part = part; ts = ts } ∷ []))
all_voted_keeps spaces b p l d s at part tx ts missing told e f g st h running has asked was_told =
    let site_is : d.me.site ≡ 1 = ap (λ (x : Actor). x.site) st.actor in
    let top : max ts 0 ≡ ts = omega arith in
    let k = decided_keeps spaces b p l d s at tx ts st h running has asked was_told in
    let one : all_voted d s at tx (without 1 (1 ∷ [])) ([] ++ record { part = 1; ts = ts } ∷ []) ≡ decided d s at tx (with_entry tx.snapshot 1 ts) =
    λ i. decided d s at tx (with_entry tx.snapshot (site_is i) (top i)) in
    let all : all_voted d s at tx (without part missing) (told ++ record { part = part; ts = ts } ∷ []) ≡ all_voted d s at tx (without 1 (1 ∷ []))
    ([] ++ record { part = 1; ts = ts } ∷ []) = λ i. all_voted d s at tx (without (g i) (e i)) (f i ++ record { part = g i; ts = ts } ∷ []) in
    subst (Preserves spaces b p l s.number) (sym (all ∙ one)) k

prepared_in_keeps : (spaces : Spaces) (b : Ledger) (p : Partition) (part : ℕ) (tid : Tid) (ts : ℕ) (l : Ledger) (d : Context) (s : Session) (w : Await)
    (o : Option Transaction) → s.waits ≡ w → s.running ≡ o → In (message.Prepared tid ts) l.messages → Stands b p l d → Facts spaces p l s
    → Preserves spaces b p l s.number (prepared_in part tid ts d s w o)
prepared_in_keeps spaces b p part tid ts l d s waits.Nothing o e f told st h = stays_keeps spaces b p l d s st h
prepared_in_keeps spaces b p part tid ts l d s (waits.Version at place item op) o e f told st h = stays_keeps spaces b p l d s st h
prepared_in_keeps spaces b p part tid ts l d s (waits.Prepared at missing so_far) None e f told st h = stays_keeps spaces b p l d s st h
prepared_in_keeps spaces b p part tid ts l d s (waits.Prepared at missing so_far) (Some tx) e f told st h =
    let w : Waits l tx (waits.Prepared at missing so_far) = subst (Waits l tx) e (h.mine.runs tx f).waiting in
    cond_both (tid_eq tx.tid tid && list_any (λ n. n == part) missing) _ _ (Preserves spaces b p l s.number)
    (λ t. let x = and_parts _ _ t in
    let tid_is = tid_eq-true tx.tid tid x.0 in
    let part_is = only_one part (sym (ap (list_any (λ n. n == part)) w.1) ∙ x.1) in
    all_voted_keeps spaces b p l d s at part tx ts missing so_far w.1 w.2 part_is st h f w.0 w.3
    (let P : Tid → Type 0 = λ t'. In (message.Prepared t' ts) l.messages in subst P (sym tid_is) told))
    (λ _. stays_keeps spaces b p l d s st h)

pub prepared_keeps : (spaces : Spaces) (b : Ledger) (p : Partition) (part : ℕ) (tid : Tid) (ts : ℕ) (l : Ledger) (d : Context) (s : Session)
    → In (message.Prepared tid ts) l.messages → Stands b p l d → Facts spaces p l s → Preserves spaces b p l s.number (prepared part tid ts d s)
unfolding prepared
prepared_keeps spaces b p part tid ts l d s told st h = prepared_in_keeps spaces b p part tid ts l d s s.waits s.running refl refl told st h
