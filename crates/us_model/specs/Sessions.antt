-- The rules of a coordinator, at one of its sessions.
use Rattle.std.specs.Prelude.{ℕ, ◌+◌, List, [], ◌∷◌, ◌++◌, length, Bool, true, false, not, ◌&&◌, ◌==◌, if◌then◌else◌, nat_lt, nat_le}
use Rattle.std.specs.Prelude.{Option, Some, None, max, filter}
use Rattle.std.specs.List.{list_any, range_with_len}
use Rattle.us_kind.specs.Comparison.{tid_eq}
use Rattle.us_kind.specs.declared.identity.Tid.{Tid}
use Rattle.us_base.specs.Vector.{join, with_entry}
use Rattle.us_base.specs.Place.{place_of}
use Rattle.us_base.specs.declared.shape.Shape.{Shape}
use Rattle.us_value.specs.declared.item.Item.{Item}
use Rattle.us_value.specs.declared.item.Write.{Write}
use Rattle.us_value.specs.declared.operation.Kind.{Kind}
use Rattle.us_value.specs.declared.operation.Op.{Op}
use Rattle.us_value.specs.declared.operation.Effect.{Effect}
use Rattle.us_value.specs.declared.operation.Answer.{Answer}
use Rattle.us_value.specs.Values.{op_fits}
use Rattle.us_value.specs.Catalogs.{kind_in}
use Rattle.us_value.specs.Lengths.{write_length}
use Rattle.us_history.specs.States.{own_effects}
use Rattle.us_model.specs.State.{Spaces}
use Rattle.us_model.specs.declared.refusal.Refusal.{Refusal}
use Rattle.us_model.specs.declared.refusal.Refusal.TheVariants as refusal
use Rattle.us_model.specs.Refusals.{number_of}
use Rattle.us_exec.specs.declared.SessionName.{SessionName}
use Rattle.us_wire.specs.Frames.{Reader, Frames, frames_of, fed}
use Rattle.us_client_wire.specs.declared.frame.Request.{Request}
use Rattle.us_client_wire.specs.declared.frame.Request.TheVariants.{Begin, Perform, CommitCausal, CommitStrong, Abandon, Barrier, AskToken, Attach}
use Rattle.us_client_wire.specs.declared.frame.Reply.{Reply}
use Rattle.us_client_wire.specs.declared.frame.Reply.TheVariants as reply
use Rattle.us_client_wire.specs.Requests.{request_of}
use Rattle.us_client_wire.specs.Replies.{reply_encoding}
use Rattle.us_peer_wire.specs.declared.message.Packet.{Packet}
use Rattle.us_peer_wire.specs.declared.message.Message.{Message}
use Rattle.us_peer_wire.specs.declared.message.Message.TheVariants as message
use Rattle.us_peer_wire.specs.declared.message.Version.{Version}
use Rattle.us_peer_wire.specs.declared.message.Form.{Form}
use Rattle.us_peer_wire.specs.declared.message.Form.TheVariants as form
use Rattle.us_model.specs.declared.event.Note.{Note}
use Rattle.us_model.specs.declared.event.Note.TheVariants as note
use Rattle.us_model.specs.declared.event.ClientOut.{ClientOut}
use Rattle.us_model.specs.declared.coordinator.Transaction.{Transaction}
use Rattle.us_model.specs.declared.coordinator.QueuedRequest.{QueuedRequest}
use Rattle.us_model.specs.declared.coordinator.Vote.{Vote}
use Rattle.us_model.specs.declared.coordinator.Await.{Await}
use Rattle.us_model.specs.declared.coordinator.Await.TheVariants as waits
use Rattle.us_model.specs.declared.coordinator.Session.{Session}
use Rattle.us_model.specs.declared.coordinator.Context.{Context}

-- a rule's result: what the sessions share, and the session
pub record SessionStep : Type 0 where
  pub context : Context
  pub session : Session

abbrev pub stays : Context → Session → SessionStep
stays d s = record { context = d; session = s }

-- WHAT A RULE GIVES OUT
abbrev pub with_packets : Context → List Packet → Context
with_packets d ps = record d { out = record d.out { packets = d.out.packets ++ ps } }

abbrev pub with_client : Context → ClientOut → Context
with_client d c = record d { out = record d.out { client = d.out.client ++ c ∷ [] } }

abbrev pub with_note : Context → Note → Context
with_note d n = record d { out = record d.out { notes = d.out.notes ++ n ∷ [] } }

abbrev pub reply_out : Context → Session → Reply → Bool → ClientOut
reply_out d s r ends = record { coord = d.me.actor; session = s.number; bytes = reply_encoding d.shape r; ends = ends }

-- a closed session isn't told any more
abbrev pub tell : Context → Session → Reply → Context
tell d s r = if s.closed then d else with_client d (reply_out d s r false)

abbrev pub session_name : Context → Session → SessionName
session_name d s = record { site = d.me.site; coord = d.me.actor; number = s.number }

abbrev pub refused : Context → Session → ℕ → Refusal → SessionStep
refused d s at why =
    let number = number_of why in
    stays (with_note (with_client d (reply_out d s (reply.Refused at number) (number == 1))) (note.Refused (session_name d s) at number)) s

-- a packet to a partition of the own site
abbrev pub to_partition : Context → ℕ → Message → Packet
to_partition d part m = record { from = d.me; to = record { site = d.me.site; actor = part }; message = m }

-- the partition that keeps an item
abbrev pub home : Shape → Item → ℕ
home shape item = place_of shape.parts item.space item.id

-- a write is on an item of this partition
abbrev pub is_kept_by : Shape → ℕ → Write → Bool
is_kept_by shape part w = home shape w.item == part

-- the writes on a partition's items, in order
abbrev pub writes_on : Shape → ℕ → List Write → List Write
writes_on shape part writes = filter (λ w. is_kept_by shape part w) writes

-- some write is on an item of this partition
abbrev pub is_written : Shape → List Write → ℕ → Bool
is_written shape writes part = list_any (λ w. is_kept_by shape part w) writes

-- the partitions that keep what was written, ascending
abbrev pub partitions_written : Shape → List Write → List ℕ
partitions_written shape writes = filter (λ p. is_written shape writes p) (range_with_len 1 shape.parts)

-- BEGIN
abbrev pub next_tid : Context → Tid
next_tid d = record { site = d.me.site; coord = d.me.actor; seq = d.seq + 1 }

abbrev pub begun_transaction : Context → Session → Transaction
begun_transaction d s = record { tid = next_tid d; snapshot = join s.past d.base; ops = []; writes = [] }

abbrev pub begun : Context → Session → ℕ → SessionStep
begun d s at =
    record {
      context = record (with_note (tell d s (reply.Started at (next_tid d))) (note.Begun (next_tid d) (session_name d s) (join s.past d.base)))
          { seq = d.seq + 1 };
      session = record s { begun = true; running = Some (begun_transaction d s) };
    }

-- PERFORM
abbrev pub asked_for : Context → Session → ℕ → Transaction → Item → Op → SessionStep
asked_for d s at tx item op =
    record {
      context = with_packets d (to_partition d (home d.shape item)
          (message.Get tx.tid (length tx.ops + 1) at tx.snapshot item op (own_effects item tx.writes)) ∷ []);
      session = record s { waits = waits.Version at (length tx.ops + 1) item op };
    }

-- why the transaction may not do the operation on an item of a space of this kind, if so
abbrev pub objection : Option Kind → Transaction → Op → Option Refusal
objection None tx op = Some refusal.UnknownSpace
objection (Some kind) tx op =
    if op_fits kind op then (if nat_lt (length tx.ops) 64 then None else Some refusal.TooManyOperations) else Some refusal.OtherKind

abbrev pub performed : Context → Session → ℕ → Transaction → Item → Op → Option Refusal → SessionStep
performed d s at tx item op None = asked_for d s at tx item op
performed d s at tx item op (Some why) = refused d s at why

-- ABANDON: the transaction ends as left
abbrev pub abandoned : Context → Session → ℕ → Transaction → SessionStep
abandoned d s at tx =
    record { context = with_note (tell d s (reply.Dropped at)) (note.Left tx.tid); session = record s { running = None } }

-- COMMIT
abbrev pub ended : Context → Session → ℕ → Transaction → List ℕ → SessionStep
ended d s at tx vector =
    record {
      context = with_note (tell d s (reply.Committed at (s.count + 1))) (note.Decided tx.tid vector);
      session = record s { past = join s.past vector; count = s.count + 1; running = None; waits = waits.Nothing };
    }

abbrev pub prepares : Context → Transaction → List ℕ → List Packet
prepares d tx [] = []
prepares d tx (part ∷ parts) = to_partition d part (message.Prepare tx.tid tx.snapshot (writes_on d.shape part tx.writes)) ∷ prepares d tx parts

abbrev pub sent_out : Context → Session → ℕ → Transaction → SessionStep
sent_out d s at tx =
    record {
      context = with_packets d (prepares d tx (partitions_written d.shape tx.writes));
      session = record s { waits = waits.Prepared at (partitions_written d.shape tx.writes) [] };
    }

abbrev pub committing : Context → Session → ℕ → Transaction → List Write → SessionStep
committing d s at tx [] = ended d s at tx tx.snapshot
committing d s at tx (w ∷ ws) = sent_out d s at tx

-- THE REQUESTS, by the transaction that runs
abbrev pub begin : Context → Session → ℕ → Option Transaction → SessionStep
begin d s at None = begun d s at
begin d s at (Some tx) = refused d s at refusal.InTransaction

abbrev pub perform : Spaces → Context → Session → ℕ → Item → Op → Option Transaction → SessionStep
perform spaces d s at item op None = refused d s at refusal.NoTransaction
perform spaces d s at item op (Some tx) = performed d s at tx item op (objection (kind_in spaces item.space) tx op)

abbrev pub commit_causal : Context → Session → ℕ → Option Transaction → SessionStep
commit_causal d s at None = refused d s at refusal.NoTransaction
commit_causal d s at (Some tx) = committing d s at tx tx.writes

abbrev pub abandon : Context → Session → ℕ → Option Transaction → SessionStep
abandon d s at None = refused d s at refusal.NoTransaction
abandon d s at (Some tx) = abandoned d s at tx

-- ONE REQUEST. The last four kinds are no requests yet, so that none of them is ever performed
unfoldable pub request : Spaces → Context → Session → ℕ → Request → SessionStep
request spaces d s at Begin = begin d s at s.running
request spaces d s at (Perform item op) = perform spaces d s at item op s.running
request spaces d s at CommitCausal = commit_causal d s at s.running
request spaces d s at Abandon = abandon d s at s.running
request spaces d s at CommitStrong = stays d s
request spaces d s at Barrier = stays d s
request spaces d s at AskToken = stays d s
request spaces d s at (Attach token) = stays d s

-- a request that is built
abbrev pub is_built : Request → Bool
is_built Begin = true
is_built (Perform item op) = true
is_built CommitCausal = true
is_built Abandon = true
is_built CommitStrong = false
is_built Barrier = false
is_built AskToken = false
is_built (Attach token) = false

-- RUN: requests are performed in order, until one waits
abbrev pub is_nothing : Await → Bool
is_nothing waits.Nothing = true
is_nothing (waits.Version at place item op) = false
is_nothing (waits.Prepared at pending votes) = false

abbrev pub resume : SessionStep → (Context → Session → SessionStep) → SessionStep
resume a next = if is_nothing a.session.waits then next a.context a.session else a

abbrev pub run_requests : Spaces → Context → Session → List QueuedRequest → SessionStep
run_requests spaces d s [] = stays d (record s { requests = [] })
run_requests spaces d s (a ∷ rest) = resume (request spaces d (record s { requests = rest }) a.at a.request) (λ d' s'. run_requests spaces d' s' rest)

unfoldable pub run_session : Spaces → Context → Session → SessionStep
run_session spaces d s = if is_nothing s.waits then run_requests spaces d s s.requests else stays d s

-- CLOSE: requests and what is left of the stream are dropped, and the transaction ends as left, but for one that is being
-- committed, which goes on
abbrev pub no_stream : Reader
no_stream = record { limit = 65536; unread = [] }

abbrev pub closed : Session → Session
closed s = record s { stream = no_stream; requests = []; closed = true }

abbrev pub left : Context → Session → Option Transaction → SessionStep
left d s None = stays d (record (closed s) { waits = waits.Nothing })
left d s (Some tx) = stays (with_note d (note.Left tx.tid)) (record (closed s) { running = None; waits = waits.Nothing })

abbrev pub closes_in : Context → Session → Await → SessionStep
closes_in d s waits.Nothing = left d s s.running
closes_in d s (waits.Version at place item op) = left d s s.running
closes_in d s (waits.Prepared at pending votes) = stays d (closed s)

abbrev pub closes : SessionStep → SessionStep
closes a = closes_in a.context a.session a.session.waits

-- the client closes the open session of this number
unfoldable pub close : ℕ → Context → Session → SessionStep
close number d s = if (s.number == number) && not s.closed then closes_in d s s.waits else stays d s

-- BYTES: each frame counts; one that is no request closes the session, as does a bad length
abbrev pub next_frame : Session → Session
next_frame s = record s { asked = s.asked + 1 }

abbrev pub malformed : Context → Session → SessionStep
malformed d s = closes (refused d s s.asked refusal.Malformed)

-- the requests that aren't answered yet
abbrev pub unanswered : Session → ℕ
unanswered s = length s.requests + (if is_nothing s.waits then 0 else 1)

abbrev pub joins : Spaces → Context → Session → Request → SessionStep
joins spaces d s r = run_session spaces d (record s { requests = s.requests ++ record { at = s.asked; request = r } ∷ [] })

abbrev pub framed_in : Spaces → Context → Session → Option Request → SessionStep
framed_in spaces d s None = malformed d s
framed_in spaces d s (Some r) =
    if is_built r
    then (if nat_lt (unanswered s) 64 then joins spaces d s r else refused d s s.asked refusal.TooManyRequests)
    else malformed d s

unfoldable pub framed : Spaces → Context → Session → List ℕ → SessionStep
framed spaces d s frame = framed_in spaces d (next_frame s) (request_of d.shape frame)

abbrev pub unless_closed : SessionStep → (Context → Session → SessionStep) → SessionStep
unless_closed a next = if a.session.closed then a else next a.context a.session

abbrev pub take_frames : Spaces → Context → Session → List (List ℕ) → Bool → SessionStep
take_frames spaces d s [] bad = if bad then malformed d (next_frame s) else stays d s
take_frames spaces d s (frame ∷ frames) bad = unless_closed (framed spaces d s frame) (λ d' s'. take_frames spaces d' s' frames bad)

-- the frames are taken off the stream, and then one after another
abbrev pub take_stream : Spaces → Context → Session → Reader → Frames → SessionStep
take_stream spaces d s r fs = take_frames spaces d (record s { stream = record { limit = r.limit; unread = fs.rest } }) fs.whole fs.bad

abbrev pub read_on : Spaces → Context → Session → Reader → SessionStep
read_on spaces d s r = take_stream spaces d s r (frames_of r.limit r.unread)

unfoldable pub bytes : Spaces → ℕ → List ℕ → Context → Session → SessionStep
bytes spaces number piece d s = if (s.number == number) && not s.closed then read_on spaces d s (fed s.stream piece) else stays d s

-- VERSION: the operation that waits for it is recorded
abbrev pub write_of : Item → ℕ → Option Effect → List Write
write_of item place None = []
write_of item place (Some e) = record { item = item; place = place; effect = e } ∷ []

abbrev pub recorded : Context → Session → ℕ → ℕ → Item → Op → Transaction → Answer → Option Effect → SessionStep
recorded d s at place item op tx answer effect =
    record {
      context = with_note (tell d s (reply.Answered at answer)) (note.Performed tx.tid (record { item = item; op = op; answer = answer }));
      session = record s {
        running =
            Some
            (record tx { ops = tx.ops ++ record { item = item; op = op; answer = answer } ∷ []; writes = tx.writes ++ write_of item place effect });
        waits = waits.Nothing;
      };
    }

-- how many bytes encode these writes
abbrev pub writes_length : List Write → ℕ
writes_length [] = 0
writes_length (w ∷ ws) = write_length w + writes_length ws

-- the operation isn't done: its transaction is as before
abbrev pub turned_down : Context → Session → ℕ → Refusal → SessionStep
turned_down d s at why = refused d (record s { waits = waits.Nothing }) at why

abbrev pub recorded_by : Context → Session → ℕ → ℕ → Item → Op → Transaction → Form → SessionStep
recorded_by d s at place item op tx (form.Answered answer effect) =
    if nat_le (writes_length (tx.writes ++ write_of item place effect)) 65536
    then recorded d s at place item op tx answer effect
    else turned_down d s at refusal.WritesTooLong
recorded_by d s at place item op tx form.WritesFull = turned_down d s at refusal.WritesTooLong
recorded_by d s at place item op tx form.AnswerFull = turned_down d s at refusal.AnswerTooLong

abbrev pub is_awaited : Version → ℕ → ℕ → Transaction → Bool
is_awaited v at place tx = tid_eq tx.tid v.tid && ((at == v.at) && (place == v.place))

abbrev pub version_in : Version → Context → Session → Await → Option Transaction → SessionStep
version_in v d s waits.Nothing tx = stays d s
version_in v d s (waits.Prepared at pending votes) tx = stays d s
version_in v d s (waits.Version at place item op) None = stays d s
version_in v d s (waits.Version at place item op) (Some tx) =
    if is_awaited v at place tx then recorded_by d s at place item op tx v.form else stays d s

unfoldable pub version : Version → Context → Session → SessionStep
version v d s = version_in v d s s.waits s.running

-- PREPARED: once all have voted, the vector is decided and sent
abbrev pub without : ℕ → List ℕ → List ℕ
without part parts = filter (λ p. not (p == part)) parts

abbrev pub greatest : List Vote → ℕ
greatest [] = 0
greatest (t ∷ ts) = max t.ts (greatest ts)

abbrev pub commits : Context → Tid → List ℕ → List ℕ → List Packet
commits d tid vector [] = []
commits d tid vector (part ∷ parts) = to_partition d part (message.Commit tid vector) ∷ commits d tid vector parts

abbrev pub decided : Context → Session → ℕ → Transaction → List ℕ → SessionStep
decided d s at tx vector = ended (with_packets d (commits d tx.tid vector (partitions_written d.shape tx.writes))) s at tx vector

abbrev pub all_voted : Context → Session → ℕ → Transaction → List ℕ → List Vote → SessionStep
all_voted d s at tx [] votes = decided d s at tx (with_entry tx.snapshot d.me.site (greatest votes))
all_voted d s at tx (part ∷ parts) votes = stays d (record s { waits = waits.Prepared at (part ∷ parts) votes })

abbrev pub prepared_in : ℕ → Tid → ℕ → Context → Session → Await → Option Transaction → SessionStep
prepared_in part tid ts d s waits.Nothing tx = stays d s
prepared_in part tid ts d s (waits.Version at place item op) tx = stays d s
prepared_in part tid ts d s (waits.Prepared at pending votes) None = stays d s
prepared_in part tid ts d s (waits.Prepared at pending votes) (Some tx) =
    if tid_eq tx.tid tid && list_any (λ p. p == part) pending
    then all_voted d s at tx (without part pending) (votes ++ record { part = part; ts = ts } ∷ [])
    else stays d s

unfoldable pub prepared : ℕ → Tid → ℕ → Context → Session → SessionStep
prepared part tid ts d s = prepared_in part tid ts d s s.waits s.running
