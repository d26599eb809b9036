-- No rule of a session changes whose context it is, nor the shape of the store.
use Rattle.std.proofs.Common.{◌≡◌, ℕ, ◌+◌, List, [], ◌∷◌, ◌++◌, Bool, true, false, ◌&&◌, refl, ◌∙◌}
use Rattle.std.specs.Prelude.{Option, Some, None, if◌then◌else◌, nat_lt, nat_le, not, ◌==◌}
use Rattle.std.specs.List.{list_any}
use Rattle.us_kind.specs.Comparison.{tid_eq}
use Rattle.us_kind.specs.declared.identity.Tid.{Tid}
use Rattle.us_value.specs.declared.item.Item.{Item}
use Rattle.us_value.specs.declared.item.Write.{Write}
use Rattle.us_value.specs.declared.operation.Op.{Op}
use Rattle.us_value.specs.Catalogs.{kind_in}
use Rattle.us_model.specs.State.{Spaces}
use Rattle.us_base.specs.declared.shape.Shape.{Shape}
use Rattle.us_peer_wire.specs.declared.message.Actor.{Actor}
use Rattle.us_wire.specs.Frames.{Reader, frames_of, fed}
use Rattle.us_client_wire.specs.declared.frame.Request.{Request}
use Rattle.us_client_wire.specs.declared.frame.Request.TheVariants.{Begin, Perform, CommitCausal, CommitStrong, Abandon, Barrier, AskToken, Attach}
use Rattle.us_client_wire.specs.declared.frame.Reply.{Reply}
use Rattle.us_client_wire.specs.declared.frame.Reply.TheVariants as reply
use Rattle.us_client_wire.specs.Requests.{request_of}
use Rattle.us_peer_wire.specs.declared.message.Version.{Version}
use Rattle.us_peer_wire.specs.declared.message.Form.{Form}
use Rattle.us_peer_wire.specs.declared.message.Form.TheVariants as form
use Rattle.us_model.specs.declared.refusal.Refusal.{Refusal}
use Rattle.us_model.specs.declared.refusal.Refusal.TheVariants as refusal
use Rattle.us_model.specs.declared.coordinator.Transaction.{Transaction}
use Rattle.us_model.specs.declared.coordinator.QueuedRequest.{QueuedRequest}
use Rattle.us_model.specs.declared.coordinator.Vote.{Vote}
use Rattle.us_model.specs.declared.coordinator.Await.{Await}
use Rattle.us_model.specs.declared.coordinator.Await.TheVariants as waits
use Rattle.us_model.specs.declared.coordinator.Session.{Session}
use Rattle.us_model.specs.declared.coordinator.Context.{Context}
use Rattle.us_model.specs.Sessions.{SessionStep, stays, tell, with_client, reply_out, with_packets, commits, partitions_written, objection}
use Rattle.us_model.specs.Sessions.{begin, perform, commit_causal, abandon, request, performed, refused, committing, is_nothing, resume}
use Rattle.us_model.specs.Sessions.{run_requests, run_session, closes_in, close, left, malformed, is_built, unanswered, joins, next_frame, framed}
use Rattle.us_model.specs.Sessions.{framed_in, take_frames, unless_closed, bytes, read_on, version, version_in, write_of, writes_length}
use Rattle.us_model.specs.Sessions.{recorded, turned_down, recorded_by, is_awaited, prepared, prepared_in, all_voted, without}

-- whose context it is, and the shape of the store
abbrev pub post : Context → Actor × Shape
post d = (d.me, d.shape)

tell-post : (d : Context) (s : Session) (r : Reply) → post (tell d s r) ≡ post d
tell-post d s r = on s.closed
  where
    on : (b : Bool) → post (if b then d else with_client d (reply_out d s r false)) ≡ post d
    on true = refl
    on false = refl

committing-post : (d : Context) (s : Session) (at : ℕ) (tx : Transaction) (ws : List Write) → post (committing d s at tx ws).context ≡ post d
committing-post d s at tx [] = tell-post d s (reply.Committed at (s.count + 1))
committing-post d s at tx (w ∷ ws) = refl

performed-post : (d : Context) (s : Session) (at : ℕ) (tx : Transaction) (item : Item) (op : Op) (o : Option Refusal)
    → post (performed d s at tx item op o).context ≡ post d
performed-post d s at tx item op None = refl
performed-post d s at tx item op (Some why) = refl

begin-post : (d : Context) (s : Session) (at : ℕ) (o : Option Transaction) → post (begin d s at o).context ≡ post d
begin-post d s at None = tell-post d s (reply.Started at (record { site = d.me.site; coord = d.me.actor; seq = d.seq + 1 }))
begin-post d s at (Some tx) = refl

perform-post : (spaces : Spaces) (d : Context) (s : Session) (at : ℕ) (item : Item) (op : Op) (o : Option Transaction)
    → post (perform spaces d s at item op o).context ≡ post d
perform-post spaces d s at item op None = refl
perform-post spaces d s at item op (Some tx) = performed-post d s at tx item op (objection (kind_in spaces item.space) tx op)

commit_causal-post : (d : Context) (s : Session) (at : ℕ) (o : Option Transaction) → post (commit_causal d s at o).context ≡ post d
commit_causal-post d s at None = refl
commit_causal-post d s at (Some tx) = committing-post d s at tx tx.writes

abandon-post : (d : Context) (s : Session) (at : ℕ) (o : Option Transaction) → post (abandon d s at o).context ≡ post d
abandon-post d s at None = refl
abandon-post d s at (Some tx) = tell-post d s (reply.Dropped at)

pub request-post : (spaces : Spaces) (d : Context) (s : Session) (at : ℕ) (r : Request) → post (request spaces d s at r).context ≡ post d
unfolding request
request-post spaces d s at Begin = begin-post d s at s.running
request-post spaces d s at (Perform item op) = perform-post spaces d s at item op s.running
request-post spaces d s at CommitCausal = commit_causal-post d s at s.running
request-post spaces d s at Abandon = abandon-post d s at s.running
request-post spaces d s at CommitStrong = refl
request-post spaces d s at Barrier = refl
request-post spaces d s at AskToken = refl
request-post spaces d s at (Attach token) = refl

resumed-post : (spaces : Spaces) (d : Context) (now : SessionStep) (rest : List QueuedRequest) → post now.context ≡ post d
    → post (run_requests spaces now.context now.session rest).context ≡ post now.context → post (resume now (λ d' s'. run_requests spaces d' s' rest)).context ≡ post d
resumed-post spaces d now rest e f = on (is_nothing now.session.waits)
  where
    on : (b : Bool) → post (if b then run_requests spaces now.context now.session rest else now).context ≡ post d
    on true = f ∙ e
    on false = e

run_requests-post : (spaces : Spaces) (d : Context) (s : Session) (requests : List QueuedRequest) → post (run_requests spaces d s requests).context ≡ post d
run_requests-post spaces d s [] = refl
run_requests-post spaces d s (a ∷ rest) =
    let now = request spaces d (record s { requests = rest }) a.at a.request in
    resumed-post spaces d now rest (request-post spaces d (record s { requests = rest }) a.at a.request) (run_requests-post spaces now.context now.session rest)

pub run_session-post : (spaces : Spaces) (d : Context) (s : Session) → post (run_session spaces d s).context ≡ post d
unfolding run_session
run_session-post spaces d s = on (is_nothing s.waits)
  where
    on : (b : Bool) → post (if b then run_requests spaces d s s.requests else stays d s).context ≡ post d
    on true = run_requests-post spaces d s s.requests
    on false = refl

left-post : (d : Context) (s : Session) (o : Option Transaction) → post (left d s o).context ≡ post d
left-post d s None = refl
left-post d s (Some tx) = refl

closes_in-post : (d : Context) (s : Session) (w : Await) → post (closes_in d s w).context ≡ post d
closes_in-post d s waits.Nothing = left-post d s s.running
closes_in-post d s (waits.Version at place item op) = left-post d s s.running
closes_in-post d s (waits.Prepared at pending votes) = refl

malformed-post : (d : Context) (s : Session) → post (malformed d s).context ≡ post d
malformed-post d s = closes_in-post (refused d s s.asked refusal.Malformed).context s s.waits

pub close-post : (number : ℕ) (d : Context) (s : Session) → post (close number d s).context ≡ post d
unfolding close
close-post number d s = on ((s.number == number) && not s.closed)
  where
    on : (b : Bool) → post (if b then closes_in d s s.waits else stays d s).context ≡ post d
    on true = closes_in-post d s s.waits
    on false = refl

joins-post : (spaces : Spaces) (d : Context) (s : Session) (r : Request) → post (joins spaces d s r).context ≡ post d
joins-post spaces d s r = run_session-post spaces d (record s { requests = s.requests ++ record { at = s.asked; request = r } ∷ [] })

framed_in-post : (spaces : Spaces) (d : Context) (s : Session) (o : Option Request) → post (framed_in spaces d s o).context ≡ post d
framed_in-post spaces d s None = malformed-post d s
framed_in-post spaces d s (Some r) = on (is_built r) (nat_lt (unanswered s) 64)
  where
    on : (b c : Bool) → post (if b then (if c then joins spaces d s r else refused d s s.asked refusal.TooManyRequests) else malformed d s).context
        ≡ post d
    on true true = joins-post spaces d s r
    on true false = refl
    on false c = malformed-post d s

pub framed-post : (spaces : Spaces) (d : Context) (s : Session) (frame : List ℕ) → post (framed spaces d s frame).context ≡ post d
unfolding framed
framed-post spaces d s frame = framed_in-post spaces d (next_frame s) (request_of d.shape frame)

unless_closed-post : (spaces : Spaces) (d : Context) (now : SessionStep) (frames : List (List ℕ)) (bad : Bool) → post now.context ≡ post d
    → post (take_frames spaces now.context now.session frames bad).context ≡ post now.context
    → post (unless_closed now (λ d' s'. take_frames spaces d' s' frames bad)).context ≡ post d
unless_closed-post spaces d now frames bad e f = on now.session.closed
  where
    on : (b : Bool) → post (if b then now else take_frames spaces now.context now.session frames bad).context ≡ post d
    on true = e
    on false = f ∙ e

take_frames-post : (spaces : Spaces) (d : Context) (s : Session) (frames : List (List ℕ)) (bad : Bool)
    → post (take_frames spaces d s frames bad).context ≡ post d
take_frames-post spaces d s [] true = malformed-post d (next_frame s)
take_frames-post spaces d s [] false = refl
take_frames-post spaces d s (frame ∷ frames) bad =
    let now = framed spaces d s frame in
    unless_closed-post spaces d now frames bad (framed-post spaces d s frame) (take_frames-post spaces now.context now.session frames bad)

read_on-post : (spaces : Spaces) (d : Context) (s : Session) (r : Reader) → post (read_on spaces d s r).context ≡ post d
read_on-post spaces d s r =
    take_frames-post spaces d (record s { stream = record { limit = r.limit; unread = (frames_of r.limit r.unread).rest } })
    (frames_of r.limit r.unread).whole (frames_of r.limit r.unread).bad

pub bytes-post : (spaces : Spaces) (number : ℕ) (piece : List ℕ) (d : Context) (s : Session) → post (bytes spaces number piece d s).context ≡ post d
unfolding bytes
bytes-post spaces number piece d s = on ((s.number == number) && not s.closed)
  where
    on : (b : Bool) → post (if b then read_on spaces d s (fed s.stream piece) else stays d s).context ≡ post d
    on true = read_on-post spaces d s (fed s.stream piece)
    on false = refl

recorded_by-post : (d : Context) (s : Session) (at place : ℕ) (item : Item) (op : Op) (tx : Transaction) (f : Form)
    → post (recorded_by d s at place item op tx f).context ≡ post d
recorded_by-post d s at place item op tx (form.Answered answer effect) = on (nat_le (writes_length (tx.writes ++ write_of item place effect)) 65536)
  where
    on : (b : Bool) → post (if b then recorded d s at place item op tx answer effect else turned_down d s at refusal.WritesTooLong).context ≡ post d
    on true = tell-post d s (reply.Answered at answer)
    on false = refl
recorded_by-post d s at place item op tx form.WritesFull = refl
recorded_by-post d s at place item op tx form.AnswerFull = refl

version_in-post : (v : Version) (d : Context) (s : Session) (w : Await) (o : Option Transaction) → post (version_in v d s w o).context ≡ post d
version_in-post v d s waits.Nothing o = refl
version_in-post v d s (waits.Prepared at pending votes) o = refl
version_in-post v d s (waits.Version at place item op) None = refl
version_in-post v d s (waits.Version at place item op) (Some tx) = on (is_awaited v at place tx)
  where
    on : (b : Bool) → post (if b then recorded_by d s at place item op tx v.form else stays d s).context ≡ post d
    on true = recorded_by-post d s at place item op tx v.form
    on false = refl

pub version-post : (v : Version) (d : Context) (s : Session) → post (version v d s).context ≡ post d
unfolding version
version-post v d s = version_in-post v d s s.waits s.running

all_voted-post : (d : Context) (s : Session) (at : ℕ) (tx : Transaction) (pending : List ℕ) (votes : List Vote)
    → post (all_voted d s at tx pending votes).context ≡ post d
all_voted-post d s at tx [] votes = tell-post (with_packets d (commits d tx.tid _ (partitions_written d.shape tx.writes))) s
    (reply.Committed at (s.count + 1))
all_voted-post d s at tx (part ∷ parts) votes = refl

prepared_in-post : (part : ℕ) (tid : Tid) (ts : ℕ) (d : Context) (s : Session) (w : Await) (o : Option Transaction)
    → post (prepared_in part tid ts d s w o).context ≡ post d
prepared_in-post part tid ts d s waits.Nothing o = refl
prepared_in-post part tid ts d s (waits.Version at place item op) o = refl
prepared_in-post part tid ts d s (waits.Prepared at pending votes) None = refl
prepared_in-post part tid ts d s (waits.Prepared at pending votes) (Some tx) = on (tid_eq tx.tid tid && list_any (λ p. p == part) pending)
  where
    on : (b : Bool)
        → post (if b then all_voted d s at tx (without part pending) (votes ++ record { part = part; ts = ts } ∷ []) else stays d s).context ≡ post d
    on true = all_voted-post d s at tx (without part pending) (votes ++ record { part = part; ts = ts } ∷ [])
    on false = refl

pub prepared-post : (part : ℕ) (tid : Tid) (ts : ℕ) (d : Context) (s : Session) → post (prepared part tid ts d s).context ≡ post d
unfolding prepared
prepared-post part tid ts d s = prepared_in-post part tid ts d s s.waits s.running
