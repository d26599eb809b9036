-- No rule of a session changes its number.
use Rattle.std.proofs.Common.{◌≡◌, ℕ, List, [], ◌∷◌, ◌++◌, Bool, true, false, ◌&&◌, refl, ◌∙◌}
use Rattle.std.specs.Prelude.{Option, Some, None, if◌then◌else◌, nat_lt, nat_le, not, ◌==◌}
use Rattle.std.specs.List.{list_any}
use Rattle.us_kind.specs.Comparison.{tid_eq}
use Rattle.us_kind.specs.declared.identity.Tid.{Tid}
use Rattle.us_value.specs.declared.item.Item.{Item}
use Rattle.us_value.specs.declared.item.Write.{Write}
use Rattle.us_value.specs.declared.operation.Op.{Op}
use Rattle.us_value.specs.Catalogs.{kind_in}
use Rattle.us_model.specs.State.{Spaces}
use Rattle.us_wire.specs.Frames.{Reader, frames_of, fed}
use Rattle.us_client_wire.specs.declared.frame.Request.{Request}
use Rattle.us_client_wire.specs.declared.frame.Request.TheVariants.{Begin, Perform, CommitCausal, CommitStrong, Abandon, Barrier, AskToken, Attach}
use Rattle.us_client_wire.specs.Requests.{request_of}
use Rattle.us_peer_wire.specs.declared.message.Version.{Version}
use Rattle.us_peer_wire.specs.declared.message.Form.{Form}
use Rattle.us_peer_wire.specs.declared.message.Form.TheVariants as form
use Rattle.us_model.specs.declared.refusal.Refusal.{Refusal}
use Rattle.us_model.specs.declared.refusal.Refusal.TheVariants as refusal
use Rattle.us_model.specs.declared.coordinator.Transaction.{Transaction}
use Rattle.us_model.specs.declared.coordinator.QueuedRequest.{QueuedRequest}
use Rattle.us_model.specs.declared.coordinator.Vote.{Vote}
use Rattle.us_model.specs.declared.coordinator.Await.{Await}
use Rattle.us_model.specs.declared.coordinator.Await.TheVariants as waits
use Rattle.us_model.specs.declared.coordinator.Session.{Session}
use Rattle.us_model.specs.declared.coordinator.Context.{Context}
use Rattle.us_model.specs.Sessions.{SessionStep, stays, objection}
use Rattle.us_model.specs.Sessions.{begin, perform, commit_causal, abandon, request, performed, refused, committing, is_nothing, resume}
use Rattle.us_model.specs.Sessions.{run_requests, run_session, closes_in, close, left, malformed, is_built, unanswered, joins, next_frame, framed}
use Rattle.us_model.specs.Sessions.{framed_in, take_frames, unless_closed, bytes, read_on, version, version_in, write_of, writes_length}
use Rattle.us_model.specs.Sessions.{recorded, turned_down, recorded_by, is_awaited, prepared, prepared_in, all_voted, without}

committing-number : (d : Context) (s : Session) (at : ℕ) (tx : Transaction) (ws : List Write) → (committing d s at tx ws).session.number ≡ s.number
committing-number d s at tx [] = refl
committing-number d s at tx (w ∷ ws) = refl

performed-number : (d : Context) (s : Session) (at : ℕ) (tx : Transaction) (item : Item) (op : Op) (o : Option Refusal)
    → (performed d s at tx item op o).session.number ≡ s.number
performed-number d s at tx item op None = refl
performed-number d s at tx item op (Some why) = refl

begin-number : (d : Context) (s : Session) (at : ℕ) (o : Option Transaction) → (begin d s at o).session.number ≡ s.number
begin-number d s at None = refl
begin-number d s at (Some tx) = refl

perform-number : (spaces : Spaces) (d : Context) (s : Session) (at : ℕ) (item : Item) (op : Op) (o : Option Transaction)
    → (perform spaces d s at item op o).session.number ≡ s.number
perform-number spaces d s at item op None = refl
perform-number spaces d s at item op (Some tx) = performed-number d s at tx item op (objection (kind_in spaces item.space) tx op)

commit_causal-number : (d : Context) (s : Session) (at : ℕ) (o : Option Transaction) → (commit_causal d s at o).session.number ≡ s.number
commit_causal-number d s at None = refl
commit_causal-number d s at (Some tx) = committing-number d s at tx tx.writes

abandon-number : (d : Context) (s : Session) (at : ℕ) (o : Option Transaction) → (abandon d s at o).session.number ≡ s.number
abandon-number d s at None = refl
abandon-number d s at (Some tx) = refl

pub request-number : (spaces : Spaces) (d : Context) (s : Session) (at : ℕ) (r : Request) → (request spaces d s at r).session.number ≡ s.number
unfolding request
request-number spaces d s at Begin = begin-number d s at s.running
request-number spaces d s at (Perform item op) = perform-number spaces d s at item op s.running
request-number spaces d s at CommitCausal = commit_causal-number d s at s.running
request-number spaces d s at Abandon = abandon-number d s at s.running
request-number spaces d s at CommitStrong = refl
request-number spaces d s at Barrier = refl
request-number spaces d s at AskToken = refl
request-number spaces d s at (Attach token) = refl

resumed-number : (spaces : Spaces) (s : Session) (now : SessionStep) (rest : List QueuedRequest) → now.session.number ≡ s.number
    → (run_requests spaces now.context now.session rest).session.number ≡ now.session.number
    → (resume now (λ d' s'. run_requests spaces d' s' rest)).session.number ≡ s.number
resumed-number spaces s now rest e f = on (is_nothing now.session.waits)
  where
    on : (b : Bool) → (if b then run_requests spaces now.context now.session rest else now).session.number ≡ s.number
    on true = f ∙ e
    on false = e

run_requests-number : (spaces : Spaces) (d : Context) (s : Session) (requests : List QueuedRequest)
    → (run_requests spaces d s requests).session.number ≡ s.number
run_requests-number spaces d s [] = refl
run_requests-number spaces d s (a ∷ rest) =
    let now = request spaces d (record s { requests = rest }) a.at a.request in
    resumed-number spaces s now rest (request-number spaces d (record s { requests = rest }) a.at a.request)
    (run_requests-number spaces now.context now.session rest)

pub run_session-number : (spaces : Spaces) (d : Context) (s : Session) → (run_session spaces d s).session.number ≡ s.number
unfolding run_session
run_session-number spaces d s = on (is_nothing s.waits)
  where
    on : (b : Bool) → (if b then run_requests spaces d s s.requests else stays d s).session.number ≡ s.number
    on true = run_requests-number spaces d s s.requests
    on false = refl

left-number : (d : Context) (s : Session) (o : Option Transaction) → (left d s o).session.number ≡ s.number
left-number d s None = refl
left-number d s (Some tx) = refl

closes_in-number : (d : Context) (s : Session) (w : Await) → (closes_in d s w).session.number ≡ s.number
closes_in-number d s waits.Nothing = left-number d s s.running
closes_in-number d s (waits.Version at place item op) = left-number d s s.running
closes_in-number d s (waits.Prepared at pending votes) = refl

malformed-number : (d : Context) (s : Session) → (malformed d s).session.number ≡ s.number
malformed-number d s = closes_in-number (refused d s s.asked refusal.Malformed).context s s.waits

pub close-number : (number : ℕ) (d : Context) (s : Session) → (close number d s).session.number ≡ s.number
unfolding close
close-number number d s = on ((s.number == number) && not s.closed)
  where
    on : (b : Bool) → (if b then closes_in d s s.waits else stays d s).session.number ≡ s.number
    on true = closes_in-number d s s.waits
    on false = refl

joins-number : (spaces : Spaces) (d : Context) (s : Session) (r : Request) → (joins spaces d s r).session.number ≡ s.number
joins-number spaces d s r = run_session-number spaces d (record s { requests = s.requests ++ record { at = s.asked; request = r } ∷ [] })

framed_in-number : (spaces : Spaces) (d : Context) (s : Session) (o : Option Request) → (framed_in spaces d s o).session.number ≡ s.number
framed_in-number spaces d s None = malformed-number d s
framed_in-number spaces d s (Some r) = on (is_built r) (nat_lt (unanswered s) 64)
  where
    on : (b c : Bool) → (if b then (if c then joins spaces d s r else refused d s s.asked refusal.TooManyRequests) else malformed d s).session.number ≡ s.number
    on true true = joins-number spaces d s r
    on true false = refl
    on false c = malformed-number d s

pub framed-number : (spaces : Spaces) (d : Context) (s : Session) (frame : List ℕ) → (framed spaces d s frame).session.number ≡ s.number
unfolding framed
framed-number spaces d s frame = framed_in-number spaces d (next_frame s) (request_of d.shape frame)

unless_closed-number : (spaces : Spaces) (s : Session) (now : SessionStep) (frames : List (List ℕ)) (bad : Bool) → now.session.number ≡ s.number
    → (take_frames spaces now.context now.session frames bad).session.number ≡ now.session.number
    → (unless_closed now (λ d' s'. take_frames spaces d' s' frames bad)).session.number ≡ s.number
unless_closed-number spaces s now frames bad e f = on now.session.closed
  where
    on : (b : Bool) → (if b then now else take_frames spaces now.context now.session frames bad).session.number ≡ s.number
    on true = e
    on false = f ∙ e

take_frames-number : (spaces : Spaces) (d : Context) (s : Session) (frames : List (List ℕ)) (bad : Bool)
    → (take_frames spaces d s frames bad).session.number ≡ s.number
take_frames-number spaces d s [] true = malformed-number d (next_frame s)
take_frames-number spaces d s [] false = refl
take_frames-number spaces d s (frame ∷ frames) bad =
    let now = framed spaces d s frame in
    unless_closed-number spaces s now frames bad (framed-number spaces d s frame) (take_frames-number spaces now.context now.session frames bad)

read_on-number : (spaces : Spaces) (d : Context) (s : Session) (r : Reader) → (read_on spaces d s r).session.number ≡ s.number
read_on-number spaces d s r =
    take_frames-number spaces d (record s { stream = record { limit = r.limit; unread = (frames_of r.limit r.unread).rest } })
    (frames_of r.limit r.unread).whole (frames_of r.limit r.unread).bad

pub bytes-number : (spaces : Spaces) (number : ℕ) (piece : List ℕ) (d : Context) (s : Session) → (bytes spaces number piece d s).session.number ≡ s.number
unfolding bytes
bytes-number spaces number piece d s = on ((s.number == number) && not s.closed)
  where
    on : (b : Bool) → (if b then read_on spaces d s (fed s.stream piece) else stays d s).session.number ≡ s.number
    on true = read_on-number spaces d s (fed s.stream piece)
    on false = refl

recorded_by-number : (d : Context) (s : Session) (at place : ℕ) (item : Item) (op : Op) (tx : Transaction) (f : Form)
    → (recorded_by d s at place item op tx f).session.number ≡ s.number
recorded_by-number d s at place item op tx (form.Answered answer effect) = on (nat_le (writes_length (tx.writes ++ write_of item place effect)) 65536)
  where
    on : (b : Bool) → (if b then recorded d s at place item op tx answer effect else turned_down d s at refusal.WritesTooLong).session.number ≡ s.number
    on true = refl
    on false = refl
recorded_by-number d s at place item op tx form.WritesFull = refl
recorded_by-number d s at place item op tx form.AnswerFull = refl

version_in-number : (v : Version) (d : Context) (s : Session) (w : Await) (o : Option Transaction) → (version_in v d s w o).session.number ≡ s.number
version_in-number v d s waits.Nothing o = refl
version_in-number v d s (waits.Prepared at pending votes) o = refl
version_in-number v d s (waits.Version at place item op) None = refl
version_in-number v d s (waits.Version at place item op) (Some tx) = on (is_awaited v at place tx)
  where
    on : (b : Bool) → (if b then recorded_by d s at place item op tx v.form else stays d s).session.number ≡ s.number
    on true = recorded_by-number d s at place item op tx v.form
    on false = refl

pub version-number : (v : Version) (d : Context) (s : Session) → (version v d s).session.number ≡ s.number
unfolding version
version-number v d s = version_in-number v d s s.waits s.running

all_voted-number : (d : Context) (s : Session) (at : ℕ) (tx : Transaction) (pending : List ℕ) (votes : List Vote)
    → (all_voted d s at tx pending votes).session.number ≡ s.number
all_voted-number d s at tx [] votes = refl
all_voted-number d s at tx (part ∷ parts) votes = refl

prepared_in-number : (part : ℕ) (tid : Tid) (ts : ℕ) (d : Context) (s : Session) (w : Await) (o : Option Transaction)
    → (prepared_in part tid ts d s w o).session.number ≡ s.number
prepared_in-number part tid ts d s waits.Nothing o = refl
prepared_in-number part tid ts d s (waits.Version at place item op) o = refl
prepared_in-number part tid ts d s (waits.Prepared at pending votes) None = refl
prepared_in-number part tid ts d s (waits.Prepared at pending votes) (Some tx) = on (tid_eq tx.tid tid && list_any (λ p. p == part) pending)
  where
    on : (b : Bool)
        → (if b then all_voted d s at tx (without part pending) (votes ++ record { part = part; ts = ts } ∷ []) else stays d s).session.number ≡ s.number
    on true = all_voted-number d s at tx (without part pending) (votes ++ record { part = part; ts = ts } ∷ [])
    on false = refl

pub prepared-number : (part : ℕ) (tid : Tid) (ts : ℕ) (d : Context) (s : Session) → (prepared part tid ts d s).session.number ≡ s.number
unfolding prepared
prepared-number part tid ts d s = prepared_in-number part tid ts d s s.waits s.running
