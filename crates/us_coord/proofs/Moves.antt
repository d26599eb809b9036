-- What a session runs after its turn is what it ran before, or a transaction that was begun in its turn.
use Rattle.std.proofs.Common.{◌≡◌, ℕ, ◌+◌, ◌<◌, ◌≤◌, List, [], ◌∷◌, ◌++◌, Bool, true, false, ◌&&◌, ◌⊎◌, inl, inr, refl, ◌∙◌, ap, arith}
use Rattle.std.specs.Prelude.{Option, Some, None, if◌then◌else◌, nat_lt, nat_le, not, ◌==◌}
use Rattle.std.specs.List.{list_any}
use Rattle.us_kind.specs.Comparison.{tid_eq}
use Rattle.us_kind.specs.declared.identity.Tid.{Tid}
use Rattle.us_value.specs.declared.item.Item.{Item}
use Rattle.us_value.specs.declared.item.Write.{Write}
use Rattle.us_value.specs.declared.operation.Op.{Op}
use Rattle.us_value.specs.Catalogs.{kind_in}
use Rattle.us_model.specs.State.{Spaces}
use Rattle.us_wire.specs.Frames.{Reader, frames_of, fed}
use Rattle.us_client_wire.specs.declared.frame.Request.{Request}
use Rattle.us_client_wire.specs.declared.frame.Request.TheVariants.{Begin, Perform, CommitCausal, CommitStrong, Abandon, Barrier, AskToken, Attach}
use Rattle.us_client_wire.specs.declared.frame.Reply.{Reply}
use Rattle.us_client_wire.specs.declared.frame.Reply.TheVariants as reply
use Rattle.us_client_wire.specs.Requests.{request_of}
use Rattle.us_peer_wire.specs.declared.message.Version.{Version}
use Rattle.us_peer_wire.specs.declared.message.Form.{Form}
use Rattle.us_peer_wire.specs.declared.message.Form.TheVariants as form
use Rattle.us_model.specs.declared.refusal.Refusal.{Refusal}
use Rattle.us_model.specs.declared.refusal.Refusal.TheVariants as refusal
use Rattle.us_model.specs.declared.coordinator.Transaction.{Transaction}
use Rattle.us_model.specs.declared.coordinator.QueuedRequest.{QueuedRequest}
use Rattle.us_model.specs.declared.coordinator.Vote.{Vote}
use Rattle.us_model.specs.declared.coordinator.Await.{Await}
use Rattle.us_model.specs.declared.coordinator.Await.TheVariants as waits
use Rattle.us_model.specs.declared.coordinator.Session.{Session}
use Rattle.us_model.specs.declared.coordinator.Context.{Context}
use Rattle.us_model.specs.Sessions.{SessionStep, stays, tell, with_client, reply_out, objection}
use Rattle.us_model.specs.Sessions.{begin, perform, commit_causal, abandon, request, performed, refused, committing, ended, is_nothing, resume}
use Rattle.us_model.specs.Sessions.{run_requests, run_session, closes_in, close, left, malformed, is_built, unanswered, joins, next_frame, framed}
use Rattle.us_model.specs.Sessions.{framed_in, take_frames, unless_closed, bytes, read_on, version, version_in, write_of, writes_length}
use Rattle.us_model.specs.Sessions.{recorded, turned_down, recorded_by, is_awaited, prepared, prepared_in, all_voted, without}
use Rattle.us_coord.specs.Table.{seq_of, runs}

-- from one number of begun transactions and a running one to others
pub record Moves (seq : ℕ) (was : Option ℕ) (seq' : ℕ) (now : Option ℕ) : Type 0 where
  pub grows : seq ≤ seq'
  pub comes : (q : ℕ) → now ≡ Some q → (was ≡ Some q) ⊎ ((seq < q) × (q ≤ seq'))

-- what a step does
abbrev pub Goes : Context → Session → SessionStep → Type 0
Goes d s a = Moves d.seq (runs s) a.context.seq (runs a.session)

keeps : (n : ℕ) (w : Option ℕ) → Moves n w n w
keeps n w = record { grows = omega arith; comes = λ q e. inl e }

-- the transaction ends, or none runs
ends : (n m : ℕ) (w : Option ℕ) → m ≡ n → Moves n w m None
ends n m w e = record { grows = omega (arith, e); comes = λ q k. absurd (cc) }

-- it goes on
goes_on : (n m : ℕ) (w w' : Option ℕ) → m ≡ n → w ≡ w' → Moves n w m w'
goes_on n m w w' e k = record { grows = omega (arith, e); comes = λ q here. inl (k ∙ here) }

-- a transaction begins
begins : (n : ℕ) (w : Option ℕ) → Moves n w (n + 1) (Some (n + 1))
begins n w = record {
  grows = omega arith;
  comes = λ q e. let same : n + 1 ≡ q = cc in inr (omega (arith, same), omega (arith, same));
}

pub then_on : (a b c : ℕ) (w x y : Option ℕ) → Moves a w b x → Moves b x c y → Moves a w c y
then_on a b c w x y h k = record { grows = omega (arith, h.grows, k.grows); comes = λ q e. on q (k.comes q e) }
  where
    still : (q : ℕ) → (w ≡ Some q) ⊎ ((a < q) × (q ≤ b)) → (w ≡ Some q) ⊎ ((a < q) × (q ≤ c))
    still q (inl e) = inl e
    still q (inr p) = inr (p.0, omega (arith, p.1, k.grows))

    on : (q : ℕ) → (x ≡ Some q) ⊎ ((b < q) × (q ≤ c)) → (w ≡ Some q) ⊎ ((a < q) × (q ≤ c))
    on q (inl e) = still q (h.comes q e)
    on q (inr p) = inr (omega (arith, h.grows, p.0), p.1)

tell-seq : (d : Context) (s : Session) (r : Reply) → (tell d s r).seq ≡ d.seq
tell-seq d s r = on s.closed
  where
    on : (b : Bool) → (if b then d else with_client d (reply_out d s r false)).seq ≡ d.seq
    on true = refl
    on false = refl

-- THE REQUESTS
ended-goes : (d : Context) (s : Session) (at : ℕ) (tx : Transaction) (vector : List ℕ) → Goes d s (ended d s at tx vector)
ended-goes d s at tx vector = ends d.seq _ (runs s) (tell-seq d s (reply.Committed at (s.count + 1)))

committing-goes : (d : Context) (s : Session) (at : ℕ) (tx : Transaction) (ws : List Write) → Goes d s (committing d s at tx ws)
committing-goes d s at tx [] = ended-goes d s at tx tx.snapshot
committing-goes d s at tx (w ∷ ws) = keeps d.seq (runs s)

performed-goes : (d : Context) (s : Session) (at : ℕ) (tx : Transaction) (item : Item) (op : Op) (o : Option Refusal)
    → Goes d s (performed d s at tx item op o)
performed-goes d s at tx item op None = keeps d.seq (runs s)
performed-goes d s at tx item op (Some why) = keeps d.seq (runs s)

begin-goes : (d : Context) (s : Session) (at : ℕ) (o : Option Transaction) → Goes d s (begin d s at o)
begin-goes d s at None = begins d.seq (runs s)
begin-goes d s at (Some tx) = keeps d.seq (runs s)

perform-goes : (spaces : Spaces) (d : Context) (s : Session) (at : ℕ) (item : Item) (op : Op) (o : Option Transaction)
    → Goes d s (perform spaces d s at item op o)
perform-goes spaces d s at item op None = keeps d.seq (runs s)
perform-goes spaces d s at item op (Some tx) = performed-goes d s at tx item op (objection (kind_in spaces item.space) tx op)

commit_causal-goes : (d : Context) (s : Session) (at : ℕ) (o : Option Transaction) → Goes d s (commit_causal d s at o)
commit_causal-goes d s at None = keeps d.seq (runs s)
commit_causal-goes d s at (Some tx) = committing-goes d s at tx tx.writes

abandon-goes : (d : Context) (s : Session) (at : ℕ) (o : Option Transaction) → Goes d s (abandon d s at o)
abandon-goes d s at None = keeps d.seq (runs s)
abandon-goes d s at (Some tx) = ends d.seq _ (runs s) (tell-seq d s (reply.Dropped at))

request-goes : (spaces : Spaces) (d : Context) (s : Session) (at : ℕ) (r : Request) → Goes d s (request spaces d s at r)
unfolding request
request-goes spaces d s at Begin = begin-goes d s at s.running
request-goes spaces d s at (Perform item op) = perform-goes spaces d s at item op s.running
request-goes spaces d s at CommitCausal = commit_causal-goes d s at s.running
request-goes spaces d s at Abandon = abandon-goes d s at s.running
request-goes spaces d s at CommitStrong = keeps d.seq (runs s)
request-goes spaces d s at Barrier = keeps d.seq (runs s)
request-goes spaces d s at AskToken = keeps d.seq (runs s)
request-goes spaces d s at (Attach token) = keeps d.seq (runs s)

-- one step after another
and_on : (d : Context) (s : Session) (a b : SessionStep) → Goes d s a → Goes a.context a.session b → Goes d s b
and_on d s a b h k = then_on d.seq a.context.seq b.context.seq (runs s) (runs a.session) (runs b.session) h k

resumed-goes : (spaces : Spaces) (d : Context) (s : Session) (now : SessionStep) (rest : List QueuedRequest) → Goes d s now
    → Goes now.context now.session (run_requests spaces now.context now.session rest)
    → Goes d s (resume now (λ d' s'. run_requests spaces d' s' rest))
resumed-goes spaces d s now rest h k = on (is_nothing now.session.waits)
  where
    on : (b : Bool) → Goes d s (if b then run_requests spaces now.context now.session rest else now)
    on true = and_on d s now (run_requests spaces now.context now.session rest) h k
    on false = h

run_requests-goes : (spaces : Spaces) (d : Context) (s : Session) (requests : List QueuedRequest) → Goes d s (run_requests spaces d s requests)
run_requests-goes spaces d s [] = keeps d.seq (runs s)
run_requests-goes spaces d s (a ∷ rest) =
    let now = request spaces d (record s { requests = rest }) a.at a.request in
    resumed-goes spaces d s now rest (request-goes spaces d (record s { requests = rest }) a.at a.request)
    (run_requests-goes spaces now.context now.session rest)

pub run_session-goes : (spaces : Spaces) (d : Context) (s : Session) → Goes d s (run_session spaces d s)
unfolding run_session
run_session-goes spaces d s = on (is_nothing s.waits)
  where
    on : (b : Bool) → Goes d s (if b then run_requests spaces d s s.requests else stays d s)
    on true = run_requests-goes spaces d s s.requests
    on false = keeps d.seq (runs s)

-- CLOSE
left-goes : (d : Context) (s : Session) (o : Option Transaction) → Goes d s (left d s o)
left-goes d s None = keeps d.seq (runs s)
left-goes d s (Some tx) = ends d.seq d.seq (runs s) refl

closes_in-goes : (d : Context) (s : Session) (w : Await) → Goes d s (closes_in d s w)
closes_in-goes d s waits.Nothing = left-goes d s s.running
closes_in-goes d s (waits.Version at place item op) = left-goes d s s.running
closes_in-goes d s (waits.Prepared at pending votes) = keeps d.seq (runs s)

malformed-goes : (d : Context) (s : Session) → Goes d s (malformed d s)
malformed-goes d s = closes_in-goes (refused d s s.asked refusal.Malformed).context s s.waits

pub close-goes : (number : ℕ) (d : Context) (s : Session) → Goes d s (close number d s)
unfolding close
close-goes number d s = on ((s.number == number) && not s.closed)
  where
    on : (b : Bool) → Goes d s (if b then closes_in d s s.waits else stays d s)
    on true = closes_in-goes d s s.waits
    on false = keeps d.seq (runs s)

-- BYTES
joins-goes : (spaces : Spaces) (d : Context) (s : Session) (r : Request) → Goes d s (joins spaces d s r)
joins-goes spaces d s r = run_session-goes spaces d (record s { requests = s.requests ++ record { at = s.asked; request = r } ∷ [] })

framed_in-goes : (spaces : Spaces) (d : Context) (s : Session) (o : Option Request) → Goes d s (framed_in spaces d s o)
framed_in-goes spaces d s None = malformed-goes d s
framed_in-goes spaces d s (Some r) = on (is_built r) (nat_lt (unanswered s) 64)
  where
    on : (b c : Bool) → Goes d s (if b then (if c then joins spaces d s r else refused d s s.asked refusal.TooManyRequests) else malformed d s)
    on true true = joins-goes spaces d s r
    on true false = keeps d.seq (runs s)
    on false c = malformed-goes d s

framed-goes : (spaces : Spaces) (d : Context) (s : Session) (frame : List ℕ) → Goes d s (framed spaces d s frame)
unfolding framed
framed-goes spaces d s frame = framed_in-goes spaces d (next_frame s) (request_of d.shape frame)

unless_closed-goes : (spaces : Spaces) (d : Context) (s : Session) (now : SessionStep) (frames : List (List ℕ)) (bad : Bool) → Goes d s now
    → Goes now.context now.session (take_frames spaces now.context now.session frames bad)
    → Goes d s (unless_closed now (λ d' s'. take_frames spaces d' s' frames bad))
unless_closed-goes spaces d s now frames bad h k = on now.session.closed
  where
    on : (b : Bool) → Goes d s (if b then now else take_frames spaces now.context now.session frames bad)
    on true = h
    on false = and_on d s now (take_frames spaces now.context now.session frames bad) h k

take_frames-goes : (spaces : Spaces) (d : Context) (s : Session) (frames : List (List ℕ)) (bad : Bool) → Goes d s (take_frames spaces d s frames bad)
take_frames-goes spaces d s [] true = malformed-goes d (next_frame s)
take_frames-goes spaces d s [] false = keeps d.seq (runs s)
take_frames-goes spaces d s (frame ∷ frames) bad =
    let now = framed spaces d s frame in
    unless_closed-goes spaces d s now frames bad (framed-goes spaces d s frame) (take_frames-goes spaces now.context now.session frames bad)

read_on-goes : (spaces : Spaces) (d : Context) (s : Session) (r : Reader) → Goes d s (read_on spaces d s r)
read_on-goes spaces d s r =
    take_frames-goes spaces d (record s { stream = record { limit = r.limit; unread = (frames_of r.limit r.unread).rest } })
    (frames_of r.limit r.unread).whole (frames_of r.limit r.unread).bad

pub bytes-goes : (spaces : Spaces) (number : ℕ) (piece : List ℕ) (d : Context) (s : Session) → Goes d s (bytes spaces number piece d s)
unfolding bytes
bytes-goes spaces number piece d s = on ((s.number == number) && not s.closed)
  where
    on : (b : Bool) → Goes d s (if b then read_on spaces d s (fed s.stream piece) else stays d s)
    on true = read_on-goes spaces d s (fed s.stream piece)
    on false = keeps d.seq (runs s)

-- VERSION
recorded_by-goes : (d : Context) (s : Session) (at place : ℕ) (item : Item) (op : Op) (tx : Transaction) (f : Form) → s.running ≡ Some tx
    → Goes d s (recorded_by d s at place item op tx f)
recorded_by-goes d s at place item op tx (form.Answered answer effect) is = on (nat_le (writes_length (tx.writes ++ write_of item place effect)) 65536)
  where
    on : (b : Bool) → Goes d s (if b then recorded d s at place item op tx answer effect else turned_down d s at refusal.WritesTooLong)
    on true = goes_on d.seq _ (runs s) (Some tx.tid.seq) (tell-seq d s (reply.Answered at answer)) (ap seq_of is)
    on false = keeps d.seq (runs s)
recorded_by-goes d s at place item op tx form.WritesFull is = keeps d.seq (runs s)
recorded_by-goes d s at place item op tx form.AnswerFull is = keeps d.seq (runs s)

version_in-goes : (v : Version) (d : Context) (s : Session) (w : Await) (o : Option Transaction) → s.running ≡ o → Goes d s (version_in v d s w o)
version_in-goes v d s waits.Nothing o is = keeps d.seq (runs s)
version_in-goes v d s (waits.Prepared at pending votes) o is = keeps d.seq (runs s)
version_in-goes v d s (waits.Version at place item op) None is = keeps d.seq (runs s)
version_in-goes v d s (waits.Version at place item op) (Some tx) is = on (is_awaited v at place tx)
  where
    on : (b : Bool) → Goes d s (if b then recorded_by d s at place item op tx v.form else stays d s)
    on true = recorded_by-goes d s at place item op tx v.form is
    on false = keeps d.seq (runs s)

pub version-goes : (v : Version) (d : Context) (s : Session) → Goes d s (version v d s)
unfolding version
version-goes v d s = version_in-goes v d s s.waits s.running refl

-- PREPARED
all_voted-goes : (d : Context) (s : Session) (at : ℕ) (tx : Transaction) (pending : List ℕ) (votes : List Vote)
    → Goes d s (all_voted d s at tx pending votes)
all_voted-goes d s at tx [] votes = ends d.seq _ (runs s) (tell-seq _ s (reply.Committed at (s.count + 1)))
all_voted-goes d s at tx (part ∷ parts) votes = keeps d.seq (runs s)

prepared_in-goes : (part : ℕ) (tid : Tid) (ts : ℕ) (d : Context) (s : Session) (w : Await) (o : Option Transaction)
    → Goes d s (prepared_in part tid ts d s w o)
prepared_in-goes part tid ts d s waits.Nothing o = keeps d.seq (runs s)
prepared_in-goes part tid ts d s (waits.Version at place item op) o = keeps d.seq (runs s)
prepared_in-goes part tid ts d s (waits.Prepared at pending votes) None = keeps d.seq (runs s)
prepared_in-goes part tid ts d s (waits.Prepared at pending votes) (Some tx) = on (tid_eq tx.tid tid && list_any (λ p. p == part) pending)
  where
    on : (b : Bool)
        → Goes d s (if b then all_voted d s at tx (without part pending) (votes ++ record { part = part; ts = ts } ∷ []) else stays d s)
    on true = all_voted-goes d s at tx (without part pending) (votes ++ record { part = part; ts = ts } ∷ [])
    on false = keeps d.seq (runs s)

pub prepared-goes : (part : ℕ) (tid : Tid) (ts : ℕ) (d : Context) (s : Session) → Goes d s (prepared part tid ts d s)
unfolding prepared
prepared-goes part tid ts d s = prepared_in-goes part tid ts d s s.waits s.running
