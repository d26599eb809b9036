-- The rules of a coordinator, at all its sessions.
use Rattle.std.specs.Prelude.{ℕ, ◌+◌, List, [], ◌∷◌, ◌++◌, Bool, true, false, not, ◌&&◌, if◌then◌else◌, Option, Some, None, filter}
use Rattle.us_base.specs.Vector.{zero}
use Rattle.us_base.specs.declared.shape.Shape.{Shape}
use Rattle.us_exec.specs.declared.WaitingRequest.{WaitingRequest}
use Rattle.us_client_wire.specs.declared.frame.Reply.TheVariants as reply
use Rattle.us_client_wire.specs.Replies.{reply_encoding}
use Rattle.us_model.specs.declared.event.Note.TheVariants as note
use Rattle.us_model.specs.declared.event.Outputs.{Outputs}
use Rattle.us_model.specs.declared.coordinator.QueuedRequest.{QueuedRequest}
use Rattle.us_model.specs.declared.coordinator.Await.{Await}
use Rattle.us_model.specs.declared.coordinator.Await.TheVariants as waits
use Rattle.us_model.specs.declared.coordinator.Session.{Session}
use Rattle.us_model.specs.declared.coordinator.Context.{Context}
use Rattle.us_model.specs.declared.coordinator.View.{View}
use Rattle.us_model.specs.State.{Coordinator}
use Rattle.us_model.specs.declared.refusal.Refusal.TheVariants as refusal
use Rattle.us_model.specs.Refusals.{number_of}
use Rattle.us_model.specs.Sessions.{no_stream, is_nothing, SessionStep}

-- a coordinator, and what its actor has given out so far
pub record Coordinated : Type 0 where
  pub coordinator : Coordinator
  pub out : Outputs

abbrev pub new_coordinator : Coordinator
new_coordinator = record { seq = 0; opens = 0; sessions = [] }

-- EVERY SESSION IN TURN
pub record SessionsStep : Type 0 where
  pub context : Context
  pub sessions : List Session

abbrev pub in_front : Session → SessionsStep → SessionsStep
in_front s all = record { context = all.context; sessions = s ∷ all.sessions }

abbrev pub and_rest : SessionStep → (Context → SessionsStep) → SessionsStep
and_rest a rest = in_front a.session (rest a.context)

abbrev pub each_session : (Context → Session → SessionStep) → Context → List Session → SessionsStep
each_session f d [] = record { context = d; sessions = [] }
each_session f d (s ∷ ss) = and_rest (f d s) (λ d'. each_session f d' ss)

abbrev pub context_of : View → Coordinator → Outputs → Context
context_of v c out = record { me = v.me; shape = v.shape; base = v.base; seq = c.seq; out = out }

-- a session that is closed and commits nothing is over
abbrev pub is_over : Session → Bool
is_over s = s.closed && is_nothing s.waits

-- and is forgotten
abbrev pub remembered : List Session → List Session
remembered ss = filter (λ s. not (is_over s)) ss

abbrev pub with_sessions : Coordinator → SessionsStep → Coordinated
with_sessions c all =
    record { coordinator = record c { seq = all.context.seq; sessions = remembered all.sessions }; out = all.context.out }

-- a rule of a session, at each of them
abbrev pub each_acts : (Context → Session → SessionStep) → View → Coordinator → Outputs → Coordinated
each_acts f v c out = with_sessions c (each_session f (context_of v c out) c.sessions)

-- OPEN: a session, whose number is that of the opens
abbrev pub new_session : ℕ → Session
new_session number =
    record {
      number = number;
      past = zero;
      asked = 0;
      stream = no_stream;
      begun = false;
      count = 0;
      running = None;
      waits = waits.Nothing;
      requests = [];
      closed = false;
    }

abbrev pub opened : ℕ → Coordinator → Outputs → Coordinated
opened coord c out =
    let number = c.opens + 1 in
    record {
      coordinator = record c { opens = number; sessions = c.sessions ++ new_session number ∷ [] };
      out = record out { notes = out.notes ++ note.Opened coord number ∷ [] };
    }

-- an open at a site that has its greatest number of open sessions is refused, by a reply under no session's number
abbrev pub refused_open : ℕ → Shape → Outputs → Outputs
refused_open coord shape out =
    let bytes = reply_encoding shape (reply.Refused 0 (number_of refusal.TooManySessions)) in
    record out { client = out.client ++ record { coord = coord; session = 0; bytes = bytes; ends = true } ∷ [] }

-- how many sessions are open
abbrev pub open_in : List Session → ℕ
open_in [] = 0
open_in (s ∷ ss) = if s.closed then open_in ss else open_in ss + 1

-- THE REQUESTS THAT WAIT: of each open session with unanswered requests the first one, by its number
abbrev pub first_request : List QueuedRequest → Option ℕ
first_request [] = None
first_request (a ∷ rest) = Some a.at

abbrev pub first_unanswered : List QueuedRequest → Await → Option ℕ
first_unanswered requests waits.Nothing = first_request requests
first_unanswered requests (waits.Version at place item op) = Some at
first_unanswered requests (waits.Prepared at pending votes) = Some at

abbrev pub waits_one : ℕ → ℕ → Session → Option ℕ → List WaitingRequest → List WaitingRequest
waits_one site coord s None rest = rest
waits_one site coord s (Some at) rest =
    if s.closed then rest else record { session = record { site = site; coord = coord; number = s.number }; at = at } ∷ rest

abbrev pub waits_in : ℕ → ℕ → List Session → List WaitingRequest
waits_in site coord [] = []
waits_in site coord (s ∷ ss) = waits_one site coord s (first_unanswered s.requests s.waits) (waits_in site coord ss)
