-- A session that has nothing to do stays as it is when it runs, and after a run no session has anything to do.
use Rattle.std.proofs.Common.{◌≡◌, ℕ, zero, suc, List, [], ◌∷◌, ◌++◌, get_or, Bool, true, false, true≢false, refl, sym, ap, ◌∙◌, subst, cond, arith}
use Rattle.std.specs.Prelude.{◌==◌, not, slice_set, remove}
use Rattle.std.proofs.lemmas.Bool.{ne_eqb, eq-eqb}
use Rattle.std.proofs.lemmas.List.{get_or_default}
use Rattle.us_kind.specs.Updates.{All}
use Rattle.us_model.specs.declared.coordinator.Session.{Session}
use Rattle.us_model.specs.declared.coordinator.Context.{Context}
use Rattle.us_model.specs.declared.coordinator.QueuedRequest.{QueuedRequest}
use Rattle.us_model.specs.declared.coordinator.View.{View}
use Rattle.us_model.specs.declared.event.Outputs.{Outputs}
use Rattle.us_model.specs.State.{Coordinator, Spaces}
use Rattle.us_model.specs.Sessions.{SessionStep, stays, is_nothing, request, resume, run_requests, run_session}
use Rattle.us_model.specs.Coordinators.{each_session, each_acts, remembered, is_over, new_session}
use Rattle.us_coord.specs.declared.marks.Marked.{Marked}
use Rattle.us_coord.specs.declared.marks.Marked.TheVariants as marked
use Rattle.us_coord.specs.Marks.{is_marked, marking, IsIdle, IdleUnless, AreIdle}
use Rattle.us_coord.specs.Order.{InOrder, StandsAt, Concerns, put_back}
use Rattle.us_coord.proofs.Visits.{TurnAt, above_absent, absent_acts}

-- ONE SESSION
idle_requests : (spaces : Spaces) (d : Context) (s : Session) → s.requests ≡ [] → run_requests spaces d s s.requests ≡ stays d s
idle_requests spaces d s e =
    ap (run_requests spaces d s) e ∙ ap (λ (rs : List QueuedRequest). stays d (record s { requests = rs })) (sym e)

pub idle_stays : (spaces : Spaces) (d : Context) (s : Session) → IsIdle s → run_session spaces d s ≡ stays d s
unfolding run_session
idle_stays spaces d s idle = on (is_nothing s.waits) refl
  where
    on : (b : Bool) → is_nothing s.waits ≡ b → cond b (run_requests spaces d s s.requests) (stays d s) ≡ stays d s
    on true e = idle_requests spaces d s (idle e)
    on false e = refl

resumed_idle : (a : SessionStep) (next : Context → Session → SessionStep) → ((d : Context) (s : Session) → IsIdle (next d s).session)
    → IsIdle (resume a next).session
resumed_idle a next then' = on (is_nothing a.session.waits) refl
  where
    on : (b : Bool) → is_nothing a.session.waits ≡ b → IsIdle (cond b (next a.context a.session) a).session
    on true e = then' a.context a.session
    on false e = λ w. absurd (true≢false (sym w ∙ e))

requests_idle : (spaces : Spaces) (d : Context) (s : Session) (rs : List QueuedRequest) → IsIdle (run_requests spaces d s rs).session
requests_idle spaces d s [] = λ w. refl
requests_idle spaces d s (a ∷ rest) =
    resumed_idle (request spaces d (record s { requests = rest }) a.at a.request) (λ d' s'. run_requests spaces d' s' rest)
    (λ d' s'. requests_idle spaces d' s' rest)

pub run_idle : (spaces : Spaces) (d : Context) (s : Session) → IsIdle (run_session spaces d s).session
unfolding run_session
run_idle spaces d s = on (is_nothing s.waits) refl
  where
    on : (b : Bool) → is_nothing s.waits ≡ b → IsIdle (cond b (run_requests spaces d s s.requests) (stays d s)).session
    on true e = requests_idle spaces d s s.requests
    on false e = λ w. absurd (true≢false (sym w ∙ e))

-- ALL SESSIONS
pub all_map : (P Q : Session → Type 0) → ((s : Session) → P s → Q s) → (ss : List Session) → All P ss → All Q ss
all_map P Q f [] h = tt
all_map P Q f (s ∷ ss) h = (f s h.0, all_map P Q f ss h.1)

all_set : (P : Session → Type 0) (ss : List Session) (i : ℕ) (s : Session) → P s → All P ss → All P (slice_set ss i s)
all_set P [] i s p h = tt
all_set P (x ∷ ss) zero s p h = (p, h.1)
all_set P (x ∷ ss) (suc i) s p h = (h.0, all_set P ss i s p h.1)

pub all_remove : (P : Session → Type 0) (ss : List Session) (i : ℕ) → All P ss → All P (remove ss i)
all_remove P [] zero h = tt
all_remove P [] (suc i) h = tt
all_remove P (x ∷ ss) zero h = h.1
all_remove P (x ∷ ss) (suc i) h = (h.0, all_remove P ss i h.1)

pub all_put_back : (P : Session → Type 0) (ss : List Session) (i : ℕ) (s : Session) → P s → All P ss → All P (put_back ss i s)
all_put_back P ss i s p h = on (is_over s)
  where
    on : (b : Bool) → All P (cond b (remove ss i) (slice_set ss i s))
    on true = all_remove P ss i h
    on false = all_set P ss i s p h

pub all_push : (P : Session → Type 0) (ss : List Session) (s : Session) → P s → All P ss → All P (ss ++ s ∷ [])
all_push P [] s p h = (p, tt)
all_push P (x ∷ ss) s p h = (h.0, all_push P ss s p h.1)

-- after a run of all
pub each_idle : (spaces : Spaces) (d : Context) (ss : List Session) → All IsIdle (remembered (each_session (run_session spaces) d ss).sessions)
each_idle spaces d [] = tt
each_idle spaces d (s ∷ ss) = on (is_over (run_session spaces d s).session) (each_idle spaces (run_session spaces d s).context ss)
  where
    rest : List Session
    rest = remembered (each_session (run_session spaces) (run_session spaces d s).context ss).sessions

    on : (b : Bool) → All IsIdle rest → All IsIdle (cond (not b) ((run_session spaces d s).session ∷ rest) rest)
    on true h = h
    on false h = (run_idle spaces d s, h)

-- WHO IS MARKED
pub marked_more : (m : Marked) (n k : ℕ) → is_marked (marking m n) k ≡ false → is_marked m k ≡ false
marked_more marked.Nobody n k e = refl
marked_more (marked.One number) n k e = on (number == n) e
  where
    on : (b : Bool) → is_marked (cond b (marked.One number) marked.All) k ≡ false → (number == k) ≡ false
    on true f = f
    on false f = absurd (true≢false f)
marked_more marked.All n k e = e

pub marked_one : (m : Marked) (n : ℕ) → is_marked (marking m n) n ≡ true
marked_one marked.Nobody n = eq-eqb n n refl
marked_one (marked.One number) n = on (number == n) refl
  where
    on : (b : Bool) → (number == n) ≡ b → is_marked (cond b (marked.One number) marked.All) n ≡ true
    on true e = e
    on false e = refl
marked_one marked.All n = refl

pub all_marked : (ss : List Session) → AreIdle marked.All ss
all_marked [] = tt
all_marked (s ∷ ss) = (λ e. absurd (true≢false e), all_marked ss)

-- the one that had its turn is marked
pub idle_put_back : (m : Marked) (n i : ℕ) (s : Session) (ss : List Session) → s.number ≡ n → AreIdle m ss → AreIdle (marking m n) (put_back ss i s)
idle_put_back m n i s ss e h =
    all_put_back (IdleUnless (marking m n)) ss i s
    (λ f. absurd (true≢false (sym (ap (is_marked (marking m n)) e ∙ marked_one m n) ∙ f)))
    (all_map (IdleUnless m) (IdleUnless (marking m n)) (λ x idle f. idle (marked_more m n x.number f)) ss h)

pub turn_idle : (f : Context → Session → SessionStep) → ((d : Context) (s : Session) → (f d s).session.number ≡ s.number) → (m : Marked) (n i : ℕ)
    (d d' : Context) (ss ss' : List Session)
    → StandsAt n ss i
    → TurnAt f d ss i d' ss'
    → AreIdle m ss
    → AreIdle (marking m n) ss'
turn_idle f same m n i d d' ss ss' at turn h =
    let s = get_or ss i (new_session 0) in
    let is : s ≡ get_or ss i s = get_or_default ss i (new_session 0) s at.0 in
    subst (AreIdle (marking m n)) (sym (turn.sessions s is)) (idle_put_back m n i (f d s).session ss (same d s ∙ at.1 (new_session 0)) h)

-- nobody is marked after a run
pub idle_each : (spaces : Spaces) (d : Context) (ss : List Session) → AreIdle marked.Nobody (remembered (each_session (run_session spaces) d ss).sessions)
idle_each spaces d ss = all_map IsIdle (IdleUnless marked.Nobody) (λ x idle e. idle) _ (each_idle spaces d ss)

pub idle_push : (m : Marked) (ss : List Session) (n : ℕ) → AreIdle m ss → AreIdle m (ss ++ new_session n ∷ [])
idle_push m ss n h = all_push (IdleUnless m) ss (new_session n) (λ e w. refl) h

-- a run concerns the one that is marked
pub run_concerns : (spaces : Spaces) (n : ℕ) (ss : List Session) → AreIdle (marked.One n) ss → Concerns (run_session spaces) n ss
run_concerns spaces n [] h = tt
run_concerns spaces n (s ∷ ss) h =
    (λ other d. idle_stays spaces d s (h.0 (ne_eqb n s.number (λ e. other (sym e)))), run_concerns spaces n ss h.1)

pub nobody_concerns : (spaces : Spaces) (ss : List Session) → AreIdle marked.Nobody ss → Concerns (run_session spaces) 0 ss
nobody_concerns spaces [] h = tt
nobody_concerns spaces (s ∷ ss) h = (λ other d. idle_stays spaces d s (h.0 refl), nobody_concerns spaces ss h.1)

-- a run where nobody is marked changes nothing
pub nobody_acts : (spaces : Spaces) (v : View) (c : Coordinator) (out : Outputs) → InOrder 0 c.sessions c.opens → AreIdle marked.Nobody c.sessions
    → each_acts (run_session spaces) v c out ≡ record { coordinator = c; out = out }
nobody_acts spaces v c out h idle =
    absent_acts (run_session spaces) v c out 0 0 c.opens h (above_absent 0 c.opens 0 c.sessions (omega arith) h)
    (nobody_concerns spaces c.sessions idle)
