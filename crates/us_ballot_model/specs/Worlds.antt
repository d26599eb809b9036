-- The small world of 2f + 1 ballot logs: all messages ever sent, any of which may come at any time, any number of times, or never.
use Rattle.std.specs.Prelude.{ℕ, ◌+◌, ◌*◌, List, [], ◌∷◌, ◌++◌, map, Bool, true, false, ◌&&◌, ◌==◌, if◌then◌else◌, nat_le, Option, Some, None, slice_get}
use Rattle.us_ballot_model.specs.declared.log.BallotLog.{BallotLog}
use Rattle.us_ballot_model.specs.declared.message.BallotMessage.{BallotMessage}
use Rattle.us_ballot_model.specs.Ballots.{opening}
use Rattle.us_ballot_model.specs.Rules.{Stepped, lead, may_append, append, tick, take_message}

-- a message with the site that sent it and the one that it goes to
pub record Sent (E : Type 0) : Type 0 where
  pub from : ℕ
  pub to : ℕ
  pub message : BallotMessage E

-- each site's log, all messages ever sent in order, which sites haven't crashed, and the entries that leaders took
pub record World (E : Type 0) : Type 0 where
  pub at : ℕ → BallotLog E
  pub sent : List (Sent E)
  pub live : ℕ → Bool
  pub appended : List E

-- what may happen next; a message comes by its place among those ever sent
pub data WorldEvent (E : Type 0) : Type 0 where
  Lead : (site : ℕ) → WorldEvent E
  Append : (site : ℕ) → (entry : E) → WorldEvent E
  Tick : (site : ℕ) → WorldEvent E
  Crash : (site : ℕ) → WorldEvent E
  Deliver : (place : ℕ) → WorldEvent E

-- what one site is, with another value at a site
unfoldable pub put : {X : Type 0} → (ℕ → X) → ℕ → X → ℕ → X
put f s x j = if j == s then x else f j

-- the messages of a step with their sender
abbrev pub sent_by : {E : Type 0} → ℕ → List (ℕ × BallotMessage E) → List (Sent E)
sent_by s ms = map (λ m. record { from = s; to = m.0; message = m.1 }) ms

-- s is one of the sites, and hasn't crashed
abbrev pub acts : {E : Type 0} → ℕ → World E → ℕ → Bool
acts f w s = w.live s && (nat_le 1 s && nat_le s (2 * f + 1))

-- site s has made a step
abbrev pub stepped : {E : Type 0} → World E → ℕ → Stepped E → World E
stepped w s r = record w { at = put w.at s r.log; sent = w.sent ++ sent_by s r.out.sends }

abbrev pub steps : {E : Type 0} → ℕ → World E → ℕ → Stepped E → World E
steps f w s r = if acts f w s then stepped w s r else w

-- a leader whose tail has room takes the entry
abbrev pub appends : {E : Type 0} → ℕ → World E → ℕ → E → World E
appends f w s e =
    if acts f w s && may_append (w.at s) then record (stepped w s (append (w.at s) e)) { appended = w.appended ++ e ∷ [] } else w

abbrev pub deliver_packet : {E : Type 0} → (E → E → Bool) → ℕ → World E → Option (Sent E) → World E
deliver_packet eq f w None = w
deliver_packet eq f w (Some p) = steps f w p.to (take_message eq (w.at p.to) p.from p.message)

unfoldable pub world_step : {E : Type 0} → (E → E → Bool) → ℕ → World E → WorldEvent E → World E
world_step eq f w (Lead s) = steps f w s (lead (w.at s))
world_step eq f w (Append s e) = appends f w s e
world_step eq f w (Tick s) = steps f w s (tick (w.at s))
world_step eq f w (Crash s) = record w { live = put w.live s false }
world_step eq f w (Deliver k) = deliver_packet eq f w (slice_get w.sent k)

-- A RUN: one thing after another
abbrev pub run : {E : Type 0} → (E → E → Bool) → ℕ → List (WorldEvent E) → World E → World E
run eq f [] w = w
run eq f (h ∷ hs) w = run eq f hs (world_step eq f w h)

-- before anything happened
abbrev pub opening_world : {E : Type 0} → ℕ → World E
opening_world f = record { at = opening f; sent = []; live = λ s. true; appended = [] }
