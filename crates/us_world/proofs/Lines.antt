-- The lines of a schedule in turn, and what is told at their end.
use Rattle.std.proofs.Common.{◌≡◌, ◌∙◌, ℕ, ◌+◌, List, [], ◌∷◌, ◌++◌, length, length-append, Bool, true, false, None, refl, sym, ap, subst, arith}
use Rattle.std.specs.Prelude.{⊤}
use Rattle.us_schedule.specs.declared.line.Line.{Line}
use Rattle.us_schedule.specs.declared.line.Line.TheVariants as line
use Rattle.us_exec.specs.declared.Execution.{Execution}
use Rattle.us_exec.specs.declared.RefusedRequest.{RefusedRequest}
use Rattle.us_exec.specs.declared.WaitingRequest.{WaitingRequest}
use Rattle.us_exec.specs.Consistency.{IsSound}
use Rattle.us_model.specs.declared.event.Event.TheVariants as event
use Rattle.us_model.specs.declared.settings.Settings.{Settings}
use Rattle.us_model.specs.Worlds.{World, OpenSession, ClientBytes, CloseSession, world_step, run, start, waits_of}
use Rattle.us_model.specs.Executions.{execution_of, refusals_of}
use Rattle.us_history.specs.Pasts.{direct_past}
use Rattle.us_history.specs.Executions.{execution_by}
use Rattle.us_snapshots.specs.Ascending.{Ascends}
use Rattle.us_order.specs.Premise.{HasOnePartition}
use Rattle.us_order.specs.Laws.{HistoriesAscend, ExecutionsAreDirect, ExecutionsAreWellFormed, EveryRunIsPor}
use Rattle.us_world.specs.declared.fault.WorldFault.{WorldFault}
use Rattle.us_world.specs.declared.fault.WorldFault.TheVariants as fault
use Rattle.us_world.specs.WorldState.{WorldState, Represents, after_at}
use Rattle.us_world.specs.Limits.{Performs, Begins, limit_of, IsPassedBy}
use Rattle.us_world.specs.Lines.{ExceedsBy, IsPerformed, IsStopped, HasReached, StandsUnless, OfWorld, HasWorld, IsFaultOf}
use Rattle.us_world.proofs.Standing.{stands_at, events-at}
use Rattle.us_world.proofs.WorldEvents.{run-append, limit_after, OneEvent}
use Rattle.us_world.proofs.RunsTo.{events_more}

-- ONE LINE
pub one_opening : (k : WorldState) (site coord : ℕ) → OneEvent (Performs (line.Open site coord)) k (after_at k site (event.Open coord))
unfolding world_step
one_opening k site coord = record {
  world_event = λ w. OpenSession site coord;
  is = λ w h. refl;
  stands = λ w h. stands_at k w site (event.Open coord) h;
  counts = events-at k site (event.Open coord);
}

pub one_sending : (k : WorldState) (site coord session : ℕ) (piece : List ℕ)
    → OneEvent (Performs (line.Bytes site coord session piece)) k (after_at k site (event.Bytes coord session piece))
unfolding world_step
one_sending k site coord session piece = record {
  world_event = λ w. ClientBytes site coord session piece;
  is = λ w h. refl;
  stands = λ w h. stands_at k w site (event.Bytes coord session piece) h;
  counts = events-at k site (event.Bytes coord session piece);
}

pub one_closing : (k : WorldState) (site coord session : ℕ) → OneEvent (Performs (line.Close site coord session)) k (after_at k site (event.Close coord session))
unfolding world_step
one_closing k site coord session = record {
  world_event = λ w. CloseSession site coord session;
  is = λ w h. refl;
  stands = λ w h. stands_at k w site (event.Close coord session) h;
  counts = events-at k site (event.Close coord session);
}

-- LINES IN TURN
pub reached_none : (settings : Settings) (k : WorldState) → Represents k (start settings) → k.events ≡ 0 → HasReached settings [] k
reached_none settings k h none = record { events = []; are = refl; within = refl; counts = none; stands = h }

pub reached_more : (settings : Settings) (lines : List Line) (l : Line) (old new : WorldState) → HasReached settings lines old → IsPerformed l old new
    → HasReached settings (lines ++ l ∷ []) new
reached_more settings lines l old new so step =
    let next = step (run so.events (start settings)) so.stands in
    let own = next.0 in
    let counts = so.counts in
    let counted : old.events ≡ 0 + length so.events = omega arith in
    record {
      events = so.events ++ own;
      are = events_more lines l (start settings) so.events own so.are next.1;
      within = limit_after 0 old.events so.events own (start settings) None so.within counted next.2;
      counts = next.4 ∙ ap (λ n. n + length own) so.counts ∙ sym (length-append so.events own);
      stands = subst (λ (v : World). Represents new v) (sym (run-append so.events own (start settings))) next.3;
    }

passed-by : (settings : Settings) (lines : List Line) (l : Line) (old : WorldState) (which : WorldFault) → HasReached settings lines old
    → ExceedsBy (Begins l) old which → IsPassedBy settings lines l which
passed-by settings lines l old which so step =
    let past = step (run so.events (start settings)) so.stands in
    record {
      events = so.events;
      are = so.are;
      within = so.within;
      own = past.0;
      first = past.1;
      passes = ap (λ n. limit_of n past.0 (run so.events (start settings))) (sym so.counts) ∙ past.2;
    }

pub reached_stops : (settings : Settings) (e : WorldFault) (lines : List Line) (l : Line) (old : WorldState) → HasReached settings lines old
    → IsStopped l old e → IsFaultOf settings lines l e
reached_stops settings fault.Memory lines l old so step = tt
reached_stops settings fault.Events lines l old so step = passed-by settings lines l old fault.Events so step
reached_stops settings fault.Sessions lines l old so step = passed-by settings lines l old fault.Sessions so step
reached_stops settings fault.Transactions lines l old so step = passed-by settings lines l old fault.Transactions so step

-- WHAT IS KEPT SPEAKS OF THE WORLD
of_world : (settings : Settings) (lines : List Line) (k : WorldState) (Is : World → Type 0) → (so : HasReached settings lines k)
    → Is (run so.events (start settings)) → OfWorld settings lines Is
of_world settings lines k Is so holds = record {
  world = run so.events (start settings);
  is = record { events = so.events; are = so.are; within = so.within; run = refl };
  holds = holds;
}

pub has_world : (settings : Settings) (lines : List Line) (k : WorldState) → HasReached settings lines k → HasWorld settings lines
has_world settings lines k so = of_world settings lines k (λ w. ⊤) so tt

pub running : (stopped : Bool) (settings : Settings) (lines : List Line) (k : WorldState) → StandsUnless stopped settings lines k → stopped ≡ false
    → HasReached settings lines k
running true settings lines k h e = absurd (cc)
running false settings lines k h e = h

pub execution_is : (settings : Settings) → HasOnePartition settings → (lines : List Line) (k : WorldState) (execution : Execution) → ExecutionsAreDirect
    → HasReached settings lines k → execution ≡ execution_by direct_past k.history → OfWorld settings lines (λ w. execution ≡ execution_of w.notes)
execution_is settings one lines k execution direct so is =
    of_world settings lines k (λ w. execution ≡ execution_of w.notes) so
    (is ∙ ap (execution_by direct_past) (sym so.stands.history) ∙ sym (direct settings one so.events))

pub execution_sound : (settings : Settings) → HasOnePartition settings → (lines : List Line) (execution : Execution) → EveryRunIsPor
    → ExecutionsAreWellFormed → OfWorld settings lines (λ w. execution ≡ execution_of w.notes) → IsSound settings.conflicts execution
execution_sound settings one lines execution por formed of =
    let es = of.is.events in
    let there : IsSound settings.conflicts (execution_of (run es (start settings)).notes) =
    record { formed = formed settings one es; consistent = por settings one es } in
    subst (IsSound settings.conflicts) (sym of.holds)
    (subst (λ (w : World). IsSound settings.conflicts (execution_of w.notes)) (sym of.is.run) there)

pub history_ascends : (settings : Settings) → HasOnePartition settings → (lines : List Line) (k : WorldState) → HasReached settings lines k
    → HistoriesAscend → Ascends k.history
history_ascends settings one lines k so ascend = subst Ascends so.stands.history (ascend settings one so.events)

pub refusals_are : (settings : Settings) (lines : List Line) (k : WorldState) (refused : List RefusedRequest) → HasReached settings lines k
    → refused ≡ k.history.refused → OfWorld settings lines (λ w. refused ≡ refusals_of w.notes)
refusals_are settings lines k refused so is =
    of_world settings lines k (λ w. refused ≡ refusals_of w.notes) so (is ∙ ap (λ h. h.refused) (sym so.stands.history))

pub waits_are : (settings : Settings) (lines : List Line) (k : WorldState) (waits : List WaitingRequest) → HasReached settings lines k
    → waits ≡ waits_of k.sites → OfWorld settings lines (λ w. waits ≡ waits_of w.sites)
waits_are settings lines k waits so is =
    of_world settings lines k (λ w. waits ≡ waits_of w.sites) so (is ∙ ap (λ sites. waits_of sites) (sym so.stands.sites))
