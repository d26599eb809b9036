-- Promises have tails of at most 8 entries.
use Rattle.std.proofs.Common.{◌≤◌, List, [], ◌∷◌, ◌++◌, length, Bool, true, false, Option, Some, None}
use Rattle.std.specs.Prelude.{if◌then◌else◌, nat_lt}
use Rattle.us_ballot_model.specs.declared.log.PromisedLog.{PromisedLog}
use Rattle.us_ballot_model.specs.declared.log.Role.{Role}
use Rattle.us_ballot_model.specs.declared.log.Role.TheVariants.{Follower, Candidate, Leader}
use Rattle.us_ballot_model.specs.declared.log.BallotLog.{BallotLog}
use Rattle.us_ballot_model.specs.Ballots.{WINDOW, ArePromises, IsRole, is_better, best}
use Rattle.us_ballot_model.specs.Rules.{best_of, due}

pub best_window : {E : Type 0} (v : PromisedLog E) (vs : List (PromisedLog E)) → length v.tail ≤ WINDOW → ArePromises vs → length (best v vs).tail ≤ WINDOW
best_window v [] h hs = h
best_window {E} v (u ∷ us) h hs = on (is_better u v) (best_window u us hs.0 hs.1) (best_window v us h hs.1)
  where
    on : (b : Bool) → length (best u us).tail ≤ WINDOW → length (best v us).tail ≤ WINDOW → length (best (if b then u else v) us).tail ≤ WINDOW
    on true x y = x
    on false x y = y

pub promises_push : {E : Type 0} (vs : List (PromisedLog E)) (v : PromisedLog E) → ArePromises vs → length v.tail ≤ WINDOW → ArePromises (vs ++ v ∷ [])
promises_push [] v hs h = (h, tt)
promises_push (u ∷ us) v hs h = (hs.0, promises_push us v hs.1 h)

-- there is none, or it fits
abbrev pub Fits : {E : Type 0} → Option (PromisedLog E) → Type 0
Fits None = Unit {0}
Fits (Some v) = length v.tail ≤ WINDOW

best_of_fits : {E : Type 0} (vs : List (PromisedLog E)) → ArePromises vs → Fits (best_of vs)
best_of_fits [] hs = tt
best_of_fits (v ∷ vs) hs = best_window v vs hs.0 hs.1

pub due_fits : {E : Type 0} (c : BallotLog E) (r : Role E) → IsRole r → Fits (due c r)
due_fits c Follower h = tt
due_fits c (Leader acks) h = tt
due_fits {E} c (Candidate promises) h = on (nat_lt c.f (length promises))
  where
    on : (b : Bool) → Fits (if b then best_of promises else None)
    on true = best_of_fits promises h
    on false = tt
