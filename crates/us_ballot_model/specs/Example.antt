-- A run of three sites that was worked by hand: an entry is chosen, site 2 leads while site 1 goes on.
use Rattle.std.specs.Prelude.{ℕ, ◌==◌, List, [], ◌∷◌}
use Rattle.us_ballot_model.specs.declared.log.Role.{Role}
use Rattle.us_ballot_model.specs.declared.log.BallotLog.{BallotLog}
use Rattle.us_ballot_model.specs.declared.message.BallotMessage.{BallotMessage}
use Rattle.us_ballot_model.specs.declared.message.BallotMessage.TheVariants.{NewBallot, Promise, NewState, Accept, Accepted, CatchUp, Learn}
use Rattle.us_ballot_model.specs.Worlds.{Sent, World, WorldEvent, Lead, Append, Tick, Deliver, run, opening_world}

-- entry 7 is chosen in ballot 1 by sites 1 and 2, and site 3 learns it
abbrev pub first_part : List (WorldEvent ℕ)
first_part = Append 1 7 ∷ Deliver 0 ∷ Deliver 2 ∷ Deliver 4 ∷ []

-- site 2, which holds 7 and hasn't learnt that it is chosen, leads by the promise of site 3, which has
abbrev pub second_part : List (WorldEvent ℕ)
second_part = Lead 2 ∷ Deliver 6 ∷ Deliver 7 ∷ Deliver 9 ∷ Deliver 10 ∷ []

-- site 1 has heard nothing of it: its entry 8 stays in its tail, until the new state takes it away
abbrev pub third_part : List (WorldEvent ℕ)
third_part = Deliver 11 ∷ Append 1 8 ∷ Deliver 14 ∷ Tick 1 ∷ Deliver 8 ∷ []

abbrev pub after : List (WorldEvent ℕ) → World ℕ
after hs = run (λ x y. x == y) 1 hs (opening_world 1)

abbrev pub message : ℕ → ℕ → BallotMessage ℕ → Sent ℕ
message from to m = record { from = from; to = to; message = m }

abbrev pub first_messages : List (Sent ℕ)
first_messages =
    message 1 2 (Accept 1 1 7) ∷ message 1 3 (Accept 1 1 7) ∷ message 2 1 (Accepted 1 1) ∷ message 1 2 (Learn 1 (7 ∷ [])) ∷ message 1 3 (Learn 1 (7 ∷ []))
    ∷ []

abbrev pub second_messages : List (Sent ℕ)
second_messages =
    message 2 1 (NewBallot 2)
    ∷ message 2 3 (NewBallot 2)
    ∷ message 3 2 (Promise 2 1 1 [])
    ∷ message 2 1 (NewState 2 0 (7 ∷ []))
    ∷ message 2 3 (NewState 2 0 (7 ∷ []))
    ∷ message 3 2 (Accepted 2 1)
    ∷ message 2 1 (Learn 1 (7 ∷ []))
    ∷ message 2 3 (Learn 1 (7 ∷ []))
    ∷ []

abbrev pub third_messages : List (Sent ℕ)
third_messages =
    message 1 2 (Accept 1 2 8)
    ∷ message 1 3 (Accept 1 2 8)
    ∷ message 1 2 (CatchUp 1)
    ∷ message 1 3 (CatchUp 1)
    ∷ message 1 2 (Accept 1 2 8)
    ∷ message 1 3 (Accept 1 2 8)
    ∷ message 1 2 (Accepted 2 1)
    ∷ []

-- a log of ballot 2 with the chosen entry 7 and an empty tail
abbrev pub settled : ℕ → Role ℕ → BallotLog ℕ
settled s r = record { f = 1; site = s; ballot = 2; accepted = 2; chosen = 7 ∷ []; tail = []; role = r }
