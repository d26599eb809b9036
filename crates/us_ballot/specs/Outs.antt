-- What steps give, one after another.
use Rattle.std.specs.Prelude.{ℕ, List, ◌++◌}
use Rattle.us_ballot_model.specs.declared.message.BallotMessage.{BallotMessage}
use Rattle.us_ballot_model.specs.declared.message.BallotOut.{BallotOut}
use Rattle.us_ballot_model.specs.Rules.{Stepped}

-- what was given, and then these messages
abbrev pub more : {E : Type 0} → BallotOut E → List (ℕ × BallotMessage E) → BallotOut E
more out ms = record out { sends = out.sends ++ ms }

-- what was given, and then what the step gives
abbrev pub onto : {E : Type 0} → BallotOut E → Stepped E → BallotOut E
onto out r = record { sends = out.sends ++ r.out.sends; chosen = out.chosen ++ r.out.chosen }
