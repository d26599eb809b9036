-- A step that gives nothing adds nothing.
use Rattle.std.proofs.Common.{◌≡◌, ℕ, List, ◌++◌, append-nil}
use Rattle.us_ballot_model.specs.declared.log.BallotLog.{BallotLog}
use Rattle.us_ballot_model.specs.declared.message.BallotOut.{BallotOut}
use Rattle.us_ballot_model.specs.Rules.{dropped, sending}
use Rattle.us_ballot_model.specs.declared.message.BallotMessage.{BallotMessage}
use Rattle.us_ballot.specs.Outs.{onto}

pub onto_dropped : {E : Type 0} (out : BallotOut E) (c : BallotLog E) → onto out (dropped c) ≡ out
onto_dropped out c = λ i. record { sends = append-nil out.sends i; chosen = append-nil out.chosen i }

pub onto_sending : {E : Type 0} (out : BallotOut E) (c : BallotLog E) (ms : List (ℕ × BallotMessage E)) → onto out (sending c ms) ≡ record out { sends = out.sends ++ ms }
onto_sending out c ms = λ i. record { sends = out.sends ++ ms; chosen = append-nil out.chosen i }
