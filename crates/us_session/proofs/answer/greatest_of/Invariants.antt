use Rattle.std.proofs.Common.{◌≡◌, drop, max}
use Rattle.us_model.specs.Sessions.{greatest}
use Rattle.us_session.proofs.answer.greatest_of.Given as goal

-- the greatest of what came and of what is left is the greatest of all
abbrev pub invariant-loop-one : goal.invariant-loop-one
invariant-loop-one l = max l.most (greatest (drop l.one-index l.votes)) ≡ greatest l.votes
