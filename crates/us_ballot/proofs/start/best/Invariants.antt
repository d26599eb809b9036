use Rattle.std.proofs.Common.{◌≡◌, drop}
use Rattle.us_ballot_model.specs.Ballots.{best}
use Rattle.us_ballot.proofs.start.best.Given as goal

abbrev pub invariant-loop-promised : goal.invariant-loop-promised
invariant-loop-promised g l = best l.best (drop l.promised-index l.more) ≡ best l.fn.first l.more
