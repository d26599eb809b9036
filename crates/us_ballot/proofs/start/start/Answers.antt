use Rattle.std.proofs.Common.{sym, ◌∙◌, subst}
use Rattle.us_ballot.proofs.Promises.{Fits, due_fits}
use Rattle.us_ballot.proofs.start.start.Goals as goal

pub start_by-requires-clause-window : goal.start_by-requires-clause-window
start_by-requires-clause-window g c =
    subst Fits (sym c.in_ok-due.ensures ∙ c.in-Some.is) (due_fits c.args.log.now c.args.log.now.role c.requires.role)
