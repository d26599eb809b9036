use Rattle.us_conflict.proofs.PlaceLemmas.{position-none}
use Rattle.us_conflict.proofs.conflicts.Conflicts.transactions.Goals as goal

pub returns-clause-none : goal.returns-clause-none
returns-clause-none c = position-none _ c.args.a.now c.first.result c.first.ensures
