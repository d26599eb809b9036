use Rattle.std.proofs.Common.{◌∙◌, sym}
use Rattle.us_extract.proofs.AllAscend.{ascends-holds}
use Rattle.us_extract.proofs.history.History.ascends.Goals as goal

pub returns-clause-holds : goal.returns-clause-holds
returns-clause-holds c = λ passes. ascends-holds c.args.self.now (sym c.each_two_ascend.ensures ∙ passes)
