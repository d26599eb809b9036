use Rattle.std.proofs.Common.{◌≡◌, ◌++◌, drop}
use Rattle.us_history.specs.Executions.{loose_of}
use Rattle.us_extract.specs.PastSearch.{unlinked_past}
use Rattle.us_extract.proofs.history.History.loose.Given as goal

-- those so far and of what is left are all
abbrev pub invariant-loop-beginning : goal.invariant-loop-beginning
invariant-loop-beginning l =
    l.loose ++ loose_of (unlinked_past l.self.committed) l.self (drop l.beginning-index l.beginning-items) ≡ loose_of (unlinked_past l.self.committed)
    l.self l.beginning-items
