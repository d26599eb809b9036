use Rattle.std.proofs.Common.{◌≡◌, ◌++◌, drop}
use Rattle.us_history.specs.Executions.{entries_of}
use Rattle.us_extract.specs.PastSearch.{unlinked_past}
use Rattle.us_extract.proofs.execution.entries_of.Given as goal

-- the entries so far and of what is left are all
abbrev pub invariant-loop-ranked : goal.invariant-loop-ranked
invariant-loop-ranked l =
    l.entries ++ entries_of (unlinked_past l.committed) (drop l.ranked-index l.order) ≡ entries_of (unlinked_past l.committed) l.order
