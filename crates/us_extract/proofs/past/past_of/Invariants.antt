use Rattle.std.proofs.Common.{◌≡◌, ◌++◌, drop}
use Rattle.us_history.specs.Pasts.{counts_of}
use Rattle.us_extract.specs.PastSearch.{steps_to}
use Rattle.us_extract.proofs.past.past_of.Given as goal

-- what was counted and what is left are all
abbrev pub invariant-loop-session : goal.invariant-loop-session
invariant-loop-session l =
    l.past ++ counts_of (steps_to l.transaction) l.committed (drop l.session-index l.sessions) ≡ counts_of (steps_to l.transaction) l.committed l.sessions
