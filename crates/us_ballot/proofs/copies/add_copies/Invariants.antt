use Rattle.std.proofs.Common.{◌≡◌, ◌++◌, drop}
use Rattle.us_ballot.proofs.copies.add_copies.Given as goal

-- what is done and what is left are all
abbrev pub invariant-loop-entry : goal.invariant-loop-entry
invariant-loop-entry g l = l.to ++ drop l.entry-index l.entries ≡ l.initial.to ++ l.entries
