use Rattle.std.proofs.Common.{◌≡◌, drop}
use Rattle.us_vectors.specs.Tables.{meet_all}
use Rattle.us_vectors.proofs.tables.meet_all.Given as goal

-- what is left, met with what is met, is all
abbrev pub invariant-loop-other : goal.invariant-loop-other
invariant-loop-other l = meet_all l.least (drop l.other-index l.table) ≡ meet_all l.vector l.table
