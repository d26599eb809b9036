use Rattle.std.proofs.Common.{◌≡◌, ◌≤◌, ◌+◌, drop}
use Rattle.us_vectors.specs.Counts.{column, reaching}
use Rattle.us_vectors.proofs.uniform.reaching.Given as goal

-- what was counted, and what is left to count, is all, and no more were counted than there are
abbrev pub invariant-loop-row : goal.invariant-loop-row
invariant-loop-row l =
    (l.count + reaching l.n (column l.i (drop l.row-index l.rows)) ≡ reaching l.n (column l.i l.rows)) × (l.count ≤ l.row-index)
