use Rattle.std.proofs.Common.{◌≡◌, ◌++◌, drop}
use Rattle.us_vectors.specs.Counts.{column, most_reached}
use Rattle.us_vectors.proofs.uniform.most_reached_of.Given as goal

-- the greatest of what is left, from the greatest so far, is the greatest of all
abbrev pub invariant-loop-row : goal.invariant-loop-row
invariant-loop-row l =
    most_reached l.f (column l.i l.before ++ column l.i l.after) l.most (column l.i (drop l.row-index l.rows))
    ≡ most_reached l.f (column l.i l.before ++ column l.i l.after) l.best (column l.i l.rows)
