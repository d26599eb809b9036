use Rattle.std.proofs.Common.{◌≡◌, ◌-◌}
use Rattle.us_base.specs.Vector.{zero}
use Rattle.us_vectors.specs.Matrices.{uniform_entry}
use Rattle.us_vectors.proofs.Entries.{put_from}
use Rattle.us_vectors.proofs.matrices.Matrices.uniform_over.Given as goal

-- the entries that are left, put into what is there now, give what all put into zeros do
abbrev pub invariant-loop-i : goal.invariant-loop-i
invariant-loop-i l =
    put_from (uniform_entry l.self l.stable) l.uniform l.i (10 - l.i) ≡ put_from (uniform_entry l.self l.stable) zero 0 10
