use Rattle.us_migrate.proofs.Loops.{IsReadSoFar}
use Rattle.us_migrate.proofs.read.take_vector.Given as goal

abbrev pub invariant-loop-i : goal.invariant-loop-i
invariant-loop-i l = IsReadSoFar l.fn.shape l.input l.fn.at l.i l.next l.vector
