use Rattle.std.proofs.Common.{length}
use Rattle.us_schedule.proofs.Parting.{IsPast}
use Rattle.us_schedule.proofs.text.split_text.Given as goal

abbrev pub invariant-loop-content : goal.invariant-loop-content
invariant-loop-content l = IsPast l.text l.rest l.line

abbrev pub decreases-loop-content : goal.decreases-loop-content
decreases-loop-content l = length l.rest
