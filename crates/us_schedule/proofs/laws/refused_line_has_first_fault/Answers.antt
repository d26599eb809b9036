use Rattle.us_schedule.proofs.First.{refused_is_first}
use Rattle.us_schedule.proofs.laws.refused_line_has_first_fault.Goals as goal

pub returns : goal.returns
returns c = refused_is_first
