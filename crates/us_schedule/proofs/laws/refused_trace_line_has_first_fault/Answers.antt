use Rattle.us_schedule.proofs.TraceFirst.{trace_refused_is_first}
use Rattle.us_schedule.proofs.laws.refused_trace_line_has_first_fault.Goals as goal

pub returns : goal.returns
returns c = trace_refused_is_first
