use Rattle.us_schedule.proofs.TraceAgain.{trace_read_is_written}
use Rattle.us_schedule.proofs.laws.read_trace_line_is_written.Goals as goal

pub returns : goal.returns
returns c = trace_read_is_written
