use Rattle.us_schedule.proofs.TraceAgain.{trace_written_is_read}
use Rattle.us_schedule.proofs.laws.written_trace_line_is_read.Goals as goal

pub returns : goal.returns
returns c = trace_written_is_read
