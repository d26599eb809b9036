use Rattle.std.proofs.Common.{sym, arith}
use Rattle.us_schedule.proofs.TraceGrammar.{trace_refused_long, trace_said_is_read}
use Rattle.us_schedule.proofs.trace_reading.read_trace_line.Goals as goal

pub returns-then-spaces_in-gt-MOST_SPACES-clause-exact :
    goal.returns-then-spaces_in-gt-MOST_SPACES-clause-exact
returns-then-spaces_in-gt-MOST_SPACES-clause-exact c =
    trace_refused_long c.args.shape c.args.text.now (sym c.if-is_empty.ensures) c.if-text-eq35.false (omega (arith, c.spaces_in.ensures))

pub returns-clause-allowed : goal.returns-clause-allowed
returns-clause-allowed c = (trace_said_is_read c.args.shape _ c.in_ok-line.line c.in_ok-line.ensures).allowed
