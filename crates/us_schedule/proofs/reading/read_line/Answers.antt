use Rattle.std.proofs.Common.{sym, arith}
use Rattle.us_schedule.proofs.Grammar.{refused_long, said_is_read}
use Rattle.us_schedule.proofs.reading.read_line.Goals as goal

pub returns-then-spaces_in-gt-MOST_SPACES-clause-exact :
    goal.returns-then-spaces_in-gt-MOST_SPACES-clause-exact
returns-then-spaces_in-gt-MOST_SPACES-clause-exact c =
    refused_long c.args.shape c.args.text.now (sym c.if-is_empty.ensures) c.if-text-eq35.false (omega (arith, c.spaces_in.ensures))

pub returns-clause-allowed : goal.returns-clause-allowed
returns-clause-allowed c = (said_is_read c.args.shape _ c.in_ok-line.line c.in_ok-line.ensures).allowed
