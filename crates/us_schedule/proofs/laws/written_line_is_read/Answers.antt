use Rattle.us_schedule.proofs.Again.{written_is_read}
use Rattle.us_schedule.proofs.laws.written_line_is_read.Goals as goal

pub returns : goal.returns
returns c = written_is_read
