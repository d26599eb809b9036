use Rattle.us_schedule.proofs.Again.{read_is_written}
use Rattle.us_schedule.proofs.laws.read_line_is_written.Goals as goal

pub returns : goal.returns
returns c = read_is_written
