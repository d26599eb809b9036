use Rattle.us_schedule.proofs.Cuts.{lines_few}
use Rattle.us_schedule.proofs.text.lines_of.Goals as goal

pub returns-clause-few : goal.returns-clause-few
returns-clause-few c = lines_few c.args.text.now
