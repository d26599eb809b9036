use Rattle.us_load.proofs.Grammar.{loads_are_schedules}
use Rattle.us_load.proofs.laws.loads_are_schedules.Goals as goal

pub returns : goal.returns
returns c = loads_are_schedules
