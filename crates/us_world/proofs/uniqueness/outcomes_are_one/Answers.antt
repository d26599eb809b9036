use Rattle.us_world.proofs.Outcomes.{outcomes_one}
use Rattle.us_world.proofs.uniqueness.outcomes_are_one.Goals as goal

pub returns : goal.returns
returns c = outcomes_one
