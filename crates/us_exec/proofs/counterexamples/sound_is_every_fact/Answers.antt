use Rattle.us_exec.proofs.Alone.{every_fact}
use Rattle.us_exec.proofs.counterexamples.sound_is_every_fact.Goals as goal

pub returns : goal.returns
returns c = every_fact
