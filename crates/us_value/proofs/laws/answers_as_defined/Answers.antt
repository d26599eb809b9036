use Rattle.us_value.proofs.KindLaws.{answers-as-defined}
use Rattle.us_value.proofs.laws.answers_as_defined.Goals as goal

pub returns : goal.returns
returns c = answers-as-defined
