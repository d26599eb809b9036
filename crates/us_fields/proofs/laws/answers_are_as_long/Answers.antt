use Rattle.us_fields.proofs.AnswerLengths.{answers-are-as-long}
use Rattle.us_fields.proofs.laws.answers_are_as_long.Goals as goal

pub returns : goal.returns
returns c = answers-are-as-long
