use Rattle.us_fields.proofs.FieldLengths.{writes-are-as-long}
use Rattle.us_fields.proofs.laws.writes_are_as_long.Goals as goal

pub returns : goal.returns
returns c = writes-are-as-long
