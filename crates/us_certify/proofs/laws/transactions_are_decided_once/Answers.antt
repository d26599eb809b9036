use Rattle.us_certify.proofs.Certifying.{decided_once}
use Rattle.us_certify.proofs.laws.transactions_are_decided_once.Goals as goal

pub returns : goal.returns
returns c pairs es slot later first second below here there same = decided_once pairs es slot later first second below here there same
