use Rattle.us_certify.proofs.Certifying.{conflicts_seen}
use Rattle.us_certify.proofs.Mutual.{conflict-flipped}
use Rattle.us_certify.proofs.laws.conflicts_are_seen.Goals as goal

pub returns-clause-seen : goal.returns-clause-seen
returns-clause-seen c pairs es slot later first second below here there = conflicts_seen pairs es slot later first second below here there

pub returns-clause-mutual : goal.returns-clause-mutual
returns-clause-mutual c = conflict-flipped
