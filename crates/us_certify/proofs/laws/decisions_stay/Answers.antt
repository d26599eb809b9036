use Rattle.std.proofs.Common.{[]}
use Rattle.us_certify.proofs.Fronts.{entries-certified, front-stays, verdict-of_prefix}
use Rattle.us_certify.proofs.laws.decisions_stay.Goals as goal

pub returns-clause-entries : goal.returns-clause-entries
returns-clause-entries c pairs es = entries-certified pairs [] es

pub returns-clause-later : goal.returns-clause-later
returns-clause-later c pairs es more = front-stays pairs es more

pub returns-clause-prefixes : goal.returns-clause-prefixes
returns-clause-prefixes c pairs es slot d here = verdict-of_prefix pairs es slot d here
