use Rattle.us_certify.proofs.Reasons.{verdict-says_why}
use Rattle.us_certify.proofs.laws.verdicts_say_why.Goals as goal

pub returns : goal.returns
returns c pairs earlier e = verdict-says_why pairs e earlier
