use Rattle.us_session.proofs.Fitting.{answered_fits}
use Rattle.us_session.proofs.codec.is_answered.Goals as goal

pub returns : goal.returns
returns c encoded =
    answered_fits c.args.shape c.args.at c.args.answer.now c.ranges.at.fits (c.is_encoded.ensures.short encoded) (c.is_encoded.ensures.fits encoded)
