use Rattle.std.proofs.Common.{sym, ◌∙◌}
use Rattle.us_network.proofs.Kept.{passed_more}
use Rattle.us_network.proofs.fronts.pass.Goals as goal

pub loop-passed-preserved : goal.loop-passed-preserved
loop-passed-preserved c =
    passed_more c.args.sent.now c.loop-passed.passed c.args.places.now c.loop-passed.invariant (sym c.is_passed.ensures.passed ∙ c.loop-passed-test.true)
