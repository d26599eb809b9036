use Rattle.us_config.specs.Assembly.{pairs_in}
use Rattle.us_config.proofs.Made.{flat_goes_on}
use Rattle.us_config.proofs.assembly.pairs_of.Goals as goal

pub loop-space-preserved : goal.loop-space-preserved
loop-space-preserved c =
    flat_goes_on pairs_in c.args.spaces.now c.loop-space.space-index c.space-item.result c.loop-space.pairs.items c.add_pairs.new.pairs.items
    c.loop-space-test.true c.space-item.is c.loop-space.invariant c.in_ok-add_pairs.ensures
