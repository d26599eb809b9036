use Rattle.us_config.specs.Values.{each_by}
use Rattle.us_config.specs.Meaning.{address_for}
use Rattle.us_config.proofs.Lists.{goes_on}
use Rattle.us_config.proofs.node.listed_addresses.Goals as goal

pub loop-value-preserved : goal.loop-value-preserved
loop-value-preserved c =
    rw c.in_ok-push.ensures.ok (goes_on (each_by c.args.key address_for) c.loop-value.addresses c.deref-value-items.result.now c.loop-value.value-index c.value-item.result c.in_ok-address_of.field-0 _ c.loop-value-test.true c.value-item.is c.in_ok-address_of.ensures c.loop-value.invariant)
