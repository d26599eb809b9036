use Rattle.us_config.specs.Spaces.{space_step}
use Rattle.us_config.proofs.Lists.{goes_on}
use Rattle.us_config.proofs.Made.{once_more}
use Rattle.us_config.proofs.space.listed_spaces.Goals as goal

pub loop-value-preserved : goal.loop-value-preserved
loop-value-preserved c =
    let said = rw c.as_slice.ensures at c.in_ok-space.ensures.exact in
    let free = rw c.as_slice.ensures at c.in_ok-space.ensures.free in
    record {
      said = rw c.in_ok-push.ensures.ok (goes_on space_step c.loop-value.spaces c.deref-value-items.result.now c.loop-value.value-index c.value-item.result c.in_ok-space.space _ c.loop-value-test.true c.value-item.is said c.loop-value.invariant.said);
      once = rw c.in_ok-push.ensures.ok (once_more c.loop-value.spaces c.in_ok-space.space c.loop-value.invariant.once free);
    }
