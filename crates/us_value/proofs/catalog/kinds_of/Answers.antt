use Rattle.std.proofs.Common.{arith}
use Rattle.us_value.specs.declared.operation.Kind.TheVariants.{Register}
use Rattle.us_value.proofs.CatalogLemmas.{after_put}
use Rattle.us_value.proofs.catalog.kinds_of.Goals as goal

pub loop-left-preserved : goal.loop-left-preserved
loop-left-preserved c =
    let kept = c.loop-left.invariant in
    (omega (arith, kept.0), λ n. after_put c.args.spaces.now c.loop-left.left (0, Register) n _ _ c.loop-left-test.true kept.0 (c.in_ok-insert.ensures.updates.0 n) (kept.1 n))
