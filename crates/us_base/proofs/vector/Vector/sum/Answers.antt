use Rattle.std.proofs.Common.{arith}
use Rattle.us_base.proofs.Arrays.{sum-take}
use Rattle.us_base.proofs.vector.Vector.sum.Goals as goal

pub loop-entry-preserved : goal.loop-entry-preserved
loop-entry-preserved c =
    let e = c.wide-sum.ensures.value in
    let n = c.self.told in
    let less = c.loop-entry-test.true in
    let f = sum-take c.self.inside.entries c.loop-entry.entry-index (omega arith) in
    let g = c.loop-entry.invariant.0 in
    let h = c.loop-entry.invariant.1 in
    let k = c.wide-sum.ensures.small in
    (omega arith, omega arith)
