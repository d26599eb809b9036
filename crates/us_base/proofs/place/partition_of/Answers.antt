use Rattle.std.proofs.Common.{arith}
use Rattle.us_base.proofs.Arrays.{sum-take}
use Rattle.us_base.proofs.place.partition_of.Goals as goal

pub loop-byte-preserved : goal.loop-byte-preserved
loop-byte-preserved c =
    let e = c.from-sum-in-loop-byte.ensures in
    let f = sum-take c.args.id.now c.loop-byte.byte-index c.loop-byte-test.true in
    let g = c.loop-byte.invariant.0 in
    let h = c.loop-byte.invariant.1 in
    let k = c.type_inv.id c.loop-byte.byte-index in
    (omega arith, omega arith)
