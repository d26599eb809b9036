use Rattle.std.proofs.Common.{refl}
use Rattle.us_fields.proofs.Loops.{turn_passes, turn_fails, turns_end}
use Rattle.us_fields.proofs.values.ascend.Goals as goal

pub loop-i-init : goal.loop-i-init
loop-i-init c = refl

pub loop-i-preserved : goal.loop-i-preserved
loop-i-preserved c = turn_passes c.args.values.now c.loop-i.i c.index-values-i.result c.index-values-i-in-loop-i.result c.ge.result c.loop-i.auto.i c.loop-i-test.true c.index-values-i.is c.index-values-i-in-loop-i.is c.ge.ensures c.if-ge.false c.loop-i.invariant

pub returns-then-ge : goal.returns-then-ge
returns-then-ge c = turn_fails c.args.values.now c.loop-i.i c.index-values-i.result c.index-values-i-in-loop-i.result c.ge.result c.loop-i.auto.i c.loop-i-test.true c.index-values-i.is c.index-values-i-in-loop-i.is c.ge.ensures c.if-ge.true c.loop-i.invariant

pub returns : goal.returns
returns c = turns_end c.args.values.now c.loop-i.i c.loop-i.auto.i c.loop-i-test.false c.loop-i.invariant
