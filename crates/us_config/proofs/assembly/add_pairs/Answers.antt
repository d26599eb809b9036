use Rattle.std.proofs.Common.{ℕ}
use Rattle.us_value.specs.declared.operation.Class.{Class}
use Rattle.us_config.proofs.Made.{map_goes_on}
use Rattle.us_config.proofs.assembly.add_pairs.Goals as goal

pub loop-one-preserved : goal.loop-one-preserved
loop-one-preserved c =
    let with_space : Class × Class → ℕ × Class × Class = λ (pair : Class × Class). (c.args.space.now.number, pair.0, pair.1) in
    map_goes_on with_space c.args.space.now.conflicts c.as_slice-one-items.result.now c.loop-one.one-index _ c.args.pairs.now.items c.loop-one.pairs.items c.push.new.self.items
    c.as_slice-one-items.ensures c.loop-one-test.true c.loop-one.invariant c.in_ok-push.ensures.items
