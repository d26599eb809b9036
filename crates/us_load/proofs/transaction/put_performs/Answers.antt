use Rattle.std.proofs.Common.{◌∙◌}
use Rattle.us_load.specs.Words.{stream}
use Rattle.us_load.proofs.Turns.{next_skipped, next_performed}
use Rattle.us_load.proofs.transaction.put_performs.Goals as goal

pub loop-left-preserved : goal.loop-left-preserved
loop-left-preserved c =
    let before = stream c.loop-left.rng in
    let after = stream c.next_u64.new.self in
    record {
      bytes =
          next_performed c.loop-left.left c.next_u64.result before after c.loop-left.out.items c.in_ok-out.out.items
          c.loop-left-test.true c.next_u64.ensures (c.in_ok-out.ensures {u = tt})
          ∙ c.loop-left.invariant.bytes;
      words = next_skipped c.loop-left.left c.next_u64.result before after c.loop-left-test.true c.next_u64.ensures ∙ c.loop-left.invariant.words;
    }
