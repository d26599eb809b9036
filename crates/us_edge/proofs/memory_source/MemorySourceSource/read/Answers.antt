use Rattle.std.proofs.Common.{ap, drop, arith}
use Rattle.us_edge.specs.Scripts.{Source}
use Rattle.us_edge.proofs.Memory.{reads_front}
use Rattle.us_edge.proofs.memory_source.MemorySourceSource.read.Goals as goal

pub returns-clause-bytes : goal.returns-clause-bytes
returns-clause-bytes c =
    reads_front c.args.self.now.left c.self.inside.bytes.items c.deref.result.now c.copy_from_slice.new.self (drop c.min-given.result c.args.into.now) c.self.inside.at c.min-given.result _ (ap (λ (s : Source). s.left) c.self.view_is) c.deref.ensures.value (omega arith) c.copy_from_slice.ensures.after (omega (arith, c.min-given.ensures, c.len.ensures, c.self.invariant.0, c.self.inside.bytes.ok.0))
