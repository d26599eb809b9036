use Rattle.std.proofs.Common.{drop, arith}
use Rattle.us_edge.proofs.Memory.{reads_front}
use Rattle.us_edge.proofs.sure.SureSourceSource.read.Goals as goal

pub returns-clause-bytes : goal.returns-clause-bytes
returns-clause-bytes c =
    reads_front c.args.self.now c.self.inside.bytes.items c.deref.result.now c.copy_from_slice.new.self (drop c.min-given.result c.args.into.now) c.self.inside.at c.min-given.result _ c.self.view_is c.deref.ensures.value (omega arith) c.copy_from_slice.ensures.after (omega (arith, c.min-given.ensures, c.len.ensures, c.self.invariant, c.self.inside.bytes.ok.0))
