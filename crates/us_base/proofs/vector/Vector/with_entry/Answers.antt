use Rattle.std.proofs.Common.{arith}
use Rattle.us_base.proofs.Arrays.{with_entry-is}
use Rattle.us_base.proofs.vector.Vector.with_entry.Goals as goal

pub returns : goal.returns
returns c = let n = c.self.told in let e = c.from.ensures in rw (← c.self.view_is, e) (with_entry-is c.self.inside.entries c.args.i c.args.n (omega (arith, c.requires)))
