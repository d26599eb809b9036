use Rattle.std.proofs.Common.{arith, sym, ◌∙◌}
use Rattle.us_base.proofs.Arrays.{meet-is}
use Rattle.us_base.proofs.vector.Vector.meet.Goals as goal

pub returns : goal.returns
returns c =
    let long = c.loop-i-test.array_long in
    rw (← c.self.view_is, ← c.other.view_is)
    (meet-is c.self.inside.entries c.other.inside.entries c.loop-i.entry-items (c.self.told ∙ sym long) (c.other.told ∙ sym long) (λ i l. c.loop-i.invariant.0 i (omega (arith, c.loop-i-test.false))))
