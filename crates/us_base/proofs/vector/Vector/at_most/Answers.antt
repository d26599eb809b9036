use Rattle.std.proofs.Common.{◌≡◌, false, true, arith}
use Rattle.us_base.specs.Vector.{at_most}
use Rattle.us_base.proofs.Arrays.{at_most-found, at_most-all}
use Rattle.us_base.proofs.Lattice.{at_most-tells}
use Rattle.us_base.proofs.vector.Vector.at_most.Goals as goal

pub returns-then-entry-other : goal.returns-then-entry-other
returns-then-entry-other c =
    let value : false ≡ at_most c.args.self.now c.args.other.now = rw (← c.self.view_is, ← c.other.view_is) (at_most-found c.self.inside.entries c.other.inside.entries c.loop-i.i c.if-entry-other.true) in
    record { value = value; entries = at_most-tells _ _ _ value }

pub returns : goal.returns
returns c =
    let n = c.self.told in
    let value : true ≡ at_most c.args.self.now c.args.other.now = rw (← c.self.view_is, ← c.other.view_is) (at_most-all c.self.inside.entries c.other.inside.entries (λ i l. c.loop-i.invariant i (omega (arith, c.loop-i-test.false)))) in
    record { value = value; entries = at_most-tells _ _ _ value }
