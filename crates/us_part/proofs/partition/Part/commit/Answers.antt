use Rattle.std.proofs.Common.{sym, subst, arith}
use Rattle.us_part.specs.Placed.{AreClocked}
use Rattle.us_part.proofs.Partitions.{fewer_clocked}
use Rattle.us_part.proofs.partition.Part.commit.Goals as goal

pub invariant_of-self : goal.invariant_of-self
invariant_of-self c = record {
  place = c.self.invariant.place;
  clocked = subst (AreClocked c.self.inside.clock) (sym c.remove-was.ensures.items)
      (fewer_clocked c.self.inside.clock c.self.inside.clock c.in-Some.place c.self.inside.prepared.items (omega arith) c.self.invariant.clocked);
}

pub invariant_of-self-2 : goal.invariant_of-self-2
invariant_of-self-2 c = record {
  place = c.self.invariant.place;
  clocked = subst (AreClocked c.max-self-inside.result) (sym c.remove-was.ensures.items)
      (fewer_clocked c.self.inside.clock c.max-self-inside.result c.in-Some.place c.self.inside.prepared.items (omega arith) c.self.invariant.clocked);
}
