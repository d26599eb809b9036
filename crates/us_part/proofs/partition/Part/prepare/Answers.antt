use Rattle.std.proofs.Common.{◌≡◌, sym, ap, subst, arith, ◌<◌}
use Rattle.us_part.specs.Placed.{Placed, AreClocked}
use Rattle.us_part.proofs.Partitions.{later_clock, one_clocked}
use Rattle.us_part.proofs.partition.Part.prepare.Goals as goal

pub invariant_of-self-in_err-push-2 : goal.invariant_of-self-in_err-push-2
invariant_of-self-in_err-push-2 c =
    let clock : c.self.inside.clock ≡ c.args.self.now.partition.clock = ap (λ (a : Placed). a.partition.clock) c.self.view_is in
    let above : c.args.self.now.partition.clock < c.in-Some.ts = c.in-Some.ensures.above in
    record {
      place = c.self.invariant.place;
      clocked = subst (AreClocked c.in-Some.ts) (sym c.in_err-push-2.ensures.items)
          (later_clock c.self.inside.clock c.in-Some.ts c.self.inside.prepared.items (omega arith) c.self.invariant.clocked);
    }

pub invariant_of-self-2 : goal.invariant_of-self-2
invariant_of-self-2 c =
    let clock : c.self.inside.clock ≡ c.args.self.now.partition.clock = ap (λ (a : Placed). a.partition.clock) c.self.view_is in
    let above : c.args.self.now.partition.clock < c.in-Some.ts = c.in-Some.ensures.above in
    record {
      place = c.self.invariant.place;
      clocked = subst (AreClocked c.in-Some.ts) (sym c.in_ok-push-2.ensures.items)
          (one_clocked c.self.inside.clock c.in-Some.ts c.self.inside.prepared.items _ (omega arith) (omega arith) (omega arith) c.self.invariant.clocked);
    }
