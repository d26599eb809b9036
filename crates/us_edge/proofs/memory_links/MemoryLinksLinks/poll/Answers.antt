use Rattle.std.proofs.Common.{Some, sym, subst}
use Rattle.us_edge.specs.Links.{AreDropsOfOpened}
use Rattle.us_edge.specs.MemoryLinks.{MemoryLinks}
use Rattle.us_edge.proofs.Connections.{taken_in_order}
use Rattle.us_edge.proofs.memory_links.MemoryLinksLinks.poll.Goals as goal

pub invariant_of-self-2 : goal.invariant_of-self-2
invariant_of-self-2 c = taken_in_order c.pop_front.result c.self-2.inside.inputs.items c.pop_front.new.self.items _ _ c.pop_front.ensures.items c.self-2.invariant

pub returns-in_err-keep_next-clause-drops : goal.returns-in_err-keep_next-clause-drops
returns-in_err-keep_next-clause-drops c =
    let P : MemoryLinks → Type 0 = λ m. AreDropsOfOpened (Some m.connections) in
    subst P (sym c.in_err-keep_next.ensures.err) c.self.invariant.drops
