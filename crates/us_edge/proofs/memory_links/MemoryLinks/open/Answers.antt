use Rattle.std.proofs.Common.{◌∙◌, ℕ, List, [], ◌∷◌, ◌++◌, ap, arith}
use Rattle.us_edge.proofs.Connections.{still_in_order, opened_in_order}
use Rattle.us_edge.proofs.memory_links.MemoryLinks.open.Goals as goal

pub invariant_of-self-in_err-keep : goal.invariant_of-self-in_err-keep
invariant_of-self-in_err-keep c =
    still_in_order c.self.inside.inputs.items c.self.inside.opened.items c.reserve.new.self.items c.self.inside.dropped.items c.reserve-2.new.self.items _ _ c.reserve.ensures.items c.reserve-2.ensures.items c.reserve-2.ensures.capacity c.self.invariant

pub invariant_of-self-2 : goal.invariant_of-self-2
invariant_of-self-2 c =
    opened_in_order c.self.inside.inputs.items c.self.inside.opened.items c.push.new.self.items c.self.inside.dropped.items c.reserve-2.new.self.items _ _ c.args.conn (c.in_ok-push.ensures.items ∙ ap (λ (xs : List ℕ). xs ++ c.args.conn ∷ []) c.reserve.ensures.items) c.reserve-2.ensures.items (omega (arith, c.in_ok-reserve-2.ensures.ok)) c.self.invariant
