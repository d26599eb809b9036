use Rattle.std.proofs.Common.{◌∙◌, ◌++◌, ◌∷◌, [], ap}
use Rattle.us_network.proofs.Kept.{indexed_more}
use Rattle.us_network.proofs.network.Network.push.Goals as goal

pub invariant_of-self-in-Ok : goal.invariant_of-self-in-Ok
invariant_of-self-in-Ok c =
    indexed_more c.self.inside.sent.items c.push.new.self.items c.self.inside.pairs c.push-2.new.self c.self.inside.fronts _ c.self.invariant
    c.in_ok-push.ensures.items (c.in-Ok.ensures.ok ∙ ap (λ q. c.self.inside.pairs ++ q ∷ []) c.pair_of-pair.ensures)
