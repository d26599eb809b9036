use Rattle.std.proofs.Common.{◌∙◌, sym, ap, length, List}
use Rattle.us_edge.specs.declared.links.Offer.{Offer}
use Rattle.us_edge.specs.Links.{offered_to}
use Rattle.us_edge.proofs.Offers.{offered_to-peer}
use Rattle.us_edge.proofs.recording.Recording.with_peer.Goals as goal

pub invariant_of-self : goal.invariant_of-self
invariant_of-self c = λ conn.
    c.self.invariant conn ∙ ap length (sym (offered_to-peer conn c.args.site c.in_ok-bytes.bytes c.self.inside.offers.items)) ∙ ap (λ (offers : List Offer). length (offered_to conn offers)) (sym c.in_ok-push.ensures.items)
