use Rattle.std.proofs.Common.{◌∙◌, sym, ap, ◌≡◌, ◌+◌, length, List, arith}
use Rattle.us_edge.specs.declared.links.Offer.{Offer}
use Rattle.us_edge.specs.Links.{offered_to}
use Rattle.us_edge.specs.MemoryLinks.{Recording}
use Rattle.us_edge.proofs.Offers.{client_total}
use Rattle.us_edge.proofs.recording.Recording.with_client.Goals as goal

pub invariant_of-result : goal.invariant_of-result
invariant_of-result c = λ conn.
    let total_is : c.in_ok-total.total ≡ length (offered_to c.args.conn c.self.inside.offers.items) + length c.in_ok-bytes.bytes = omega (arith, c.in_ok-total.ensures, ap length c.in_ok-bytes.ensures, ap (λ (k : Recording). length (offered_to c.args.conn k.offers)) c.self.view_is) in
    client_total conn c.args.conn c.in_ok-total.total c.self.inside.offers.items c.in_ok-bytes.bytes _ _ (c.in_ok-insert.ensures.updates.0 conn) (c.self.invariant conn) total_is ∙ ap (λ (offers : List Offer). length (offered_to conn offers)) (sym c.in_ok-push.ensures.items)
