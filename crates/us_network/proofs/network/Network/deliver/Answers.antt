use Rattle.std.proofs.Common.{◌∙◌, ◌<◌, List, Some, sym, ap, subst, refl, length, slice_set, true}
use Rattle.std.proofs.lemmas.Option.{slice_get-get_or}
use Rattle.us_network.specs.declared.sent.Sent.{Sent}
use Rattle.us_network.specs.Packets.{IsDelivered}
use Rattle.us_network.proofs.Kept.{indexed_marked, delivered_is}
use Rattle.us_network.proofs.network.Network.deliver.Goals as goal

pub invariant_of-self : goal.invariant_of-self
invariant_of-self c =
    let sent = c.self.inside.sent.items in
    let within : c.args.place < length sent = subst (λ (ss : List Sent). c.args.place < length ss) (sym c.self.view_is) c.requires in
    indexed_marked sent _ c.self.inside.pairs c.self.inside.fronts c.args.place c.index_mut.result.now _ c.self.invariant
    (slice_get-get_or sent c.args.place c.index_mut.result.now within ∙ ap Some (sym c.index_mut.ensures.value)) refl refl refl

pub returns : goal.returns
returns c =
    let sent = c.self.inside.sent.items in
    let within : c.args.place < length sent = subst (λ (ss : List Sent). c.args.place < length ss) (sym c.self.view_is) c.requires in
    let new = slice_set sent c.args.place (record { packet = c.index_mut.result.now.packet; delivered = true }) in
    subst (λ (ss : List Sent). IsDelivered c.args.place ss new c.in_ok-packet.packet) c.self.view_is
    (delivered_is sent c.args.place c.index.result.now c.index_mut.result.now c.in_ok-packet.packet within c.index.ensures c.index_mut.ensures.value
    c.in_ok-packet.ensures)
