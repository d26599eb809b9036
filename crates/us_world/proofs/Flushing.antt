-- Deliveries, one and many.
use Rattle.std.proofs.Common.{◌≡◌, ◌∙◌, ℕ, ◌+◌, ◌<◌, List, [], ◌∷◌, ◌++◌, length, map, Some, None, Err, refl, sym, ap, subst, arith}
use Rattle.std.proofs.Common.{length-append, ◌⊎◌, inl, inr}
use Rattle.std.proofs.lemmas.List.{length-map}
use Rattle.std.specs.Prelude.{⊤}
use Rattle.std.specs.List.{slice_get}
use Rattle.us_model.specs.declared.event.Event.TheVariants as event
use Rattle.us_model.specs.Worlds.{World, WorldEvent, DeliverPacket, nth, world_step, run, least_due, least_undelivered, Flushes}
use Rattle.us_network.specs.declared.sent.Sent.{Sent}
use Rattle.us_network.specs.Packets.{packet_of, IsLeastDue}
use Rattle.us_world.specs.declared.fault.WorldFault.{WorldFault}
use Rattle.us_world.specs.declared.fault.WorldFault.TheVariants as fault
use Rattle.us_world.specs.Limits.{Delivers, delivery_of}
use Rattle.us_world.specs.WorldState.{WorldState, Represents, LimitSays, passed_by, marked, after_delivery}
use Rattle.us_world.specs.Lines.{AdvancesBy, ExceedsBy, StoppedBy, IsDelivery}
use Rattle.us_world.proofs.Standing.{nth-place, nth-outside, events-at, stands_delivery}
use Rattle.us_world.proofs.WorldEvents.{run-append, limit_after, limit_one, OneEvent}

pub events-delivery : (place : ℕ) (s : Sent) (k : WorldState) → (after_delivery place s k).events ≡ k.events + 1
events-delivery place s k = events-at (marked place s k) s.packet.to.site (event.Take s.packet)

-- ONE DELIVERY
pub one_delivery : (k : WorldState) (place number : ℕ) (s : Sent) → slice_get k.sent place ≡ Some s → number ≡ place + 1
    → OneEvent (IsDelivery number) k (after_delivery place s k)
one_delivery k place number s at is = record {
  world_event = λ w. DeliverPacket number;
  is = λ w h. sym (ap (delivery_of number) (nth-place k w place number s h at is));
  stands = λ w h. stands_delivery k w place number s h at is;
  counts = events-delivery place s k;
}

-- nothing comes where fewer were sent
pub no_delivery : (k : WorldState) (number : ℕ) → (number ≡ 0) ⊎ (length k.sent < number) → AdvancesBy (IsDelivery number) k k
no_delivery k number out w h =
    let same : k.events ≡ k.events + 0 = omega arith in
    let few : (number ≡ 0) ⊎ (length (map packet_of k.sent) < number) = elim out [
      | inl e ↦ inl e
      | inr l ↦ inr (omega (arith, length-map k.sent packet_of))
    ]
    in
    let none : nth w.packets number ≡ None = ap (λ ps. nth ps number) h.packets ∙ nth-outside (map packet_of k.sent) number few in
    ([], sym (ap (delivery_of number) none), refl, h, same)

-- A FLUSH FROM THE FRONT
delivers-more : (from to : ℕ) (w : World) (hs : List WorldEvent) (k : ℕ) → Delivers from to w hs → least_undelivered (run hs w) from to ≡ Some k
    → Delivers from to w (hs ++ DeliverPacket k ∷ [])
delivers-more from to w [] k d e = ((k, e, refl), tt)
delivers-more from to w (h ∷ hs) k d e = (d.0, delivers-more from to (world_step w h) hs k d.1 e)

flushes : (from to : ℕ) (w : World) (hs : List WorldEvent) → Delivers from to w hs → least_undelivered (run hs w) from to ≡ None → Flushes from to w hs
flushes from to w [] d e = e
flushes from to w (h ∷ hs) d e = (d.0, flushes from to (world_step w h) hs d.1 e)

-- the next packet that is due: none other is kept meanwhile
pub record IsNext (from to : ℕ) (mid k : WorldState) (place : ℕ) : Type 0 where
  pub same : k ≡ mid
  pub due : IsLeastDue from to mid.sent (Some place)

least_place : (mid k : WorldState) (w : World) (from to place : ℕ) → Represents k w → IsNext from to mid k place → least_undelivered w from to ≡ Some (place + 1)
least_place mid k w from to place h next =
    let due : IsLeastDue from to k.sent (Some place) = subst (λ (m : WorldState). IsLeastDue from to m.sent (Some place)) (sym next.same) next.due in
    ap (λ ps. least_due from to w.delivered 1 ps) h.packets ∙ due w.delivered h.marked

no_least : (k : WorldState) (w : World) (from to : ℕ) → Represents k w → IsLeastDue from to k.sent None → least_undelivered w from to ≡ None
no_least k w from to h none = ap (λ ps. least_due from to w.delivered 1 ps) h.packets ∙ none w.delivered h.marked

events-same : (mid k : WorldState) → k ≡ mid → k.events ≡ mid.events
events-same mid k same = ap (λ (m : WorldState). m.events) same

pub delivered_none : (from to : ℕ) (k : WorldState) → AdvancesBy (Delivers from to) k k
delivered_none from to k w h =
    let same : k.events ≡ k.events + 0 = omega arith in
    ([], tt, refl, h, same)

pub delivered_more : (from to : ℕ) (old mid k new : WorldState) (place : ℕ) (s : Sent) → AdvancesBy (Delivers from to) old mid → IsNext from to mid k place
    → slice_get k.sent place ≡ Some s → new ≡ after_delivery place s k → passed_by (after_delivery place s k) ≡ None → AdvancesBy (Delivers from to) old new
delivered_more from to old mid k new place s so next at is within =
    subst (λ m. AdvancesBy (Delivers from to) old m) (sym is) (λ w h.
    let was = so w h in
    let hs = was.0 in
    let v = run hs w in
    let here = subst (λ m. Represents m v) (sym next.same) was.3 in
    let least = least_place mid k v from to place here next in
    let there = stands_delivery k v place (place + 1) s here at refl in
    let kept = after_delivery place s k in
    let events = events-delivery place s k in
    let skipped = events-same mid k next.same in
    let before = was.4 in
    let front : k.events ≡ old.events + length hs = omega arith in
    let all : kept.events ≡ old.events + length (hs ++ DeliverPacket (place + 1) ∷ []) = omega (arith, length-append hs (DeliverPacket (place + 1) ∷ [])) in (
      hs ++ DeliverPacket (place + 1) ∷ [],
      delivers-more from to w hs (place + 1) was.1 least,
      limit_after old.events k.events hs (DeliverPacket (place + 1) ∷ []) w None was.2 front (limit_one kept v (DeliverPacket (place + 1)) k.events None there events within),
      subst (λ u. Represents kept u) (sym (run-append hs (DeliverPacket (place + 1) ∷ []) w)) there,
      all,
    ))

delivered-past : (from to : ℕ) (old mid k : WorldState) (place : ℕ) (s : Sent) (which : WorldFault) → AdvancesBy (Delivers from to) old mid → IsNext from to mid k place
    → slice_get k.sent place ≡ Some s → passed_by (after_delivery place s k) ≡ Some which → ExceedsBy (Delivers from to) old which
delivered-past from to old mid k place s which so next at past w h =
    let was = so w h in
    let hs = was.0 in
    let v = run hs w in
    let here = subst (λ m. Represents m v) (sym next.same) was.3 in
    let least = least_place mid k v from to place here next in
    let there = stands_delivery k v place (place + 1) s here at refl in
    let kept = after_delivery place s k in
    let events = events-delivery place s k in
    let skipped = events-same mid k next.same in
    let before = was.4 in
    let front : k.events ≡ old.events + length hs = omega arith in (
      hs ++ DeliverPacket (place + 1) ∷ [],
      delivers-more from to w hs (place + 1) was.1 least,
      limit_after old.events k.events hs (DeliverPacket (place + 1) ∷ []) w (Some which) was.2 front
          (limit_one kept v (DeliverPacket (place + 1)) k.events (Some which) there events past),
    )

pub delivered_stops : (e : WorldFault) (from to : ℕ) (old mid k : WorldState) (place : ℕ) (s : Sent) → AdvancesBy (Delivers from to) old mid → IsNext from to mid k place
    → slice_get k.sent place ≡ Some s → LimitSays {A = ⊤} (Err e) (passed_by (after_delivery place s k)) → StoppedBy (Delivers from to) old e
delivered_stops fault.Memory from to old mid k place s so next at says = tt
delivered_stops fault.Events from to old mid k place s so next at says = delivered-past from to old mid k place s fault.Events so next at says
delivered_stops fault.Sessions from to old mid k place s so next at says = delivered-past from to old mid k place s fault.Sessions so next at says
delivered_stops fault.Transactions from to old mid k place s so next at says = delivered-past from to old mid k place s fault.Transactions so next at says

pub delivered_all : (from to : ℕ) (old mid new : WorldState) → AdvancesBy (Delivers from to) old mid → new ≡ mid → IsLeastDue from to mid.sent None
    → AdvancesBy (Flushes from to) old new
delivered_all from to old mid new so same none =
    subst (λ m. AdvancesBy (Flushes from to) old m) (sym same) (λ w h.
    let was = so w h in
    let v = run was.0 w in
    (was.0, flushes from to w was.0 was.1 (no_least mid v from to was.3 none), was.2, was.3, was.4))
