-- All packets that were ever sent, and which of those between two sites is due.
use Rattle.std.specs.Prelude.{◌≡◌, ⊤, ℕ, zero, suc, ◌+◌, ◌==◌, ◌&&◌, List, [], ◌∷◌, map, Bool, true, false, Option, Some, None, slice_get, slice_set}
use Rattle.us_peer_wire.specs.declared.message.Packet.{Packet}
use Rattle.us_model.specs.Worlds.{is_delivered, least_due}
use Rattle.us_index.specs.Places.{places_of}
use Rattle.us_network.specs.declared.sent.Sent.{Sent}
use Rattle.us_network.specs.declared.sent.Pair.{Pair}
use Rattle.us_network.specs.declared.fronts.Front.{Front}

-- the packet itself
abbrev pub packet_of : Sent → Packet
packet_of s = s.packet

-- a packet that wasn't delivered yet
abbrev pub fresh : Packet → Sent
fresh p = record { packet = p; delivered = false }

-- whether the packet at a place, from 0, was delivered
abbrev pub is_marked : Option Sent → Bool
is_marked None = false
is_marked (Some s) = s.delivered

abbrev pub is_marked_at : List Sent → ℕ → Bool
is_marked_at sent place = is_marked (slice_get sent place)

-- the numbers, from 1, are those of the packets that were delivered
abbrev pub AreDelivered : List ℕ → List Sent → Type 0
AreDelivered numbers sent = (i : ℕ) → is_delivered numbers (i + 1) ≡ is_marked_at sent i

-- the number of a place
abbrev pub number_of : Option ℕ → Option ℕ
number_of None = None
number_of (Some place) = Some (place + 1)

-- THE PLACE OF THE LEAST UNDELIVERED PACKET from one site to another
abbrev pub IsLeastDue : (from to : ℕ) → List Sent → Option ℕ → Type 0
IsLeastDue from to sent place = (numbers : List ℕ) → AreDelivered numbers sent → least_due from to numbers 1 (map packet_of sent) ≡ number_of place

-- the packet at this place is delivered
pub record IsDelivered (place : ℕ) (old new : List Sent) (packet : Packet) : Type 0 where
  pub sent : Sent
  pub at : slice_get old place ≡ Some sent
  pub is : packet ≡ sent.packet
  pub marked : new ≡ slice_set old place (record sent { delivered = true })

-- ---- what is kept for this

-- the sites that a packet goes from and to
abbrev pub pair_of : Packet → Pair
pair_of p = record { from = p.from.site; to = p.to.site }

abbrev pub pair_eq : Pair → Pair → Bool
pair_eq a b = (a.from == b.from) && (a.to == b.to)

-- the pairs of all packets
abbrev pub pairs_of : List Sent → List Pair
pairs_of sent = map (λ (s : Sent). pair_of s.packet) sent

-- the places of the packets between two sites
abbrev pub places_between : Pair → List Sent → List ℕ
places_between q sent = places_of (λ k. pair_eq k q) 0 (pairs_of sent)

-- whether the packet at the place was delivered, where there is one
abbrev pub is_passed : List Sent → Option ℕ → Bool
is_passed sent None = false
is_passed sent (Some place) = is_marked_at sent place

-- the packets at so many of these places, from the front on, were delivered
abbrev pub AllPassed : List Sent → ℕ → List ℕ → Type 0
AllPassed sent zero places = ⊤
AllPassed sent (suc n) [] = ⊥
AllPassed sent (suc n) (place ∷ places) = (is_marked_at sent place ≡ true) × AllPassed sent n places

-- so many of the pair's packets were delivered, from its front on
abbrev pub IsFront : List Sent → Front → Type 0
IsFront sent f = AllPassed sent f.passed (places_between f.pair sent)

abbrev pub AreFronts : List Sent → List Front → Type 0
AreFronts sent [] = ⊤
AreFronts sent (f ∷ fs) = IsFront sent f × AreFronts sent fs

-- the pairs are those of the packets, and the fronts are such
pub record IsIndexed (sent : List Sent) (keys : List Pair) (fronts : List Front) : Type 0 where
  pub pairs : keys ≡ pairs_of sent
  pub passed : AreFronts sent fronts
