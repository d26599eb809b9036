-- The world: all sites, all packets ever sent, and what the sites tell.
use Rattle.std.specs.Prelude.{◌≡◌, ℕ, ◌+◌, ◌-◌, List, [], ◌∷◌, ◌++◌, Option, Some, None, slice_get, slice_set, map}
use Rattle.std.specs.Prelude.{Bool, not, ◌&&◌, ◌==◌, if◌then◌else◌, nat_lt}
use Rattle.std.specs.List.{list_any, range_with_len}
use Rattle.us_base.specs.Shape.{sites_of}
use Rattle.us_peer_wire.specs.declared.message.Packet.{Packet}
use Rattle.us_model.specs.declared.event.Event.{Event}
use Rattle.us_model.specs.declared.event.Event.TheVariants as event
use Rattle.us_model.specs.declared.event.Note.{Note}
use Rattle.us_exec.specs.declared.WaitingRequest.{WaitingRequest}
use Rattle.us_model.specs.declared.settings.Settings.{Settings}
use Rattle.us_model.specs.State.{Shard, Site}
use Rattle.us_model.specs.Coordinators.{waits_in}
use Rattle.us_model.specs.Sites.{Stepped, site_step, new_site}

-- the sites from 1, the packets in the order of sending, the numbers of those that were delivered (a packet may come
-- again), and the notes in order
pub record World : Type 0 where
  pub sites : List Site
  pub packets : List Packet
  pub delivered : List ℕ
  pub notes : List Note

-- what may happen next: a client opens a session, sends bytes or closes its session, or the k-th packet ever sent comes
pub data WorldEvent : Type 0 where
  OpenSession : (site coord : ℕ) → WorldEvent
  ClientBytes : (site coord session : ℕ) → (piece : List ℕ) → WorldEvent
  CloseSession : (site coord session : ℕ) → WorldEvent
  DeliverPacket : (k : ℕ) → WorldEvent

-- of things that are counted from 1, the n-th
abbrev pub nth : {X : Type 0} → List X → ℕ → Option X
nth xs n = if nat_lt 0 n then slice_get xs (n - 1) else None

abbrev pub stepped : World → ℕ → Stepped → World
stepped w s r =
    record w { sites = slice_set w.sites (s - 1) r.site; packets = w.packets ++ r.out.packets; notes = w.notes ++ r.out.notes }

abbrev pub at_one : World → ℕ → Event → Option Site → World
at_one w s e None = w
at_one w s e (Some site) = stepped w s (site_step site e)

-- an event at a site
abbrev pub at_site : World → ℕ → Event → World
at_site w s e = at_one w s e (nth w.sites s)

abbrev pub delivered : World → ℕ → World
delivered w k = record w { delivered = w.delivered ++ k ∷ [] }

abbrev pub deliver_packet : World → ℕ → Option Packet → World
deliver_packet w k None = w
deliver_packet w k (Some packet) = at_site (delivered w k) packet.to.site (event.Take packet)

unfoldable pub world_step : World → WorldEvent → World
world_step w (OpenSession site coord) = at_site w site (event.Open coord)
world_step w (ClientBytes site coord session piece) = at_site w site (event.Bytes coord session piece)
world_step w (CloseSession site coord session) = at_site w site (event.Close coord session)
world_step w (DeliverPacket k) = deliver_packet w k (nth w.packets k)

-- A RUN: one thing after another
abbrev pub run : List WorldEvent → World → World
run [] w = w
run (h ∷ hs) w = run hs (world_step w h)

-- THE OPENING WORLD of a store with these settings: 2f + 1 sites, each with its partitions, where nothing has happened
abbrev pub new_sites : Settings → List Site
new_sites settings = map (new_site settings) (range_with_len 1 (sites_of settings.shape))

abbrev pub start : Settings → World
start settings = record { sites = new_sites settings; packets = []; delivered = []; notes = [] }

-- THE LEAST UNDELIVERED PACKET from one site to another, counted from 1
abbrev pub is_delivered : List ℕ → ℕ → Bool
is_delivered numbers k = list_any (λ n. n == k) numbers

abbrev pub is_due : ℕ → ℕ → List ℕ → ℕ → Packet → Bool
is_due from to numbers k packet = (packet.from.site == from) && ((packet.to.site == to) && not (is_delivered numbers k))

abbrev pub least_due : ℕ → ℕ → List ℕ → ℕ → List Packet → Option ℕ
least_due from to numbers k [] = None
least_due from to numbers k (p ∷ ps) = if is_due from to numbers k p then Some k else least_due from to numbers (k + 1) ps

abbrev pub least_undelivered : World → ℕ → ℕ → Option ℕ
least_undelivered w from to = least_due from to w.delivered 1 w.packets

-- a flush from one site to another: again and again the least undelivered packet, until none is left
abbrev pub Flushes : ℕ → ℕ → World → List WorldEvent → Type 0
Flushes from to w [] = least_undelivered w from to ≡ None
Flushes from to w (h ∷ hs) = ((k : ℕ) × (least_undelivered w from to ≡ Some k) × (h ≡ DeliverPacket k)) × Flushes from to (world_step w h) hs

-- THE REQUESTS THAT WAIT, of all sites
abbrev pub waits_at : ℕ → ℕ → List Shard → List WaitingRequest
waits_at site coord [] = []
waits_at site coord (shard ∷ shards) = waits_in site coord shard.coordinator.sessions ++ waits_at site (coord + 1) shards

abbrev pub waits_of : List Site → List WaitingRequest
waits_of [] = []
waits_of (site ∷ sites) = waits_at site.number 1 site.shards ++ waits_of sites
