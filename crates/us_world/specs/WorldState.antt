-- What is kept of a world, and which worlds it stands for.
use Rattle.std.specs.Prelude.{◌≡◌, ⊤, ℕ, ◌+◌, ◌-◌, List, ◌++◌, map, true, slice_get, slice_set, Option, Some}
use Rattle.std.specs.Prelude.{None, Result, Ok, Err, OnOk}
use Rattle.us_peer_wire.specs.declared.message.Packet.{Packet}
use Rattle.us_model.specs.declared.event.Event.{Event}
use Rattle.us_model.specs.declared.event.Event.TheVariants as event
use Rattle.us_model.specs.State.{Site}
use Rattle.us_model.specs.Sites.{Stepped, site_step}
use Rattle.us_model.specs.declared.event.Outputs.{Outputs}
use Rattle.us_site.specs.Served.{Served}
use Rattle.us_model.specs.Worlds.{World, nth}
use Rattle.us_history.specs.Histories.{History}
use Rattle.us_model.specs.Executions.{noted_all, history_of}
use Rattle.us_network.specs.declared.sent.Sent.{Sent}
use Rattle.us_network.specs.Packets.{packet_of, fresh, AreDelivered}
use Rattle.us_world.specs.declared.fault.WorldFault.{WorldFault}
use Rattle.us_world.specs.declared.fault.WorldFault.TheVariants as fault
use Rattle.us_world.specs.Limits.{past_limits, opened_in, begun_in}

-- the sites from 1, all packets ever sent with a mark at those that were delivered, what was told, and how many events,
-- opened sessions and begun transactions there were
pub record WorldState : Type 0 where
  pub sites : List Site
  pub sent : List Sent
  pub history : History
  pub events : ℕ
  pub sessions : ℕ
  pub transactions : ℕ

-- the machine's site of one that is served
abbrev pub site_of : Served → Site
site_of s = s.site

-- the kept stands for the world
pub record Represents (k : WorldState) (w : World) : Type 0 where
  pub sites : w.sites ≡ k.sites
  pub packets : w.packets ≡ map packet_of k.sent
  pub marked : AreDelivered w.delivered k.sent
  pub history : history_of w.notes ≡ k.history
  pub sessions : opened_in w.notes ≡ k.sessions
  pub transactions : begun_in w.notes ≡ k.transactions

-- packets that weren't delivered yet
abbrev pub unmarked : List Packet → List Sent
unmarked ps = map fresh ps

-- the site at this place takes an event
pub record HasStepped (place : ℕ) (e : Event) (old new : List Served) (out : Outputs) : Type 0 where
  pub site : Site
  pub at : slice_get (map site_of old) place ≡ Some site
  pub sites : map site_of new ≡ slice_set (map site_of old) place (site_step site e).site
  pub gives : out ≡ (site_step site e).out

-- what is kept after a step of the site with this number
abbrev pub after_step : ℕ → WorldState → Stepped → WorldState
after_step s k r =
    record {
      sites = slice_set k.sites (s - 1) r.site;
      sent = k.sent ++ unmarked r.out.packets;
      history = noted_all k.history r.out.notes;
      events = k.events + 1;
      sessions = k.sessions + opened_in r.out.notes;
      transactions = k.transactions + begun_in r.out.notes;
    }

-- an event where no site is
abbrev pub after_nothing : WorldState → WorldState
after_nothing k = record k { events = k.events + 1 }

-- what is kept after an event at a site
abbrev pub after_one : WorldState → ℕ → Event → Option Site → WorldState
after_one k s e None = after_nothing k
after_one k s e (Some site) = after_step s k (site_step site e)

abbrev pub after_at : WorldState → ℕ → Event → WorldState
after_at k s e = after_one k s e (nth k.sites s)

-- the packet at this place is delivered
abbrev pub marked : ℕ → Sent → WorldState → WorldState
marked place s k = record k { sent = slice_set k.sent place (record s { delivered = true }) }

abbrev pub after_delivery : ℕ → Sent → WorldState → WorldState
after_delivery place s k = after_at (marked place s k) s.packet.to.site (event.Take s.packet)

-- ---- limits

-- which limit is passed by what is kept
abbrev pub passed_by : WorldState → Option WorldFault
passed_by k = past_limits k.events k.sessions k.transactions

-- a fault is that limit, unless memory ran out
abbrev pub IsLimit : WorldFault → Option WorldFault → Type 0
IsLimit fault.Memory limit = ⊤
IsLimit which limit = limit ≡ Some which

-- the result is a fault exactly where a limit is passed, unless memory ran out
abbrev pub LimitSays : {A : Type 0} → Result A WorldFault → Option WorldFault → Type 0
LimitSays (Ok u) limit = limit ≡ None
LimitSays (Err e) limit = IsLimit e limit

-- the packet at this place came
pub record HasCome {A : Type 0} (result : Result A WorldFault) (place : ℕ) (old new : WorldState) : Type 0 where
  pub sent : Sent
  pub at : slice_get old.sent place ≡ Some sent
  pub after : OnOk result (new ≡ after_delivery place sent old)
  pub limit : LimitSays result (passed_by (after_delivery place sent old))
