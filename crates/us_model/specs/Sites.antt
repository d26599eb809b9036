-- One step of a site: an event is taken by one of its actors, which then wakes.
use Rattle.std.specs.Prelude.{ℕ, ◌+◌, ◌-◌, List, [], ◌∷◌, ◌++◌, Option, Some, None, slice_get, slice_set, map}
use Rattle.std.specs.Prelude.{Bool, true, false, ◌&&◌, ◌==◌, if◌then◌else◌, nat_lt, nat_le}
use Rattle.std.specs.List.{range_with_len}
use Rattle.us_base.specs.Vector.{zero}
use Rattle.us_base.specs.declared.shape.Shape.{Shape}
use Rattle.us_value.specs.declared.item.Write.{Write}
use Rattle.us_value.specs.declared.operation.Kind.{Kind}
use Rattle.us_value.specs.declared.operation.Op.{Op}
use Rattle.us_value.specs.declared.operation.Effect.{Effect}
use Rattle.us_value.specs.Values.{op_fits, effect_fits}
use Rattle.us_value.specs.Catalogs.{kind_in}
use Rattle.us_model.specs.State.{Spaces}
use Rattle.us_peer_wire.specs.declared.message.Actor.{Actor}
use Rattle.us_peer_wire.specs.declared.message.Packet.{Packet}
use Rattle.us_peer_wire.specs.declared.message.Message.{Message}
use Rattle.us_peer_wire.specs.declared.message.Message.TheVariants as message
use Rattle.us_model.specs.declared.event.Event.{Event}
use Rattle.us_model.specs.declared.event.Event.TheVariants as event
use Rattle.us_model.specs.declared.event.Outputs.{Outputs}
use Rattle.us_model.specs.declared.coordinator.Session.{Session}
use Rattle.us_model.specs.declared.coordinator.Context.{Context}
use Rattle.us_model.specs.declared.coordinator.View.{View}
use Rattle.us_model.specs.declared.settings.Settings.{Settings}
use Rattle.us_model.specs.State.{Partition, Shard, Site}
use Rattle.us_model.specs.Partitions.{known, base, get, may_prepare, prepared as prepared_here, timestamp_for, commit, versions, still_parked}
use Rattle.us_model.specs.Sessions.{SessionStep, bytes, close, version, prepared, run_session}
use Rattle.us_model.specs.Coordinators.{Coordinated, each_acts, new_coordinator, opened, refused_open, open_in}

abbrev pub no_outputs : Outputs
no_outputs = record { packets = []; client = []; notes = [] }

-- an actor, and what it has given out so far
pub record ActorStep : Type 0 where
  pub shard : Shard
  pub out : Outputs

-- THE COORDINATOR'S PART
abbrev pub view_of : Actor → Shape → ActorStep → View
view_of me shape w = record { me = me; shape = shape; base = base me w.shard.partition }

abbrev pub with_coordinator : ActorStep → Coordinated → ActorStep
with_coordinator w a = record { shard = record w.shard { coordinator = a.coordinator }; out = a.out }

abbrev pub all_sessions : (Context → Session → SessionStep) → Actor → Shape → ActorStep → ActorStep
all_sessions f me shape w = with_coordinator w (each_acts f (view_of me shape w) w.shard.coordinator w.out)

-- THE PARTITION'S PART
abbrev pub with_partition : ActorStep → Partition → List Packet → ActorStep
with_partition w p ps = record { shard = record w.shard { partition = p }; out = record w.out { packets = w.out.packets ++ ps } }

-- OPEN
abbrev pub opens_one : ℕ → ActorStep → ActorStep
opens_one coord w = with_coordinator w (opened coord w.shard.coordinator w.out)

abbrev pub opens_none : ℕ → Shape → ActorStep → ActorStep
opens_none coord shape w = record w { out = refused_open coord shape w.out }

-- how many sessions are open
abbrev pub open_at : List Shard → ℕ
open_at [] = 0
open_at (shard ∷ shards) = open_in shard.coordinator.sessions + open_at shards

-- A PACKET COMES
-- an answer to the packet's sender
abbrev pub answer_to : Actor → Actor → Message → Packet
answer_to me from m = record { from = me; to = from; message = m }

abbrev pub take_message : Actor → Shape → Actor → ActorStep → Message → ActorStep
take_message me shape from w (message.Get tid place at snapshot item op own) =
    with_partition w
    (get shape.parts me w.shard.partition (record
    { from = from.actor; tid = tid; place = place; at = at; snapshot = snapshot; item = item; op = op; own = own })) []
take_message me shape from w (message.Version v) = all_sessions (version v) me shape w
take_message me shape from w (message.Prepare tid snapshot writes) =
    if may_prepare shape.parts me w.shard.partition tid snapshot writes
    then with_partition w (prepared_here me w.shard.partition tid snapshot writes)
    (answer_to me from (message.Prepared tid (timestamp_for me w.shard.partition snapshot)) ∷ [])
    else w
take_message me shape from w (message.Prepared tid ts) = all_sessions (prepared from.actor tid ts) me shape w
take_message me shape from w (message.Commit tid vector) = with_partition w (commit me w.shard.partition tid vector) []
-- the rules of the others aren't built yet
take_message me shape from w _ = w

-- A PACKET THAT AN ACTOR TAKES: from a partition's actor of the own site, about items of configured spaces, with operations and
-- effects of their kinds
abbrev pub op_is_of : Option Kind → Op → Bool
op_is_of None op = false
op_is_of (Some kind) op = op_fits kind op

abbrev pub effect_is_of : Option Kind → Effect → Bool
effect_is_of None effect = false
effect_is_of (Some kind) effect = effect_fits kind effect

abbrev pub own_are_of : Option Kind → List (ℕ × Effect) → Bool
own_are_of kind [] = true
own_are_of kind (e ∷ es) = effect_is_of kind e.1 && own_are_of kind es

abbrev pub writes_fit : Spaces → List Write → Bool
writes_fit spaces [] = true
writes_fit spaces (w ∷ ws) = effect_is_of (kind_in spaces w.item.space) w.effect && writes_fit spaces ws

abbrev pub message_fits : Spaces → Message → Bool
message_fits spaces (message.Get tid place at snapshot item op own) =
    op_is_of (kind_in spaces item.space) op && own_are_of (kind_in spaces item.space) own
message_fits spaces (message.Version v) = true
message_fits spaces (message.Prepare tid snapshot writes) = writes_fit spaces writes
message_fits spaces (message.Prepared tid ts) = true
message_fits spaces (message.Commit tid vector) = true
-- none of the others is taken yet
message_fits spaces _ = false

-- the actors of partitions are 1 and so on, and 0 is the certifier
abbrev pub is_partition : Shape → ℕ → Bool
is_partition shape actor = nat_le 1 actor && nat_le actor shape.parts

abbrev pub is_for : Actor → Settings → Packet → Bool
is_for me settings packet =
    (packet.from.site == me.site) && (is_partition settings.shape packet.from.actor && message_fits settings.catalog packet.message)

-- AN EVENT, and its actor
abbrev pub actor_of : Event → ℕ
actor_of (event.Open coord) = coord
actor_of (event.Bytes coord session piece) = coord
actor_of (event.Close coord session) = coord
actor_of (event.Take packet) = packet.to.actor

unfoldable pub take_event : Actor → Settings → Bool → ActorStep → Event → ActorStep
take_event me settings full w (event.Open coord) = if full then opens_none coord settings.shape w else opens_one coord w
take_event me settings full w (event.Bytes coord session piece) = all_sessions (bytes settings.catalog session piece) me settings.shape w
take_event me settings full w (event.Close coord session) = all_sessions (close session) me settings.shape w
take_event me settings full w (event.Take packet) =
    if is_for me settings packet then take_message me settings.shape packet.from w packet.message else w

-- WAKE: waiting questions are answered, and then each session runs
abbrev pub answers : Actor → Spaces → ActorStep → ActorStep
answers me spaces w =
    let p = w.shard.partition in
    with_partition w (record p { parked = still_parked (known me p) p.parked }) (versions me spaces (known me p) p.log p.parked)

unfoldable pub wake : Actor → Settings → ActorStep → ActorStep
wake me settings w = all_sessions (run_session settings.catalog) me settings.shape (answers me settings.catalog w)

-- THE STEP OF A SITE
pub record Stepped : Type 0 where
  pub site : Site
  pub out : Outputs

-- a site has so many open sessions at most
abbrev pub is_full : Site → Bool
is_full site = nat_le 4096 (open_at site.shards)

-- actors 1 and so on have a partition and a coordinator
abbrev pub shard_at : List Shard → ℕ → Option Shard
shard_at shards actor = if nat_lt 0 actor then slice_get shards (actor - 1) else None

abbrev pub with_shard : Site → ℕ → ActorStep → Stepped
with_shard site actor w = record { site = record site { shards = slice_set site.shards (actor - 1) w.shard }; out = w.out }

abbrev pub step_of : Site → Event → Actor → Option Shard → Stepped
step_of site e me None = record { site = site; out = no_outputs }
step_of site e me (Some shard) =
    with_shard site me.actor (wake me site.settings (take_event me site.settings (is_full site) (record { shard = shard; out = no_outputs }) e))

abbrev pub site_step : Site → Event → Stepped
site_step site e = step_of site e (record { site = site.number; actor = actor_of e }) (shard_at site.shards (actor_of e))

-- THE OPENING STATE
abbrev pub new_shard : Shard
new_shard =
    record {
      partition = record { clock = 0; log = []; prepared = []; done = []; received = zero; parked = []; floor = zero };
      coordinator = new_coordinator;
    }

-- a shard for each partition
abbrev pub new_shards : ℕ → List Shard
new_shards parts = map (λ part. new_shard) (range_with_len 1 parts)

-- the site of this number in a store with these settings
abbrev pub new_site : Settings → ℕ → Site
new_site settings number = record { number = number; settings = settings; shards = new_shards settings.shape.parts }
