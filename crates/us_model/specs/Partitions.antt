-- The rules of a partition. Each takes the partition's own actor.
use Rattle.std.specs.Prelude.{ℕ, ◌+◌, ◌-◌, ◌^◌, ◌%◌, ◌==◌, max, min, Option, Some, None}
use Rattle.std.specs.Prelude.{List, [], ◌∷◌, ◌++◌, filter, position, remove, slice_get}
use Rattle.std.specs.Prelude.{Bool, true, false, not, ◌&&◌, if◌then◌else◌, nat_le, nat_lt}
use Rattle.std.specs.List.{list_any}
use Rattle.us_kind.specs.Comparison.{tid_eq}
use Rattle.us_kind.specs.declared.identity.Tid.{Tid}
use Rattle.us_base.specs.Vector.{entry, at_most, join, with_entry}
use Rattle.us_base.specs.Place.{place_of}
use Rattle.us_value.specs.declared.item.Item.{Item}
use Rattle.us_value.specs.declared.item.Write.{Write}
use Rattle.us_value.specs.declared.operation.Effect.{Effect}
use Rattle.us_value.specs.declared.operation.Answer.{Answer}
use Rattle.us_value.specs.declared.operation.State.{State}
use Rattle.us_model.specs.State.{Spaces}
use Rattle.us_value.specs.Lengths.{answer_length, effect_length}
use Rattle.us_value.specs.Values.{answered, prepared as prepared_effect}
use Rattle.us_history.specs.States.{state_at}
use Rattle.us_peer_wire.specs.declared.message.Actor.{Actor}
use Rattle.us_peer_wire.specs.declared.message.Packet.{Packet}
use Rattle.us_peer_wire.specs.declared.message.Message.TheVariants.{Version as VersionMessage}
use Rattle.us_peer_wire.specs.declared.message.Form.{Form}
use Rattle.us_peer_wire.specs.declared.message.Form.TheVariants.{Answered, WritesFull, AnswerFull}
use Rattle.us_history.specs.declared.LogTx.{LogTx}
use Rattle.us_model.specs.declared.partition.PreparedTx.{PreparedTx}
use Rattle.us_model.specs.declared.partition.Get.{Get}
use Rattle.us_model.specs.State.{Partition}

-- KNOWN: up to which timestamps the partition's log is complete
abbrev pub least_ts : ℕ → List PreparedTx → ℕ
least_ts n [] = n
least_ts n (q ∷ qs) = min q.ts (least_ts n qs)

-- below every timestamp that is prepared here or given later
unfoldable pub own_known : ℕ → List PreparedTx → ℕ
own_known clock [] = clock
own_known clock (q ∷ qs) = least_ts q.ts qs - 1

abbrev pub known : Actor → Partition → List ℕ
known me p = with_entry p.received me.site (own_known p.clock p.prepared)

-- what snapshots begin with: with one partition at one site it is what the partition knows
abbrev pub base : Actor → Partition → List ℕ
base me p = known me p

-- WHAT IS HERE: of so many partitions, this one keeps the item
abbrev pub is_home : ℕ → Actor → Item → Bool
is_home parts me item = place_of parts item.space item.id == me.actor

-- all that is written is here
abbrev pub are_home : ℕ → Actor → List Write → Bool
are_home parts me [] = true
are_home parts me (w ∷ ws) = is_home parts me w.item && are_home parts me ws

-- GET: the clock rises to the snapshot, and the question waits. One on an item of another partition is dropped, and so is one with
-- a snapshot that isn't at least the floor
abbrev pub may_get : ℕ → Actor → Partition → Get → Bool
may_get parts me p g = is_home parts me g.item && at_most p.floor g.snapshot

abbrev pub parked_with : Actor → Partition → Get → Partition
parked_with me p g = record p { clock = max p.clock (entry g.snapshot me.site); parked = p.parked ++ g ∷ [] }

abbrev pub get : ℕ → Actor → Partition → Get → Partition
get parts me p g = if may_get parts me p g then parked_with me p g else p

-- PREPARE
-- the least number above n that leaves the remainder r modulo 64
unfoldable pub next_timestamp : ℕ → ℕ → ℕ
next_timestamp r n = n + 1 + ((r + 64 - (n + 1) % 64) % 64)

abbrev pub contains_tid : Tid → List Tid → Bool
contains_tid tid tids = list_any (λ t. tid_eq t tid) tids

abbrev pub timestamp_for : Actor → Partition → List ℕ → ℕ
timestamp_for me p snapshot = next_timestamp me.actor (max p.clock (entry snapshot me.site))

-- a transaction is prepared once, where all that it writes is, and under no timestamp above the greatest number
abbrev pub may_prepare : ℕ → Actor → Partition → Tid → List ℕ → List Write → Bool
may_prepare parts me p tid snapshot writes =
    not (contains_tid tid p.done) && (are_home parts me writes && nat_le (timestamp_for me p snapshot) (2 ^ 62))

abbrev pub prepared : Actor → Partition → Tid → List ℕ → List Write → Partition
prepared me p tid snapshot writes =
    record p {
      clock = timestamp_for me p snapshot;
      prepared = p.prepared ++ record { tid = tid; ts = timestamp_for me p snapshot; snapshot = snapshot; writes = writes } ∷ [];
      done = p.done ++ tid ∷ [];
    }

-- COMMIT: the transaction moves to the log. It must be prepared, under a timestamp that the vector's own entry reaches
abbrev pub is_of : Tid → PreparedTx → Bool
is_of tid q = tid_eq q.tid tid

abbrev pub is_reached : Actor → List ℕ → PreparedTx → Bool
is_reached me vector q = nat_le q.ts (entry vector me.site)

abbrev pub reached_one : Actor → List ℕ → Option PreparedTx → Bool
reached_one me vector None = false
reached_one me vector (Some q) = is_reached me vector q

abbrev pub reached_at : Actor → Partition → List ℕ → Option ℕ → Bool
reached_at me p vector None = false
reached_at me p vector (Some i) = reached_one me vector (slice_get p.prepared i)

abbrev pub may_commit : Actor → Partition → Tid → List ℕ → Bool
may_commit me p tid vector = reached_at me p vector (position (is_of tid) p.prepared)

abbrev pub committed : Actor → Partition → List ℕ → ℕ → PreparedTx → Partition
committed me p vector i q =
    record p {
      clock = max p.clock (entry vector me.site);
      log = p.log ++ record { tid = q.tid; strong = false; vector = vector; writes = q.writes } ∷ [];
      prepared = remove p.prepared i;
    }

abbrev pub commit_one : Actor → Partition → List ℕ → ℕ → Option PreparedTx → Partition
commit_one me p vector i None = p
commit_one me p vector i (Some q) = if is_reached me vector q then committed me p vector i q else p

abbrev pub commit_at : Actor → Partition → List ℕ → Option ℕ → Partition
commit_at me p vector None = p
commit_at me p vector (Some i) = commit_one me p vector i (slice_get p.prepared i)

abbrev pub commit : Actor → Partition → Tid → List ℕ → Partition
commit me p tid vector = commit_at me p vector (position (is_of tid) p.prepared)

-- WHAT A QUESTION'S OPERATION MEETS: the item's version in the snapshot, and then the transaction's own effects on it
unfoldable pub state_for : Spaces → List LogTx → Get → State
state_for spaces log g = state_at spaces log g.tid g.snapshot g.item g.own

-- WAKE, the partition's part: the questions whose snapshot is known are answered
abbrev pub may_answer : List ℕ → Get → Bool
may_answer known g = at_most g.snapshot known

-- the effect is longer than a transaction's writes may be
abbrev pub is_too_long : Option Effect → Bool
is_too_long None = false
is_too_long (Some effect) = nat_lt 65536 (effect_length effect)

-- what is told of an operation: its answer and effect, unless one of them is too long
abbrev pub form_for : Answer → Option Effect → Form
form_for answer effect =
    if nat_lt 65000 (answer_length answer) then AnswerFull else (if is_too_long effect then WritesFull else Answered answer effect)

-- what the operation of a question answers, and its effect
abbrev pub answer_for : Spaces → List LogTx → Get → Answer
answer_for spaces log g = answered g.op (state_for spaces log g)

abbrev pub effect_for : Spaces → List LogTx → Get → Option Effect
effect_for spaces log g = prepared_effect (record { tid = g.tid; place = g.place }) g.op (state_for spaces log g)

abbrev pub version_for : Actor → Spaces → List LogTx → Get → Packet
version_for me spaces log g =
    record {
      from = me;
      to = record { site = me.site; actor = g.from };
      message = VersionMessage (record { tid = g.tid; place = g.place; at = g.at; form = form_for (answer_for spaces log g) (effect_for spaces log g) });
    }

abbrev pub versions : Actor → Spaces → List ℕ → List LogTx → List Get → List Packet
versions me spaces known log [] = []
versions me spaces known log (g ∷ gs) =
    if may_answer known g then version_for me spaces log g ∷ versions me spaces known log gs else versions me spaces known log gs

abbrev pub still_parked : List ℕ → List Get → List Get
still_parked known gs = filter (λ g. not (may_answer known g)) gs

-- THE FLOOR rises, and the questions that ask below it are dropped
abbrev pub stays_above : List ℕ → Get → Bool
stays_above floor g = at_most floor g.snapshot

abbrev pub set_floor : List ℕ → Partition → Partition
set_floor floor p = record p { floor = join p.floor floor; parked = filter (stays_above (join p.floor floor)) p.parked }

-- THE CLOCK rises to a number
abbrev pub raise : ℕ → Partition → Partition
raise clock p = record p { clock = max p.clock clock }
