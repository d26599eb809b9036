-- Every run of the world keeps the facts.
use Rattle.std.proofs.Common.{◌≡◌, map, ◌*◌, inl, inr, ℕ, zero, suc, ◌+◌, ◌-◌, ◌<◌, ◌^◌, List, [], ◌∷◌, ◌++◌, append-nil, append_assoc}
use Rattle.std.proofs.Common.{Bool, true, false, refl, sym, ap, ◌∙◌, subst, arith, cond}
use Rattle.std.specs.Prelude.{Some, None, Option, slice_get, nat_lt, not}
use Rattle.std.proofs.lemmas.Bool.{cond_both, and_parts, not-true, leb-true, lt-ltb}
use Rattle.std.proofs.lemmas.Option.{slice_get_past}
use Rattle.us_kind.specs.Comparison.{In}
use Rattle.us_kind.specs.declared.identity.Tid.{Tid}
use Rattle.us_kind.proofs.ListLemmas.{in_front, in_got, in_later, IsPrefix}
use Rattle.us_base.specs.declared.shape.Shape.{Shape}
use Rattle.us_value.specs.declared.item.Write.{Write}
use Rattle.us_exec.specs.declared.SessionName.{SessionName}
use Rattle.us_peer_wire.specs.declared.message.Actor.{Actor}
use Rattle.us_peer_wire.specs.declared.message.Packet.{Packet}
use Rattle.us_peer_wire.specs.declared.message.Message.{Message}
use Rattle.us_peer_wire.specs.declared.message.Message.TheVariants as message
use Rattle.us_model.specs.declared.event.Event.{Event}
use Rattle.us_model.specs.declared.event.Event.TheVariants as event
use Rattle.us_model.specs.declared.event.Note.{Note}
use Rattle.us_model.specs.declared.event.Note.TheVariants as note
use Rattle.us_history.specs.declared.LogTx.{LogTx}
use Rattle.us_model.specs.declared.coordinator.Session.{Session}
use Rattle.us_model.specs.declared.coordinator.Context.{Context}
use Rattle.std.specs.List.{range_with_len}
use Rattle.us_model.specs.declared.settings.Settings.{Settings}
use Rattle.us_model.specs.State.{Coordinator, Partition, Shard, Site, Spaces}
use Rattle.us_history.specs.Histories.{no_history}
use Rattle.us_model.specs.declared.partition.Get.{Get}
use Rattle.us_model.specs.Partitions.{known, parked_with, may_get, may_prepare, prepared as prepared_here, timestamp_for, committed, commit, versions}
use Rattle.us_model.specs.Sessions.{SessionStep, bytes, close, version, prepared, run_session}
use Rattle.us_model.specs.Coordinators.{each_session, context_of, is_over, new_session}
use Rattle.us_model.specs.Sites.{ActorStep, view_of, all_sessions, with_partition, opens_one, opens_none, answer_to, take_message, is_for}
use Rattle.us_model.specs.Sites.{actor_of, take_event, answers, wake, Stepped, is_full, shard_at, step_of, site_step, new_shard, new_shards}
use Rattle.us_model.specs.Sites.{no_outputs}
use Rattle.us_model.specs.Worlds.{World, WorldEvent, OpenSession, ClientBytes, CloseSession, DeliverPacket, nth, at_site, delivered, deliver_packet, world_step, run, start}
use Rattle.us_model.specs.Executions.{history_of, noted_all}
use Rattle.us_order.specs.Premise.{HasOnePartition}
use Rattle.us_order.proofs.Ledgers.{me, Ledger, messages_of, messages_of-append, noted_all-append, with_messages, Stands}
use Rattle.us_order.proofs.Partition.{Later, commit_by}
use Rattle.us_order.proofs.Facts.{PartitionFacts, SharedFacts, SessionFacts}
use Rattle.us_order.proofs.Sessions.{Facts, Preserves}
use Rattle.us_order.proofs.Runs.{run_session_keeps, bytes_keeps, close_keeps, version_keeps, prepared_keeps}
use Rattle.us_order.proofs.Each.{AllSessions, BegunUpTo, all_filter, each_keeps}
use Rattle.us_order.proofs.Moves.{Moves, part_moves, session_moves, FromPartition, get_moves, answers_moves, answers_all, after_answers}
use Rattle.us_order.proofs.Moves.{prepare_moves, prepare_all, commit_moves}

-- the facts of an actor
pub record ActorFacts (spaces : Spaces) (p : Partition) (c : Coordinator) (l : Ledger) : Type 0 where
  pub part : PartitionFacts spaces p l
  pub all : SharedFacts l
  pub sessions : AllSessions spaces p.log l 0 c.sessions c.opens
  pub begun : BegunUpTo c.opens l

-- an actor in the middle of an event, before which there was the ledger b
pub record Good (spaces : Spaces) (b : Ledger) (w : ActorStep) : Type 0 where
  pub ledger : Ledger
  pub seq : w.shard.coordinator.seq ≡ ledger.seq
  pub messages : ledger.messages ≡ b.messages ++ messages_of w.out.packets
  pub history : ledger.history ≡ noted_all b.history w.out.notes
  pub facts : ActorFacts spaces w.shard.partition w.shard.coordinator ledger

still_in : (spaces : Spaces) (b : Ledger) (w : ActorStep) (h : Good spaces b w) (m : Message) → In m b.messages → In m h.ledger.messages
still_in spaces b w h m i = subst (In m) (sym h.messages) (in_front m b.messages (messages_of w.out.packets) i)

-- EVERY SESSION ACTS
all_keeps : (spaces : Spaces) (b : Ledger) (shape : Shape) → shape.parts ≡ 1 → (f : Context → Session → SessionStep) (Q : List Message → Type 0)
    → ((ms ms' : List Message) → IsPrefix ms ms' → Q ms → Q ms') → (w : ActorStep)
    → ((l : Ledger) (d : Context) (s : Session) → Q l.messages → Stands b w.shard.partition l d → Facts spaces w.shard.partition l s → Preserves spaces b
    w.shard.partition l s.number (f d s))
    → (h : Good spaces b w) → Q h.ledger.messages → Good spaces b (all_sessions f me shape w)
all_keeps spaces b shape one f Q more w keeps h q =
    let p = w.shard.partition in
    let c = w.shard.coordinator in
    let d = context_of (view_of me shape w) w.shard.coordinator w.out in
    let st : Stands b p h.ledger d =
    record { actor = refl; one = one; base = refl; seq = h.seq; messages = h.messages; history = h.history } in
    let e = each_keeps spaces b p f Q more keeps h.ledger d 0 c.sessions c.opens q st h.facts.part h.facts.all h.facts.sessions in
    let left = all_filter spaces p.log e.ledger (λ s. not (is_over s)) 0 (each_session f d c.sessions).sessions c.opens e.sessions in
    record {
      ledger = e.ledger;
      seq = e.stands.seq;
      messages = e.stands.messages;
      history = e.stands.history;
      facts = record { part = e.part; all = e.all; sessions = left; begun = e.begun c.opens (omega arith) h.facts.begun };
    }

-- THE PARTITION MOVES
all_moves : (spaces : Spaces) (p p' : Partition) (l : Ledger) (ms : List Message) (k : ℕ) (ss : List Session) (top : ℕ) → Later p p'
    → PartitionFacts spaces p l → ((m : Message) → In m ms → FromPartition m) → AllSessions spaces p.log l k ss top
    → AllSessions spaces p'.log (with_messages l ms) k ss top
all_moves spaces p p' l ms k [] top later part from h = h
all_moves spaces p p' l ms k (s ∷ ss) top later part from h = (
  h.0,
  session_moves spaces p p' l ms s.number s.past s.running s.waits s.requests s.asked later part from h.1,
  all_moves spaces p p' l ms s.number ss top later part from h.2,
)

moves_keeps : (spaces : Spaces) (b : Ledger) (w : ActorStep) (p' : Partition) (ps : List Packet) → (h : Good spaces b w)
    → Moves spaces w.shard.partition p' h.ledger (messages_of ps) → SharedFacts (with_messages h.ledger (messages_of ps))
    → Good spaces b (with_partition w p' ps)
moves_keeps spaces b w p' ps h v all = record {
  ledger = with_messages h.ledger (messages_of ps);
  seq = h.seq;
  messages =
      ap (λ ms. ms ++ messages_of ps) h.messages ∙ append_assoc b.messages (messages_of w.out.packets) (messages_of ps) ∙ ap (λ ms. b.messages ++ ms)
      (sym (messages_of-append w.out.packets ps));
  history = h.history;
  facts = record {
    part = part_moves spaces w.shard.partition p' h.ledger (messages_of ps) v h.facts.part;
    all = all;
    sessions =
        all_moves spaces w.shard.partition p' h.ledger (messages_of ps) 0 w.shard.coordinator.sessions w.shard.coordinator.opens v.later h.facts.part
        v.sent h.facts.sessions;
    begun = h.facts.begun;
  };
}

-- where nothing is sent
no_messages : (l : Ledger) → with_messages l [] ≡ l
no_messages l = λ i. record { seq = l.seq; messages = append-nil l.messages i; history = l.history }

silent_keeps : (spaces : Spaces) (b : Ledger) (w : ActorStep) (p' : Partition) → (h : Good spaces b w) → Moves spaces w.shard.partition p' h.ledger []
    → Good spaces b (with_partition w p' [])
silent_keeps spaces b w p' h v = moves_keeps spaces b w p' [] h v (subst SharedFacts (sym (no_messages h.ledger)) h.facts.all)

-- OPEN
all_push : (spaces : Spaces) (log : List LogTx) (l : Ledger) (k : ℕ) (ss : List Session) (top : ℕ) (s : Session) → AllSessions spaces log l k ss top
    → top < s.number → SessionFacts spaces log l s.number s.past s.running s.waits s.requests s.asked
    → AllSessions spaces log l k (ss ++ s ∷ []) s.number
all_push spaces log l k [] top s h above f = (omega (arith, h), f, omega arith)
all_push spaces log l k (x ∷ ss) top s h above f = (h.0, h.1, all_push spaces log l x.number ss top s h.2 above f)

opened_keeps : (spaces : Spaces) (b : Ledger) (coord : ℕ) (w : ActorStep) → Good spaces b w → Good spaces b (opens_one coord w)
opened_keeps spaces b coord w h =
    let c = w.shard.coordinator in
    let n = c.opens + 1 in
    record {
      ledger = h.ledger;
      seq = h.seq;
      messages = h.messages;
      history = h.history ∙ sym (noted_all-append b.history w.out.notes (note.Opened coord n ∷ []));
      facts = record {
        part = h.facts.part;
        all = h.facts.all;
        sessions = all_push spaces w.shard.partition.log h.ledger 0 c.sessions c.opens (new_session n) h.facts.sessions (omega arith) (record {
          covered =
              λ c i e. absurd (let f : c.begun.session.number ≡ n = ap (λ (s : SessionName). s.number) e in omega
              (arith, h.facts.begun c.begun (h.facts.part.decided c i).begun));
          small = omega arith;
          last = 0;
          queue = omega arith;
          runs = λ t e. absurd (cc);
        });
        begun = λ y i. omega (arith, h.facts.begun y i);
      };
    }

-- a refused one changes nothing of which facts speak
refused_open_keeps : (spaces : Spaces) (b : Ledger) (coord : ℕ) (shape : Shape) (w : ActorStep) → Good spaces b w
    → Good spaces b (opens_none coord shape w)
refused_open_keeps spaces b coord shape w h = record { ledger = h.ledger; seq = h.seq; messages = h.messages; history = h.history; facts = h.facts }

-- A PACKET
prepares_keeps : (spaces : Spaces) (b : Ledger) (parts : ℕ) (from : Actor) (w : ActorStep) (tid : Tid) (sn : List ℕ) (ws : List Write)
    → (h : Good spaces b w) → In (message.Prepare tid sn ws) h.ledger.messages → may_prepare parts me w.shard.partition tid sn ws ≡ true
    → Good spaces b (with_partition w (prepared_here me w.shard.partition tid sn ws)
    (answer_to me from (message.Prepared tid (timestamp_for me w.shard.partition sn)) ∷ []))
prepares_keeps spaces b parts from w tid sn ws h i may =
    let p = w.shard.partition in
    let f = and_parts _ _ may in
    let fresh = not-true _ f.0 in
    let small = leb-true (timestamp_for me p sn) (2 ^ 62) (and_parts _ _ f.1).1 in
    moves_keeps spaces b w (prepared_here me p tid sn ws) (answer_to me from (message.Prepared tid (timestamp_for me p sn)) ∷ []) h
    (prepare_moves spaces p h.ledger tid sn ws small fresh h.facts.part i)
    (prepare_all spaces p h.ledger tid (timestamp_for me p sn) h.facts.part h.facts.all fresh)

unmoved : (spaces : Spaces) (b : Ledger) (w : ActorStep) → Good spaces b w → Good spaces b (with_partition w w.shard.partition [])
unmoved spaces b w h =
    record {
      ledger = h.ledger;
      seq = h.seq;
      messages = h.messages ∙ ap (λ ps. b.messages ++ messages_of ps) (sym (append-nil w.out.packets));
      history = h.history;
      facts = h.facts;
    }

commit_keeps : (spaces : Spaces) (b : Ledger) (w : ActorStep) (tid : Tid) (v : List ℕ) → (h : Good spaces b w)
    → In (message.Commit tid v) h.ledger.messages → Good spaces b (with_partition w (commit me w.shard.partition tid v) [])
commit_keeps spaces b w tid v h asked =
    commit_by (λ p'. Good spaces b (with_partition w p' [])) w.shard.partition tid v (unmoved spaces b w h)
    (λ i q got here of le. silent_keeps spaces b w (committed me w.shard.partition v i q) h
    (commit_moves spaces w.shard.partition h.ledger tid v i q h.facts.part h.facts.all asked got here of le))

take_message_keeps : (spaces : Spaces) (b : Ledger) (shape : Shape) → shape.parts ≡ 1 → (from : Actor) (w : ActorStep) (m : Message)
    → (h : Good spaces b w) → In m h.ledger.messages → Good spaces b (take_message me shape from w m)
take_message_keeps spaces b shape one from w (message.Get tid place at sn item op own) h i =
    let g : Get = record { from = from.actor; tid = tid; place = place; at = at; snapshot = sn; item = item; op = op; own = own } in
    cond_both (may_get shape.parts me w.shard.partition g) (parked_with me w.shard.partition g) w.shard.partition
    (λ p'. Good spaces b (with_partition w p' []))
    (λ _. silent_keeps spaces b w (parked_with me w.shard.partition g) h (get_moves spaces w.shard.partition h.ledger g h.facts.part h.facts.all i))
    (λ _. unmoved spaces b w h)
take_message_keeps spaces b shape one from w (message.Version v) h i =
    all_keeps spaces b shape one (version v) (λ ms. In (message.Version v) ms) (λ ms ms' g q. in_later _ g q) w
    (λ l d s q st f. version_keeps spaces b w.shard.partition v l d s q st f) h i
take_message_keeps spaces b shape one from w (message.Prepare tid sn ws) h i =
    cond_both (may_prepare shape.parts me w.shard.partition tid sn ws) _ _ (Good spaces b)
    (λ e. prepares_keeps spaces b shape.parts from w tid sn ws h i e) (λ _. h)
take_message_keeps spaces b shape one from w (message.Prepared tid ts) h i =
    all_keeps spaces b shape one (prepared from.actor tid ts) (λ ms. In (message.Prepared tid ts) ms) (λ ms ms' g q. in_later _ g q) w
    (λ l d s q st f. prepared_keeps spaces b w.shard.partition from.actor tid ts l d s q st f) h i
take_message_keeps spaces b shape one from w (message.Commit tid v) h i = commit_keeps spaces b w tid v h i
take_message_keeps spaces b shape one from w _ h i = h

-- AN EVENT
abbrev pub IsSent : Ledger → Event → Type 0
IsSent b (event.Open coord) = Unit {0}
IsSent b (event.Bytes coord session piece) = Unit {0}
IsSent b (event.Close coord session) = Unit {0}
IsSent b (event.Take packet) = In packet.message b.messages

take_event_keeps : (settings : Settings) → HasOnePartition settings → (b : Ledger) (full : Bool) (w : ActorStep) (e : Event) → IsSent b e
    → Good settings.catalog b w → Good settings.catalog b (take_event me settings full w e)
unfolding take_event
take_event_keeps settings one b full w (event.Open coord) i h =
    cond_both full (opens_none coord settings.shape w) (opens_one coord w) (Good settings.catalog b)
    (λ _. refused_open_keeps settings.catalog b coord settings.shape w h) (λ _. opened_keeps settings.catalog b coord w h)
take_event_keeps settings one b full w (event.Bytes coord session piece) i h =
    all_keeps settings.catalog b settings.shape one.partition (bytes settings.catalog session piece) (λ ms. Unit {0}) (λ ms ms' g q. tt) w
    (λ l d s q st f. bytes_keeps settings.catalog b w.shard.partition session piece l d s st f) h tt
take_event_keeps settings one b full w (event.Close coord session) i h =
    all_keeps settings.catalog b settings.shape one.partition (close session) (λ ms. Unit {0}) (λ ms ms' g q. tt) w
    (λ l d s q st f. close_keeps settings.catalog b w.shard.partition session l d s st f) h tt
take_event_keeps settings one b full w (event.Take packet) i h =
    cond_both (is_for me settings packet) (take_message me settings.shape packet.from w packet.message) w (Good settings.catalog b)
    (λ _. take_message_keeps settings.catalog b settings.shape one.partition packet.from w packet.message h
    (still_in settings.catalog b w h packet.message i))
    (λ _. h)

wake_keeps : (settings : Settings) → HasOnePartition settings → (b : Ledger) (w : ActorStep) → Good settings.catalog b w
    → Good settings.catalog b (wake me settings w)
unfolding wake
wake_keeps settings one b w h =
    let p = w.shard.partition in
    let a =
    moves_keeps settings.catalog b w (after_answers p) (versions me settings.catalog (known me p) p.log p.parked) h
    (answers_moves settings.catalog p h.ledger h.facts.part) (answers_all settings.catalog p h.ledger h.facts.all) in
    all_keeps settings.catalog b settings.shape one.partition (run_session settings.catalog) (λ ms. Unit {0}) (λ ms ms' g q. tt)
    (answers me settings.catalog w) (λ l d s q st f. run_session_keeps settings.catalog b (answers me settings.catalog w).shard.partition l d s st
    f) a tt

-- THE SITE
abbrev pub site_of : Settings → Shard → Site
site_of settings shard = record { number = 1; settings = settings; shards = shard ∷ [] }

-- a step, before which there was the ledger b
pub record StepGood (settings : Settings) (b : Ledger) (r : Stepped) : Type 0 where
  pub shard : Shard
  pub site_is : r.site ≡ site_of settings shard
  pub good : Good settings.catalog b (record { shard = shard; out = r.out })

begins_good : (settings : Settings) (shard : Shard) (b : Ledger) → shard.coordinator.seq ≡ b.seq
    → ActorFacts settings.catalog shard.partition shard.coordinator b → Good settings.catalog b (record { shard = shard; out = no_outputs })
begins_good settings shard b e f = record { ledger = b; seq = e; messages = sym (append-nil b.messages); history = refl; facts = f }

step_of_keeps : (settings : Settings) → HasOnePartition settings → (shard : Shard) (b : Ledger) (e : Event) (a : ℕ) → IsSent b e
    → Good settings.catalog b (record { shard = shard; out = no_outputs })
    → StepGood settings b (step_of (site_of settings shard) e (record { site = 1; actor = a }) (shard_at (shard ∷ []) a))
step_of_keeps settings one shard b e zero i h = record { shard = shard; site_is = refl; good = h }
step_of_keeps settings one shard b e (suc zero) i h =
    let full = is_full (site_of settings shard) in
    let w = wake me settings (take_event me settings full (record { shard = shard; out = no_outputs }) e) in
    record {
      shard = w.shard;
      site_is = refl;
      good = wake_keeps settings one b _
          (take_event_keeps settings one b full (record { shard = shard; out = no_outputs }) e i h);
    }
step_of_keeps settings one shard b e (suc (suc a)) i h =
    let none : slice_get (shard ∷ []) (suc (suc a) - 1) ≡ None = slice_get_past (shard ∷ []) (suc (suc a) - 1) (omega arith) in
    rw (lt-ltb 0 (suc (suc a)) (omega arith), none) (record { shard = shard; site_is = refl; good = h })

-- THE WORLD
abbrev pub ledger_of : Shard → List Packet → List Note → Ledger
ledger_of shard packets notes = record { seq = shard.coordinator.seq; messages = messages_of packets; history = history_of notes }

pub record WorldFacts (settings : Settings) (w : World) : Type 0 where
  pub shard : Shard
  pub sites : w.sites ≡ site_of settings shard ∷ []
  pub facts : ActorFacts settings.catalog shard.partition shard.coordinator (ledger_of shard w.packets w.notes)

-- a step of the only site
stepped_keeps : (settings : Settings) (w : World) (b : Ledger) (r : Stepped) → b.messages ≡ messages_of w.packets → b.history ≡ history_of w.notes
    → StepGood settings b r → WorldFacts settings (record w
    { sites = r.site ∷ []; packets = w.packets ++ r.out.packets; notes = w.notes ++ r.out.notes })
stepped_keeps settings w b r ms hs h =
    let l = h.good.ledger in
    let new = ledger_of h.shard (w.packets ++ r.out.packets) (w.notes ++ r.out.notes) in
    let m : l.messages ≡ new.messages = h.good.messages ∙ ap (λ xs. xs ++ messages_of r.out.packets) ms
    ∙ sym (messages_of-append w.packets r.out.packets) in
    let k : l.history ≡ new.history = h.good.history ∙ ap (λ x. noted_all x r.out.notes) hs ∙ sym (noted_all-append no_history w.notes r.out.notes) in
    let e : l ≡ new = λ i. record { seq = sym h.good.seq i; messages = m i; history = k i } in
    record {
      shard = h.shard;
      sites = ap (λ s. s ∷ []) h.site_is;
      facts = subst (ActorFacts settings.catalog h.shard.partition h.shard.coordinator) e h.good.facts;
    }

-- an event at a site of the only one
at_keeps : (settings : Settings) → HasOnePartition settings → (w : World) (shard : Shard) (s : ℕ) (e : Event)
    → ActorFacts settings.catalog shard.partition shard.coordinator (ledger_of shard w.packets w.notes)
    → IsSent (ledger_of shard w.packets w.notes) e → WorldFacts settings (at_site (record w { sites = site_of settings shard ∷ [] }) s e)
at_keeps settings one w shard zero e f i = record { shard = shard; sites = refl; facts = f }
at_keeps settings one w shard (suc zero) e f i =
    let b = ledger_of shard w.packets w.notes in
    stepped_keeps settings w b (site_step (site_of settings shard) e) refl refl
    (step_of_keeps settings one shard b e (actor_of e) i (begins_good settings shard b refl f))
at_keeps settings one w shard (suc (suc s)) e f i =
    let none : slice_get (site_of settings shard ∷ []) (suc (suc s) - 1) ≡ None =
    slice_get_past (site_of settings shard ∷ []) (suc (suc s) - 1) (omega arith) in
    rw (lt-ltb 0 (suc (suc s)) (omega arith), none) (record { shard = shard; sites = refl; facts = f })

at_site_keeps : (settings : Settings) → HasOnePartition settings → (w : World) (s : ℕ) (e : Event) → (h : WorldFacts settings w)
    → IsSent (ledger_of h.shard w.packets w.notes) e → WorldFacts settings (at_site w s e)
at_site_keeps settings one w s e h i =
    subst (λ sites. WorldFacts settings (at_site (record w { sites = sites }) s e)) (sym h.sites) (at_keeps settings one w h.shard s e h.facts i)

-- a packet that was sent
nth_in : {X : Type 0} (xs : List X) (k : ℕ) (x : X) → nth xs k ≡ Some x → In x xs
nth_in xs k x e = on (nat_lt 0 k) e
  where
    on : (b : Bool) → cond b (slice_get xs (k - 1)) None ≡ Some x → In x xs
    on true e = in_got xs (k - 1) x e
    on false e = absurd (cc)

in_messages : (q : Packet) (ps : List Packet) → In q ps → In q.message (messages_of ps)
in_messages q [] h = absurd h
in_messages q (p ∷ ps) (inl e) = inl (ap (λ (x : Packet). x.message) e)
in_messages q (p ∷ ps) (inr h) = inr (in_messages q ps h)

deliver_packet_keeps : (settings : Settings) → HasOnePartition settings → (w : World) (k : ℕ) (o : Option Packet) → nth w.packets k ≡ o → WorldFacts settings w
    → WorldFacts settings (deliver_packet w k o)
deliver_packet_keeps settings one w k None e h = h
deliver_packet_keeps settings one w k (Some packet) e h =
    let i = in_messages packet w.packets (nth_in w.packets k packet e) in
    let h' : WorldFacts settings (delivered w k) = record { shard = h.shard; sites = h.sites; facts = h.facts } in
    at_site_keeps settings one (delivered w k) packet.to.site (event.Take packet) h' i

pub world_step_keeps : (settings : Settings) → HasOnePartition settings → (w : World) (e : WorldEvent) → WorldFacts settings w
    → WorldFacts settings (world_step w e)
unfolding world_step
world_step_keeps settings one w (OpenSession site coord) h = at_site_keeps settings one w site (event.Open coord) h tt
world_step_keeps settings one w (ClientBytes site coord session piece) h = at_site_keeps settings one w site (event.Bytes coord session piece) h tt
world_step_keeps settings one w (CloseSession site coord session) h = at_site_keeps settings one w site (event.Close coord session) h tt
world_step_keeps settings one w (DeliverPacket k) h = deliver_packet_keeps settings one w k (nth w.packets k) refl h

pub start_facts : (settings : Settings) → HasOnePartition settings → WorldFacts settings (start settings)
start_facts settings one = record {
  shard = new_shard;
  sites = λ i. map (λ n. record { number = n; settings = settings; shards = new_shards (one.partition i) }) (range_with_len 1 (2 * one.site i + 1));
  facts = record {
    part = record {
      ok =
          record {
            once = record {
              prepared_done = λ q i. absurd i;
              log_done = λ e i. absurd i;
              prepared_apart = tt;
              log_apart = tt;
              apart = λ q e i j. absurd i;
            };
            below_clock = λ q i. absurd i;
            positive = λ q i. absurd i;
            small = omega arith;
            received = refl;
          };
      messages = λ m i. absurd i;
      parked = λ g i. absurd i;
      prepared = λ q i. absurd i;
      log = λ e i. absurd i;
      decided = λ c i. absurd i;
      answers = λ b i. absurd i;
    };
    all = record {
      told = record {
        begun_once = λ x y i j e. absurd i;
        begun_apart = tt;
        begun_form = λ x i. absurd i;
        performed = λ q i. absurd i;
        order = λ c x i j e less. absurd i;
        apart = tt;
        decided_once = λ c d i j e. absurd i;
        numbers = λ c d i j e less. absurd i;
        stands = λ c d i j e less. absurd i;
      };
      once = λ m m' i j k. absurd i;
    };
    sessions = omega arith;
    begun = λ x i. absurd i;
  };
}

pub run_facts : (settings : Settings) → HasOnePartition settings → (es : List WorldEvent) (w : World) → WorldFacts settings w
    → WorldFacts settings (run es w)
run_facts settings one [] w h = h
run_facts settings one (e ∷ es) w h = run_facts settings one es (world_step w e) (world_step_keeps settings one w e h)
