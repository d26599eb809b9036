-- How long a packet's frame is.
use Rattle.std.proofs.Common.{◌≡◌, ℕ, List, [], ◌∷◌, ◌++◌, length, Option, None, Some, length-append, refl, arith}
use Rattle.std.specs.Prelude.{option_to_list}
use Rattle.us_base.specs.declared.shape.Shape.{Shape}
use Rattle.us_base.specs.Shape.{IsShape}
use Rattle.us_migrate.specs.Encodings.{vector_encoding}
use Rattle.us_value.specs.declared.operation.Effect.{Effect}
use Rattle.us_value.specs.declared.operation.Op.{Op}
use Rattle.us_value.specs.declared.operation.Op.TheVariants as op
use Rattle.us_value.specs.Lengths.{effect_length, capped}
use Rattle.us_fields.specs.Fields.{item_encoding, op_fields, op_encoding, answer_encoding}
use Rattle.us_fields.specs.Lists.{list_encoding, ListFits}
use Rattle.us_fields.specs.Effects.{effect_encoding, EffectFits, writes_encoding}
use Rattle.us_fields.specs.Tuples.{own_encoding, OwnFits, touch_encoding, TouchFits, committed_encoding, CommittedFits}
use Rattle.us_fields.specs.Lengths.{list_length, own_length, touch_length, committed_length}
use Rattle.us_fields.proofs.AnswerLengths.{value-length, answers-are-as-long}
use Rattle.us_fields.proofs.FieldLengths.{lists-length, vectors-length, effects-length, list_of_writes-length, owns-length, touches-length, committed-length}
use Rattle.us_peer_wire.specs.declared.message.Form.{Form}
use Rattle.us_peer_wire.specs.declared.message.Form.TheVariants.{Answered, WritesFull, AnswerFull}
use Rattle.us_peer_wire.specs.declared.message.LogEntry.{LogEntry}
use Rattle.us_peer_wire.specs.declared.message.Message.{Message}
use Rattle.us_peer_wire.specs.declared.message.Message.TheVariants as message
use Rattle.us_peer_wire.specs.declared.message.OutcomeEnd.{OutcomeEnd}
use Rattle.us_peer_wire.specs.declared.message.OutcomeEnd.TheVariants.{Commit, Abort}
use Rattle.us_peer_wire.specs.declared.message.Packet.{Packet}
use Rattle.us_peer_wire.specs.declared.message.Page.{Page}
use Rattle.us_peer_wire.specs.declared.message.Page.TheVariants.{Skip, Holds}
use Rattle.us_peer_wire.specs.Parts.{form_encoding, MaybeFits, FormFits, entry_encoding, EntryFits, page_encoding, PageFits, end_encoding}
use Rattle.us_peer_wire.specs.Messages.{message_fields, MessageFits}
use Rattle.us_peer_wire.specs.Lengths.{op_length, form_length, entry_length, page_length, end_length, message_length, packet_length}
use Rattle.us_peer_wire.specs.Packets.{packet_encoding, PacketFits}

ops-length : (o : Op) → length (op_encoding o) ≡ op_length o
ops-length op.RegisterRead = refl
ops-length (op.RegisterWrite bytes) = omega (arith, value-length bytes)
ops-length op.CounterRead = refl
ops-length (op.CounterAdd amount) = refl
ops-length op.SetMembers = refl
ops-length (op.SetContains bytes) = omega (arith, value-length bytes)
ops-length (op.SetAdd bytes) = omega (arith, value-length bytes)
ops-length (op.SetRemove bytes) = omega (arith, value-length bytes)
ops-length op.FlagRead = refl
ops-length op.FlagEnable = refl
ops-length op.FlagDisable = refl
ops-length op.MultiRead = refl
ops-length (op.MultiWrite bytes) = omega (arith, value-length bytes)

maybes-length : (shape : Shape) (o : Option Effect) → MaybeFits shape o → length (list_encoding effect_encoding (option_to_list o)) ≡ list_length effect_length (option_to_list o)
maybes-length shape None f = lists-length (EffectFits shape) effect_encoding effect_length (λ e g. effects-length e) [] tt
maybes-length shape (Some effect) f = lists-length (EffectFits shape) effect_encoding effect_length (λ e g. effects-length e) (effect ∷ []) (f, tt)

forms-length : (shape : Shape) (form : Form) → FormFits shape form → length (form_encoding form) ≡ form_length form
forms-length shape (Answered answer effect) f =
    omega (arith, length-append (answer_encoding answer) (list_encoding effect_encoding (option_to_list effect)), answers-are-as-long answer, maybes-length shape effect f.1)
forms-length shape WritesFull f = refl
forms-length shape AnswerFull f = refl

entries-length : (shape : Shape) → IsShape shape → (e : LogEntry) → EntryFits shape e → length (entry_encoding shape e) ≡ entry_length shape e
entries-length shape is e f =
    let touches = lists-length TouchFits touch_encoding touch_length touches-length e.touches f.touches.each in
    let behind = length-append (vector_encoding shape e.snapshot) (list_encoding touch_encoding e.touches ++ writes_encoding e.writes) in
    let last = length-append (list_encoding touch_encoding e.touches) (writes_encoding e.writes) in
    omega (arith, behind, last, touches, vectors-length shape e.snapshot is f.snapshot, list_of_writes-length shape e.writes f.writes)

pages-length : (shape : Shape) → IsShape shape → (p : Page) → PageFits shape p → length (page_encoding shape p) ≡ page_length shape p
pages-length shape is Skip f = refl
pages-length shape is (Holds tid vector writes) f = omega (arith, committed-length shape is (tid, vector, writes) f)

ends-length : (end : OutcomeEnd) → length (end_encoding end) ≡ end_length end
ends-length Commit = refl
ends-length (Abort named item) = omega arith

-- a list of entries
tails-length : (shape : Shape) → IsShape shape → (least : ℕ) (es : List LogEntry) → ListFits least 8 (EntryFits shape) es → length (list_encoding (entry_encoding shape) es) ≡ list_length (entry_length shape) es
tails-length shape is least es f = lists-length (EntryFits shape) (entry_encoding shape) (entry_length shape) (entries-length shape is) es f.each

messages-length : (shape : Shape) → IsShape shape → (m : Message) → MessageFits shape m → length (message_fields shape m) ≡ message_length shape m
messages-length shape is (message.Get tid place at snapshot item o own) f =
    let owns = list_encoding own_encoding own in
    let one = length-append (vector_encoding shape snapshot) (item_encoding item ++ (op_encoding o ++ owns)) in
    let two = length-append item.id (op_encoding o ++ owns) in
    let three = length-append (op_fields o) owns in
    let four = lists-length (OwnFits shape) own_encoding own_length (owns-length shape) own f.1.1.1.1.1.1.each in
    omega (arith, one, two, three, four, vectors-length shape snapshot is f.1.1.1.0, ops-length o)
messages-length shape is (message.Version version) f = omega (arith, forms-length shape version.form f.1.1.1)
messages-length shape is (message.Prepare tid snapshot writes) f = omega (arith, length-append (vector_encoding shape snapshot) (writes_encoding writes), vectors-length shape snapshot is f.1.0, list_of_writes-length shape writes f.1.1)
messages-length shape is (message.Prepared tid ts) f = refl
messages-length shape is (message.Commit tid vector) f = omega (arith, vectors-length shape vector is f.1)
messages-length shape is (message.Replicate origin lo hi txs) f = omega (arith, lists-length (CommittedFits shape) (committed_encoding shape) (committed_length shape) (committed-length shape is) txs f.1.1.1.0.each)
messages-length shape is (message.KnownLocal known horizon) f = omega (arith, length-append (vector_encoding shape known) (vector_encoding shape horizon), vectors-length shape known is f.0, vectors-length shape horizon is f.1)
messages-length shape is (message.Stable vector) f = vectors-length shape vector is f
messages-length shape is (message.KnownGlobal vector) f = vectors-length shape vector is f
messages-length shape is (message.Submit entry) f = entries-length shape is entry f
messages-length shape is (message.Outcome outcome) f = omega (arith, ends-length outcome.end)
messages-length shape is (message.Deliver first pages) f = omega (arith, lists-length (PageFits shape) (page_encoding shape) (page_length shape) (pages-length shape is) pages f.1.each)
messages-length shape is (message.NewBallot ballot) f = refl
messages-length shape is (message.Promise ballot accepted base tail) f = omega (arith, tails-length shape is 0 tail f.1.1.1)
messages-length shape is (message.NewState ballot base tail) f = omega (arith, tails-length shape is 0 tail f.1.1)
messages-length shape is (message.Accept ballot slot entry) f = omega (arith, entries-length shape is entry f.1.1)
messages-length shape is (message.Accepted ballot len) f = refl
messages-length shape is (message.CatchUp len) f = refl
messages-length shape is (message.Learn first entries) f = omega (arith, tails-length shape is 1 entries f.1)

-- the length that is said of a packet is that of its frame, and no length field tells more
pub packets-length : (shape : Shape) (p : Packet) (n : ℕ) → IsShape shape → n ≡ capped (packet_length shape p) → PacketFits shape p → n ≡ length (packet_encoding shape p)
unfolding packet_encoding
packets-length shape p n is e f = omega (arith, e, messages-length shape is p.message f.message, f.short.short)
