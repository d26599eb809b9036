-- How long encodings are. Where a list is longer than its count field can tell, it counts as if the field could.
use Rattle.std.specs.Prelude.{ℕ, ◌+◌, ◌*◌, option_to_list}
use Rattle.us_base.specs.declared.shape.Shape.{Shape}
use Rattle.us_value.specs.declared.operation.Op.{Op}
use Rattle.us_value.specs.declared.operation.Op.TheVariants as op
use Rattle.us_value.specs.Lengths.{value_length, item_length, answer_length, effect_length, write_length}
use Rattle.us_fields.specs.Lengths.{list_length, tid_length, vector_length, own_length, touch_length, committed_length}
use Rattle.us_peer_wire.specs.declared.message.Form.{Form}
use Rattle.us_peer_wire.specs.declared.message.Form.TheVariants.{Answered, WritesFull, AnswerFull}
use Rattle.us_peer_wire.specs.declared.message.LogEntry.{LogEntry}
use Rattle.us_peer_wire.specs.declared.message.Message.{Message}
use Rattle.us_peer_wire.specs.declared.message.Message.TheVariants as message
use Rattle.us_peer_wire.specs.declared.message.OutcomeEnd.{OutcomeEnd}
use Rattle.us_peer_wire.specs.declared.message.OutcomeEnd.TheVariants.{Commit, Abort}
use Rattle.us_peer_wire.specs.declared.message.Packet.{Packet}
use Rattle.us_peer_wire.specs.declared.message.Page.{Page}
use Rattle.us_peer_wire.specs.declared.message.Page.TheVariants.{Skip, Holds}

-- a code, and the fields
abbrev pub op_length : Op → ℕ
op_length op.RegisterRead = 1
op_length (op.RegisterWrite bytes) = 1 + value_length bytes
op_length op.CounterRead = 1
op_length (op.CounterAdd amount) = 1 + 8
op_length op.SetMembers = 1
op_length (op.SetContains bytes) = 1 + value_length bytes
op_length (op.SetAdd bytes) = 1 + value_length bytes
op_length (op.SetRemove bytes) = 1 + value_length bytes
op_length op.FlagRead = 1
op_length op.FlagEnable = 1
op_length op.FlagDisable = 1
op_length op.MultiRead = 1
op_length (op.MultiWrite bytes) = 1 + value_length bytes

abbrev pub form_length : Form → ℕ
form_length (Answered answer effect) = 1 + answer_length answer + list_length effect_length (option_to_list effect)
form_length WritesFull = 1
form_length AnswerFull = 1

abbrev pub entry_length : Shape → LogEntry → ℕ
entry_length shape e = tid_length + vector_length shape + list_length touch_length e.touches + list_length write_length e.writes

abbrev pub page_length : Shape → Page → ℕ
page_length shape Skip = 1
page_length shape (Holds tid vector writes) = 1 + tid_length + vector_length shape + list_length write_length writes

abbrev pub end_length : OutcomeEnd → ℕ
end_length Commit = 1
end_length (Abort named item) = 1 + tid_length + item_length item

abbrev pub message_length : Shape → Message → ℕ
message_length shape (message.Get tid place at snapshot item op own) =
    tid_length + 1 + 8 + vector_length shape + item_length item + op_length op + list_length own_length own
message_length shape (message.Version version) = tid_length + 1 + 8 + form_length version.form
message_length shape (message.Prepare tid snapshot writes) = tid_length + vector_length shape + list_length write_length writes
message_length shape (message.Prepared tid ts) = tid_length + 8
message_length shape (message.Commit tid vector) = tid_length + vector_length shape
message_length shape (message.Replicate origin lo hi txs) = 1 + 8 + 8 + list_length (committed_length shape) txs
message_length shape (message.KnownLocal known horizon) = 2 * vector_length shape
message_length shape (message.Stable vector) = vector_length shape
message_length shape (message.KnownGlobal vector) = vector_length shape
message_length shape (message.Submit entry) = entry_length shape entry
message_length shape (message.Outcome outcome) = tid_length + 8 + end_length outcome.end
message_length shape (message.Deliver first pages) = 8 + list_length (page_length shape) pages
message_length shape (message.NewBallot ballot) = 8
message_length shape (message.Promise ballot accepted base tail) = 8 + 8 + 8 + list_length (entry_length shape) tail
message_length shape (message.NewState ballot base tail) = 8 + 8 + list_length (entry_length shape) tail
message_length shape (message.Accept ballot slot entry) = 8 + 8 + entry_length shape entry
message_length shape (message.Accepted ballot length) = 8 + 8
message_length shape (message.CatchUp length) = 8
message_length shape (message.Learn first entries) = 8 + list_length (entry_length shape) entries

-- the head of a packet's frame: four bytes of length, the version, the tag, and two bytes each of sender and receiver
abbrev pub head_length : ℕ
head_length = 4 + 2 + 2 * 2

-- HOW MANY BYTES A PACKET'S FRAME HAS
abbrev pub packet_length : Shape → Packet → ℕ
packet_length shape p = head_length + message_length shape p.message
