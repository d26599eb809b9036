-- Packets: how a frame encodes one, and which packet a frame is.
use Rattle.std.specs.Prelude.{ℕ, List, ◌++◌, Option}
use Rattle.us_base.specs.declared.shape.Shape.{Shape}
use Rattle.us_base.specs.Shape.{IsShape}
use Rattle.us_wire.specs.Decoders.{Decoder}
use Rattle.us_wire.specs.Whole.{frame_encoding, frame_of, IsShort, IsFrameCodec}
use Rattle.us_fields.specs.Lists.{both_at, made_at}
use Rattle.us_peer_wire.specs.declared.message.Packet.{Packet}
use Rattle.us_peer_wire.specs.Parts.{actor_encoding, ActorFits, actor_at}
use Rattle.us_peer_wire.specs.Messages.{message_tag, message_fields, MessageFits, message_fields_at}

-- the sender, the receiver, the message's fields
abbrev pub packet_fields : Shape → Packet → List ℕ
packet_fields shape p = actor_encoding p.from ++ (actor_encoding p.to ++ message_fields shape p.message)

-- THE ENCODING OF A PACKET
unfoldable pub packet_encoding : Shape → Packet → List ℕ
packet_encoding shape p = frame_encoding (message_tag p.message) (packet_fields shape p)

-- a packet that has an encoding: its fields do, and they are shorter than a length field can tell
pub record PacketFits (shape : Shape) (p : Packet) : Type 0 where
  pub from : ActorFits shape p.from
  pub to : ActorFits shape p.to
  pub message : MessageFits shape p.message
  pub short : IsShort (packet_fields shape p)

-- the fields of the packet with this tag
unfoldable pub packet_fields_at : Shape → ℕ → Decoder Packet
packet_fields_at shape tag =
    made_at (λ p. record { from = p.0; to = p.1.0; message = p.1.1 }) (both_at (actor_at shape) (both_at (actor_at shape) (message_fields_at shape tag)))

-- THE PACKET THAT A FRAME IS, if it is one
unfoldable pub packet_of : Shape → List ℕ → Option Packet
packet_of shape frame = frame_of (packet_fields_at shape) frame

-- DECODING AND ENCODING ARE INVERSE, AND NO ENCODING IS A PREFIX OF ANOTHER
abbrev pub ReadsPackets : Type 0
ReadsPackets = (shape : Shape) → IsShape shape → IsFrameCodec (PacketFits shape) (packet_encoding shape) (packet_of shape)
