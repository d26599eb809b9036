-- Packets are read as they are encoded.
use Rattle.std.proofs.Common.{◌≡◌, ℕ, refl}
use Rattle.us_base.specs.declared.shape.Shape.{Shape}
use Rattle.us_base.specs.Shape.{IsShape}
use Rattle.us_wire.specs.Decoders.{IsCodec}
use Rattle.us_wire.proofs.Combined.{on, reads_made}
use Rattle.us_wire.proofs.WholeFrames.{reads_tagged, reads_frames}
use Rattle.us_fields.specs.Lists.{both_at}
use Rattle.us_fields.proofs.ListLaws.{reads_both, reads_both_on}
use Rattle.us_peer_wire.specs.declared.message.Actor.{Actor}
use Rattle.us_peer_wire.specs.declared.message.Message.{Message}
use Rattle.us_peer_wire.specs.declared.message.Packet.{Packet}
use Rattle.us_peer_wire.specs.Parts.{actor_encoding, ActorFits, actor_at}
use Rattle.us_peer_wire.specs.Messages.{message_tag, message_fields, MessageFits, message_fields_at}
use Rattle.us_peer_wire.specs.Packets.{packet_fields, packet_encoding, PacketFits, packet_fields_at, packet_of, ReadsPackets}
use Rattle.us_peer_wire.proofs.PartLaws.{reads_actors}
use Rattle.us_peer_wire.proofs.MessageLaws.{message_tag-byte, reads_messages}

-- ends and a message that have an encoding
abbrev Fits : Shape → Packet → Type 0
Fits shape p = ActorFits shape p.from × (ActorFits shape p.to × MessageFits shape p.message)

abbrev tag_of : Packet → ℕ
tag_of p = message_tag p.message

reads_fields : (shape : Shape) → IsShape shape → (n : ℕ) → IsCodec (λ p. (tag_of p ≡ n) × Fits shape p) (packet_fields shape) (packet_fields_at shape n)
unfolding packet_fields_at
reads_fields shape is n =
    let IsMessage : Message → Type 0 = λ m. (message_tag m ≡ n) × MessageFits shape m in
    reads_made _ _ (both_at (actor_at shape) (both_at (actor_at shape) (message_fields_at shape n))) (λ (p : Actor × (Actor × Message)). record { from = p.0; to = p.1.0; message = p.1.1 })
    (λ p. (tag_of p ≡ n) × Fits shape p) (packet_fields shape)
    (reads_both (ActorFits shape) actor_encoding (actor_at shape) _ _ (both_at (actor_at shape) (message_fields_at shape n)) (reads_actors shape is)
    (reads_both_on (ActorFits shape) actor_encoding (actor_at shape) IsMessage (message_fields shape) (message_fields_at shape n) (reads_actors shape is) (reads_messages shape is n)))
    (λ p f. (f.1.1.0, (f.0, (f.1.0, f.1.1.1)))) (λ p f. refl) (λ p g. ((p.from, (p.to, p.message)), refl, (g.1.0, (g.1.1.0, (g.0, g.1.1.1)))))

pub reads_packets : ReadsPackets
unfolding packet_encoding packet_of
reads_packets shape is =
    reads_frames tag_of (Fits shape) (PacketFits shape) (packet_fields shape) (packet_fields_at shape)
    (reads_tagged tag_of (Fits shape) (packet_fields shape) (packet_fields_at shape) (λ p. message_tag-byte p.message) (λ n. on _ _ _ (reads_fields shape is n)))
    (λ p short f. record { from = f.0; to = f.1.0; message = f.1.1; short = short }) (λ p f. ((f.from, (f.to, f.message)), f.short))
