use Rattle.us_fields.proofs.Decoded.{decoded, malformed, refused, is_encoding, no_encoding, encoding_is_read}
use Rattle.us_peer_wire.specs.Packets.{packet_of, packet_encoding, PacketFits}
use Rattle.us_peer_wire.proofs.PacketLaws.{reads_packets}
use Rattle.us_peer_wire.proofs.read.decode.Goals as goal

pub returns : goal.returns
returns c =
    let shape = c.args.shape in
    let frame = c.args.frame.now in
    let law = reads_packets shape c.requires in
    let told = c.packet_in.ensures in
    record {
      decoded = decoded (packet_of shape frame) c.packet_in.result told;
      malformed = malformed (packet_of shape frame) c.packet_in.result told;
      refused = refused (packet_of shape frame) c.packet_in.result told;
      is_encoding = is_encoding (PacketFits shape) (packet_encoding shape) (packet_of shape) frame law (λ i. (c.type_inv.frame i).fits) c.packet_in.result told;
      no_encoding = no_encoding (PacketFits shape) (packet_encoding shape) (packet_of shape) frame law c.packet_in.result told;
      encoding_is_read = encoding_is_read (PacketFits shape) (packet_encoding shape) (packet_of shape) frame law c.packet_in.result told;
    }
