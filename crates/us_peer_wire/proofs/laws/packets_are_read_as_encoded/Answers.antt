use Rattle.us_peer_wire.proofs.PacketLaws.{reads_packets}
use Rattle.us_peer_wire.proofs.laws.packets_are_read_as_encoded.Goals as goal

pub returns : goal.returns
returns c = reads_packets
