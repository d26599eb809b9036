use Rattle.std.proofs.Common.{arith}
use Rattle.us_peer_wire.proofs.PacketLengths.{packets-length}
use Rattle.us_peer_wire.proofs.length.packet_len.Goals as goal

pub returns-clause-is_frame : goal.returns-clause-is_frame
returns-clause-is_frame c = λ fits. packets-length c.args.shape c.args.packet.now c.saturating_add.result c.requires (omega (arith, c.saturating_add.ensures, c.message_len.ensures)) fits
