use Rattle.us_client_wire.proofs.ReplyLaws.{reads_replies}
use Rattle.us_client_wire.proofs.laws.replies_are_read_as_encoded.Goals as goal

pub returns : goal.returns
returns c = reads_replies
