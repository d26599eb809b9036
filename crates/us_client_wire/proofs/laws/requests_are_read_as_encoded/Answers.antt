use Rattle.us_client_wire.proofs.RequestLaws.{reads_requests}
use Rattle.us_client_wire.proofs.laws.requests_are_read_as_encoded.Goals as goal

pub returns : goal.returns
returns c = reads_requests
