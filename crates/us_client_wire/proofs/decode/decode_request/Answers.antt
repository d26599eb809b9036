use Rattle.us_client_wire.specs.Requests.{request_of, request_encoding, RequestFits}
use Rattle.us_fields.proofs.Decoded.{decoded, malformed, refused, is_encoding, no_encoding, encoding_is_read}
use Rattle.us_client_wire.proofs.RequestLaws.{reads_requests}
use Rattle.us_client_wire.proofs.decode.decode_request.Goals as goal

pub returns : goal.returns
returns c =
    let shape = c.args.shape in
    let frame = c.args.frame.now in
    let law = reads_requests shape c.requires in
    let told = c.request_in.ensures in
    record {
      decoded = decoded (request_of shape frame) c.request_in.result told;
      malformed = malformed (request_of shape frame) c.request_in.result told;
      refused = refused (request_of shape frame) c.request_in.result told;
      is_encoding = is_encoding (RequestFits shape) (request_encoding shape) (request_of shape) frame law (λ i. (c.type_inv.frame i).fits) c.request_in.result told;
      no_encoding = no_encoding (RequestFits shape) (request_encoding shape) (request_of shape) frame law c.request_in.result told;
      encoding_is_read = encoding_is_read (RequestFits shape) (request_encoding shape) (request_of shape) frame law c.request_in.result told;
    }
