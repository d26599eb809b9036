use Rattle.std.proofs.Common.{◌≡◌, ◌++◌, ℕ, List, length, ap, ◌∙◌, arith}
use Rattle.us_client_wire.specs.Requests.{request_fields}
use Rattle.us_client_wire.proofs.RequestLaws.{request-short}
use Rattle.us_client_wire.proofs.encode.encode_request.Goals as goal

pub frame_of-requires : goal.frame_of-requires
frame_of-requires c =
    let is : c.as_slice.result.now ≡ request_fields c.args.shape c.args.request.now =
    c.as_slice.ensures.value ∙ c.in_ok-fields.ensures {u = tt} ∙ ap (λ (w : List ℕ). w ++ request_fields c.args.shape c.args.request.now) c.new.ensures.items in
    let short = (request-short c.args.shape c.requires.shape c.args.request.now c.requires.fits).short in
    omega (arith, ap (λ (w : List ℕ). length w) is, short)
