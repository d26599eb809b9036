-- Requests: how a frame encodes one, and which request a frame is.
use Rattle.std.specs.Prelude.{ℕ, List, [], ◌++◌, ◌==◌, Option, None, Some, if◌then◌else◌}
use Rattle.us_base.specs.declared.shape.Shape.{Shape}
use Rattle.us_wire.specs.Decoders.{Decoder, and_then}
use Rattle.us_wire.specs.Whole.{frame_encoding, frame_of}
use Rattle.us_migrate.specs.Encodings.{token_encoding, TokenFits}
use Rattle.us_migrate.specs.Decoders.{token_at}
use Rattle.us_client_wire.specs.declared.frame.Request.{Request}
use Rattle.us_client_wire.specs.declared.frame.Request.TheVariants.{Begin, Perform, CommitCausal, CommitStrong, Abandon, Barrier, AskToken, Attach}
use Rattle.us_fields.specs.Fields.{item_encoding, op_encoding, ItemFits, OpFits}
use Rattle.us_fields.specs.FieldDecoders.{item_at, op_at}

-- which request it is
abbrev pub request_tag : Request → ℕ
request_tag Begin = 1
request_tag (Perform item op) = 2
request_tag CommitCausal = 3
request_tag CommitStrong = 4
request_tag Abandon = 5
request_tag Barrier = 6
request_tag AskToken = 7
request_tag (Attach token) = 8

abbrev pub request_fields : Shape → Request → List ℕ
request_fields shape Begin = []
request_fields shape (Perform item op) = item_encoding item ++ op_encoding op
request_fields shape CommitCausal = []
request_fields shape CommitStrong = []
request_fields shape Abandon = []
request_fields shape Barrier = []
request_fields shape AskToken = []
request_fields shape (Attach token) = token_encoding shape token

-- THE ENCODING OF A REQUEST
unfoldable pub request_encoding : Shape → Request → List ℕ
request_encoding shape request = frame_encoding (request_tag request) (request_fields shape request)

-- a request that has an encoding in a store of this shape
abbrev pub RequestFits : Shape → Request → Type 0
RequestFits shape Begin = Unit {0}
RequestFits shape (Perform item op) = ItemFits item × OpFits op
RequestFits shape CommitCausal = Unit {0}
RequestFits shape CommitStrong = Unit {0}
RequestFits shape Abandon = Unit {0}
RequestFits shape Barrier = Unit {0}
RequestFits shape AskToken = Unit {0}
RequestFits shape (Attach token) = TokenFits shape token

-- an item, and an operation on it
unfoldable pub perform_at : Decoder Request
perform_at input at = and_then (item_at input at) (λ item at'. and_then (op_at input at') (λ op next. Some (Perform item op, next)))

-- the fields of the request with this tag
unfoldable pub request_fields_at : Shape → ℕ → Decoder Request
request_fields_at shape tag input at =
    if tag == 1 then Some (Begin, at)
    else if tag == 2 then perform_at input at
    else if tag == 3 then Some (CommitCausal, at)
    else if tag == 4 then Some (CommitStrong, at)
    else if tag == 5 then Some (Abandon, at)
    else if tag == 6 then Some (Barrier, at)
    else if tag == 7 then Some (AskToken, at)
    else if tag == 8 then and_then (token_at shape input at) (λ token next. Some (Attach token, next))
    else None

-- THE REQUEST THAT A FRAME IS, if it is one
unfoldable pub request_of : Shape → List ℕ → Option Request
request_of shape frame = frame_of (request_fields_at shape) frame
