-- What decoding and encoding are to each other.
use Rattle.us_base.specs.declared.shape.Shape.{Shape}
use Rattle.us_base.specs.Shape.{IsShape}
use Rattle.us_wire.specs.Whole.{IsFrameCodec}
use Rattle.us_client_wire.specs.Requests.{request_of, request_encoding, RequestFits}
use Rattle.us_client_wire.specs.Replies.{reply_of, reply_encoding, ReplyFits}

-- DECODING AND ENCODING ARE INVERSE, AND NO ENCODING IS A PREFIX OF ANOTHER
abbrev pub ReadsRequests : Type 0
ReadsRequests = (shape : Shape) → IsShape shape → IsFrameCodec (RequestFits shape) (request_encoding shape) (request_of shape)

abbrev pub ReadsReplies : Type 0
ReadsReplies = (shape : Shape) → IsShape shape → IsFrameCodec (ReplyFits shape) (reply_encoding shape) (reply_of shape)
