-- Replies: how a frame encodes one, and which reply a frame is.
use Rattle.std.specs.Prelude.{ℕ, ◌<◌, ◌^◌, List, [], ◌∷◌, ◌++◌, ◌==◌, Option, None, Some, if◌then◌else◌}
use Rattle.std.specs.Int.{to_be_bytes, w8, w64}
use Rattle.us_base.specs.declared.shape.Shape.{Shape}
use Rattle.us_wire.specs.Fields.{number_at}
use Rattle.us_wire.specs.Decoders.{Decoder, and_then, number_between_at}
use Rattle.us_wire.specs.Whole.{frame_encoding, frame_of, IsShort}
use Rattle.us_migrate.specs.Encodings.{tid_encoding, token_encoding, IsOneOf, TidFits, TokenFits}
use Rattle.us_migrate.specs.Decoders.{tid_at, token_at}
use Rattle.us_client_wire.specs.declared.frame.Reply.{Reply}
use Rattle.us_client_wire.specs.declared.frame.Reply.TheVariants.{Started, Answered, Committed, Aborted, Dropped, Passed, TokenIs, Attached, Refused}
use Rattle.us_fields.specs.Fields.{item_encoding, answer_encoding, ItemFits, AnswerFits}
use Rattle.us_fields.specs.FieldDecoders.{item_at, answer_at}

-- which reply it is
abbrev pub reply_tag : Reply → ℕ
reply_tag (Started at tid) = 129
reply_tag (Answered at answer) = 130
reply_tag (Committed at count) = 131
reply_tag (Aborted at named item) = 132
reply_tag (Dropped at) = 133
reply_tag (Passed at) = 134
reply_tag (TokenIs at token) = 135
reply_tag (Attached at) = 136
reply_tag (Refused at number) = 137

-- the number of the frame that is answered
abbrev pub reply_at : Reply → ℕ
reply_at (Started at tid) = at
reply_at (Answered at answer) = at
reply_at (Committed at count) = at
reply_at (Aborted at named item) = at
reply_at (Dropped at) = at
reply_at (Passed at) = at
reply_at (TokenIs at token) = at
reply_at (Attached at) = at
reply_at (Refused at number) = at

-- what is told behind it
abbrev pub body_encoding : Shape → Reply → List ℕ
body_encoding shape (Started at tid) = tid_encoding tid
body_encoding shape (Answered at answer) = answer_encoding answer
body_encoding shape (Committed at count) = to_be_bytes w64 count
body_encoding shape (Aborted at named item) = tid_encoding named ++ item_encoding item
body_encoding shape (Dropped at) = []
body_encoding shape (Passed at) = []
body_encoding shape (TokenIs at token) = token_encoding shape token
body_encoding shape (Attached at) = []
body_encoding shape (Refused at number) = number ∷ []

abbrev pub reply_fields : Shape → Reply → List ℕ
reply_fields shape reply = to_be_bytes w64 (reply_at reply) ++ body_encoding shape reply

-- THE ENCODING OF A REPLY
unfoldable pub reply_encoding : Shape → Reply → List ℕ
reply_encoding shape reply = frame_encoding (reply_tag reply) (reply_fields shape reply)

-- what is told has an encoding in a store of this shape
abbrev pub BodyFits : Shape → Reply → Type 0
BodyFits shape (Started at tid) = TidFits shape tid
BodyFits shape (Answered at answer) = AnswerFits answer
BodyFits shape (Committed at count) = count < 2 ^ 64
BodyFits shape (Aborted at named item) = TidFits shape named × ItemFits item
BodyFits shape (Dropped at) = Unit {0}
BodyFits shape (Passed at) = Unit {0}
BodyFits shape (TokenIs at token) = TokenFits shape token
BodyFits shape (Attached at) = Unit {0}
BodyFits shape (Refused at number) = IsOneOf 11 number

-- a reply that has an encoding: its fields do, and they are shorter than a length field can tell
pub record ReplyFits (shape : Shape) (reply : Reply) : Type 0 where
  pub at : reply_at reply < 2 ^ 64
  pub body : BodyFits shape reply
  pub short : IsShort (reply_fields shape reply)

unfoldable pub aborted_at : Shape → ℕ → Decoder Reply
aborted_at shape number input at =
    and_then (tid_at shape input at) (λ named at'. and_then (item_at input at') (λ item next. Some (Aborted number named item, next)))

-- what is told by the reply with this tag, and this number of a frame
unfoldable pub body_at : Shape → ℕ → ℕ → Decoder Reply
body_at shape tag number input at =
    if tag == 129 then and_then (tid_at shape input at) (λ tid next. Some (Started number tid, next))
    else if tag == 130 then and_then (answer_at input at) (λ answer next. Some (Answered number answer, next))
    else if tag == 131 then and_then (number_at w64 input at) (λ count next. Some (Committed number count, next))
    else if tag == 132 then aborted_at shape number input at
    else if tag == 133 then Some (Dropped number, at)
    else if tag == 134 then Some (Passed number, at)
    else if tag == 135 then and_then (token_at shape input at) (λ token next. Some (TokenIs number token, next))
    else if tag == 136 then Some (Attached number, at)
    else if tag == 137 then and_then (number_between_at w8 1 11 input at) (λ cause next. Some (Refused number cause, next))
    else None

-- the fields of the reply with this tag
unfoldable pub reply_fields_at : Shape → ℕ → Decoder Reply
reply_fields_at shape tag input at = and_then (number_at w64 input at) (λ number next. body_at shape tag number input next)

-- THE REPLY THAT A FRAME IS, if it is one
unfoldable pub reply_of : Shape → List ℕ → Option Reply
reply_of shape frame = frame_of (reply_fields_at shape) frame
