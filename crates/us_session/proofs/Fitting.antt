-- The replies that a site gives have an encoding.
use Rattle.std.proofs.Common.{ℕ, ◌<◌, ◌≤◌, ◌^◌, [], ◌∷◌, length-append, arith}
use Rattle.std.specs.Int.{to_be_bytes, w64}
use Rattle.us_base.specs.declared.shape.Shape.{Shape}
use Rattle.us_kind.specs.declared.identity.Tid.{Tid}
use Rattle.us_value.specs.declared.operation.Answer.{Answer}
use Rattle.us_value.specs.Lengths.{answer_length}
use Rattle.us_migrate.specs.Encodings.{tid_encoding, IsOneOf, TidFits}
use Rattle.us_client_wire.specs.declared.frame.Reply.TheVariants.{Started, Answered, Committed, Dropped, Refused}
use Rattle.us_client_wire.specs.Fields.{answer_encoding, AnswerFits}
use Rattle.us_client_wire.specs.Replies.{ReplyFits}
use Rattle.us_fields.proofs.AnswerLengths.{answers-are-as-long}

pub started_fits : (shape : Shape) (at : ℕ) (tid : Tid) → at < 2 ^ 64 → TidFits shape tid → ReplyFits shape (Started at tid)
started_fits shape at tid small fits = record {
  at = small;
  body = fits;
  short = record
      { short = omega (arith, length-append (to_be_bytes w64 at) (tid_encoding tid)) };
}

pub answered_fits : (shape : Shape) (at : ℕ) (answer : Answer) → at < 2 ^ 64 → answer_length answer ≤ 65000 → AnswerFits answer
    → ReplyFits shape (Answered at answer)
answered_fits shape at answer small few fits = record {
  at = small;
  body = fits;
  short = record
      { short = omega (arith, length-append (to_be_bytes w64 at) (answer_encoding answer), answers-are-as-long answer, few) };
}

pub committed_fits : (shape : Shape) (at count : ℕ) → at < 2 ^ 64 → count < 2 ^ 64 → ReplyFits shape (Committed at count)
committed_fits shape at count small few = record {
  at = small;
  body = few;
  short = record
      { short = omega (arith, length-append (to_be_bytes w64 at) (to_be_bytes w64 count)) };
}

pub dropped_fits : (shape : Shape) (at : ℕ) → at < 2 ^ 64 → ReplyFits shape (Dropped at)
dropped_fits shape at small = record { at = small; body = tt; short = record { short = omega (arith, length-append (to_be_bytes w64 at) []) } }

pub refused_fits : (shape : Shape) (at number : ℕ) → at < 2 ^ 64 → IsOneOf 11 number → ReplyFits shape (Refused at number)
refused_fits shape at number small cause = record {
  at = small;
  body = cause;
  short = record
      { short = omega (arith, length-append (to_be_bytes w64 at) (number ∷ [])) };
}
