use Rattle.us_client_wire.specs.Replies.{reply_of, reply_encoding, ReplyFits}
use Rattle.us_fields.proofs.Decoded.{decoded, malformed, refused, is_encoding, no_encoding, encoding_is_read}
use Rattle.us_client_wire.proofs.ReplyLaws.{reads_replies}
use Rattle.us_client_wire.proofs.decode.decode_reply.Goals as goal

pub returns : goal.returns
returns c =
    let shape = c.args.shape in
    let frame = c.args.frame.now in
    let law = reads_replies shape c.requires in
    let told = c.reply_in.ensures in
    record {
      decoded = decoded (reply_of shape frame) c.reply_in.result told;
      malformed = malformed (reply_of shape frame) c.reply_in.result told;
      refused = refused (reply_of shape frame) c.reply_in.result told;
      is_encoding = is_encoding (ReplyFits shape) (reply_encoding shape) (reply_of shape) frame law (λ i. (c.type_inv.frame i).fits) c.reply_in.result told;
      no_encoding = no_encoding (ReplyFits shape) (reply_encoding shape) (reply_of shape) frame law c.reply_in.result told;
      encoding_is_read = encoding_is_read (ReplyFits shape) (reply_encoding shape) (reply_of shape) frame law c.reply_in.result told;
    }
