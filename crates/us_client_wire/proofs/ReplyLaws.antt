-- Replies are read as they are encoded.
use Rattle.std.proofs.Common.{◌≡◌, ℕ, ◌^◌, ◌<◌, ◌≤◌, ◌==◌, true, false, [], ◌∷◌, Some, refl, sym, ◌∙◌, arith}
use Rattle.std.specs.Int.{w8, w64, to_be_bytes}
use Rattle.std.proofs.lemmas.Bool.{eqb-true}
use Rattle.us_kind.specs.declared.identity.Tid.{Tid}
use Rattle.us_base.specs.declared.shape.Shape.{Shape}
use Rattle.us_base.specs.Shape.{IsShape}
use Rattle.us_wire.specs.Fields.{number_at}
use Rattle.us_wire.specs.Decoders.{and_then, number_between_at, IsCodec, IsCodecWithin}
use Rattle.us_wire.proofs.Combined.{on, refit, reads_then, reads_made, reads_made_two, reads_nothing, reads_none, reads_either}
use Rattle.us_wire.proofs.WholeFrames.{reads_tagged, reads_frames}
use Rattle.us_migrate.specs.declared.token.Token.{Token}
use Rattle.us_migrate.specs.Encodings.{tid_encoding, token_encoding, IsOneOf, TidFits, TokenFits}
use Rattle.us_migrate.specs.Decoders.{tid_at, token_at}
use Rattle.us_migrate.proofs.Encoded.{reads_tids, reads_tokens}
use Rattle.us_value.specs.declared.item.Item.{Item}
use Rattle.us_value.specs.declared.operation.Answer.{Answer}
use Rattle.us_client_wire.specs.declared.frame.Reply.{Reply}
use Rattle.us_client_wire.specs.declared.frame.Reply.TheVariants.{Started, Answered, Committed, Aborted, Dropped, Passed, TokenIs, Attached, Refused}
use Rattle.us_fields.specs.Fields.{item_encoding, ItemFits, answer_encoding, AnswerFits}
use Rattle.us_fields.specs.FieldDecoders.{item_at, answer_at}
use Rattle.us_client_wire.specs.Replies.{reply_tag, reply_at, body_encoding, reply_fields, reply_encoding, BodyFits, ReplyFits, aborted_at, body_at, reply_fields_at, reply_of}
use Rattle.us_client_wire.specs.Laws.{ReadsReplies}
use Rattle.us_fields.proofs.FieldLaws.{unlike, one_of, words, reads_items, reads_answers}

-- a reply to this frame, with this tag
abbrev IsReply : Shape → ℕ → ℕ → Reply → Type 0
IsReply shape tag at r = (reply_at r ≡ at) × ((reply_tag r ≡ tag) × BodyFits shape r)

tag_129 : (shape : Shape) (at : ℕ) (r : Reply) → reply_at r ≡ at → reply_tag r ≡ 129 → BodyFits shape r → (tid : Tid) × (Started at tid ≡ r) × TidFits shape tid
tag_129 shape at (Started n tid) a e f = (tid, (λ i. Started (sym a i) tid), f)
tag_129 shape at _ a e f = absurd (omega arith)

tag_130 : (shape : Shape) (at : ℕ) (r : Reply) → reply_at r ≡ at → reply_tag r ≡ 130 → BodyFits shape r → (answer : Answer) × (Answered at answer ≡ r) × AnswerFits answer
tag_130 shape at (Answered n answer) a e f = (answer, (λ i. Answered (sym a i) answer), f)
tag_130 shape at _ a e f = absurd (omega arith)

tag_131 : (shape : Shape) (at : ℕ) (r : Reply) → reply_at r ≡ at → reply_tag r ≡ 131 → BodyFits shape r → (count : ℕ) × (Committed at count ≡ r) × (count < 2 ^ 64)
tag_131 shape at (Committed n count) a e f = (count, (λ i. Committed (sym a i) count), f)
tag_131 shape at _ a e f = absurd (omega arith)

tag_132 : (shape : Shape) (at : ℕ) (r : Reply) → reply_at r ≡ at → reply_tag r ≡ 132 → BodyFits shape r → (named : Tid) × (item : Item) × (Aborted at named item ≡ r) × TidFits shape named × ItemFits item
tag_132 shape at (Aborted n named item) a e f = (named, item, (λ i. Aborted (sym a i) named item), f.0, f.1)
tag_132 shape at _ a e f = absurd (omega arith)

tag_133 : (at : ℕ) (r : Reply) → reply_at r ≡ at → reply_tag r ≡ 133 → Dropped at ≡ r
tag_133 at (Dropped n) a e = λ i. Dropped (sym a i)
tag_133 at _ a e = absurd (omega arith)

tag_134 : (at : ℕ) (r : Reply) → reply_at r ≡ at → reply_tag r ≡ 134 → Passed at ≡ r
tag_134 at (Passed n) a e = λ i. Passed (sym a i)
tag_134 at _ a e = absurd (omega arith)

tag_135 : (shape : Shape) (at : ℕ) (r : Reply) → reply_at r ≡ at → reply_tag r ≡ 135 → BodyFits shape r → (token : Token) × (TokenIs at token ≡ r) × TokenFits shape token
tag_135 shape at (TokenIs n token) a e f = (token, (λ i. TokenIs (sym a i) token), f)
tag_135 shape at _ a e f = absurd (omega arith)

tag_136 : (at : ℕ) (r : Reply) → reply_at r ≡ at → reply_tag r ≡ 136 → Attached at ≡ r
tag_136 at (Attached n) a e = λ i. Attached (sym a i)
tag_136 at _ a e = absurd (omega arith)

tag_137 : (shape : Shape) (at : ℕ) (r : Reply) → reply_at r ≡ at → reply_tag r ≡ 137 → BodyFits shape r → (cause : ℕ) × (Refused at cause ≡ r) × IsOneOf 11 cause
tag_137 shape at (Refused n cause) a e f = (cause, (λ i. Refused (sym a i) cause), f)
tag_137 shape at _ a e f = absurd (omega arith)

reads_body : (shape : Shape) → IsShape shape → (tag at : ℕ) → IsCodecWithin (IsReply shape tag at) (body_encoding shape) (body_at shape tag at)
unfolding body_at aborted_at
reads_body shape is_shape tag number =
    reads_either (tag == 129) (IsReply shape tag number) (body_encoding shape) _ _ (λ t.
    on (IsReply shape tag number) (body_encoding shape) (λ input at. and_then (tid_at shape input at) (λ tid next. Some (Started number tid, next)))
    (reads_made (TidFits shape) tid_encoding (tid_at shape) (λ tid. Started number tid) (IsReply shape tag number) (body_encoding shape) (reads_tids shape is_shape)
    (λ x f. (refl, (sym (eqb-true tag 129 t), f))) (λ x f. refl) (λ r h. tag_129 shape number r h.0 (h.1.0 ∙ eqb-true tag 129 t) h.1.1))) (λ n1.
    reads_either (tag == 130) (IsReply shape tag number) (body_encoding shape) _ _ (λ t.
    on (IsReply shape tag number) (body_encoding shape) (λ input at. and_then (answer_at input at) (λ answer next. Some (Answered number answer, next)))
    (reads_made AnswerFits answer_encoding answer_at (λ answer. Answered number answer) (IsReply shape tag number) (body_encoding shape) reads_answers
    (λ x f. (refl, (sym (eqb-true tag 130 t), f))) (λ x f. refl) (λ r h. tag_130 shape number r h.0 (h.1.0 ∙ eqb-true tag 130 t) h.1.1))) (λ n2.
    reads_either (tag == 131) (IsReply shape tag number) (body_encoding shape) _ _ (λ t.
    on (IsReply shape tag number) (body_encoding shape) (λ input at. and_then (number_at w64 input at) (λ count next. Some (Committed number count, next)))
    (reads_made (λ n. n < 256 ^ 8) (to_be_bytes w64) (number_at w64) (λ count. Committed number count) (IsReply shape tag number) (body_encoding shape) words
    (λ x f. (refl, (sym (eqb-true tag 131 t), omega (arith, f)))) (λ x f. refl) (λ r h. let k = tag_131 shape number r h.0 (h.1.0 ∙ eqb-true tag 131 t) h.1.1 in (k.0, k.1, omega (arith, k.2))))) (λ n3.
    reads_either (tag == 132) (IsReply shape tag number) (body_encoding shape) _ _ (λ t.
    on (IsReply shape tag number) (body_encoding shape) (λ input at. and_then (tid_at shape input at) (λ named at'. and_then (item_at input at') (λ item next. Some (Aborted number named item, next))))
    (reads_made_two (TidFits shape) tid_encoding (tid_at shape) ItemFits item_encoding item_at (λ named item. Aborted number named item) (IsReply shape tag number) (body_encoding shape) (reads_tids shape is_shape) reads_items
    (λ x y f g. (refl, (sym (eqb-true tag 132 t), (f, g)))) (λ x y f g. refl) (λ r h. tag_132 shape number r h.0 (h.1.0 ∙ eqb-true tag 132 t) h.1.1))) (λ n4.
    reads_either (tag == 133) (IsReply shape tag number) (body_encoding shape) _ _ (λ t. bare 133 (Dropped number) t refl refl refl tt (tag_133 number)) (λ n5.
    reads_either (tag == 134) (IsReply shape tag number) (body_encoding shape) _ _ (λ t. bare 134 (Passed number) t refl refl refl tt (tag_134 number)) (λ n6.
    reads_either (tag == 135) (IsReply shape tag number) (body_encoding shape) _ _ (λ t.
    on (IsReply shape tag number) (body_encoding shape) (λ input at. and_then (token_at shape input at) (λ token next. Some (TokenIs number token, next)))
    (reads_made (TokenFits shape) (token_encoding shape) (token_at shape) (λ token. TokenIs number token) (IsReply shape tag number) (body_encoding shape) (reads_tokens shape is_shape)
    (λ x f. (refl, (sym (eqb-true tag 135 t), f))) (λ x f. refl) (λ r h. tag_135 shape number r h.0 (h.1.0 ∙ eqb-true tag 135 t) h.1.1))) (λ n7.
    reads_either (tag == 136) (IsReply shape tag number) (body_encoding shape) _ _ (λ t. bare 136 (Attached number) t refl refl refl tt (tag_136 number)) (λ n8.
    reads_either (tag == 137) (IsReply shape tag number) (body_encoding shape) _ _ (λ t.
    on (IsReply shape tag number) (body_encoding shape) (λ input at. and_then (number_between_at w8 1 11 input at) (λ cause next. Some (Refused number cause, next)))
    (reads_made (IsOneOf 11) (λ n. n ∷ []) (number_between_at w8 1 11) (λ cause. Refused number cause) (IsReply shape tag number) (body_encoding shape) (one_of 11 (omega arith))
    (λ x f. (refl, (sym (eqb-true tag 137 t), f))) (λ x f. refl) (λ r h. tag_137 shape number r h.0 (h.1.0 ∙ eqb-true tag 137 t) h.1.1))) (λ n9.
    reads_none (IsReply shape tag number) (body_encoding shape) (λ r h. none r h n1 n2 n3 n4 n5 n6 n7 n8 n9))))))))))
  where
    bare : (k : ℕ) (c : Reply) → (tag == k) ≡ true → reply_at c ≡ number → reply_tag c ≡ k → body_encoding shape c ≡ [] → BodyFits shape c → ((r : Reply) → reply_at r ≡ number → reply_tag r ≡ k → c ≡ r)
        → IsCodecWithin (IsReply shape tag number) (body_encoding shape) (λ input at. Some (c, at))
    bare k c test there is empty fits only =
        let same : tag ≡ k = eqb-true tag k test in
        reads_nothing c (IsReply shape tag number) (body_encoding shape) (λ r h. only r h.0 (h.1.0 ∙ same)) (there, (is ∙ sym same, fits)) empty

    none : (r : Reply) → IsReply shape tag number r → (tag == 129) ≡ false → (tag == 130) ≡ false → (tag == 131) ≡ false → (tag == 132) ≡ false → (tag == 133) ≡ false → (tag == 134) ≡ false → (tag == 135) ≡ false
        → (tag == 136) ≡ false → (tag == 137) ≡ false → ⊥
    none (Started n tid) h n1 n2 n3 n4 n5 n6 n7 n8 n9 = unlike tag 129 n1 h.1.0
    none (Answered n answer) h n1 n2 n3 n4 n5 n6 n7 n8 n9 = unlike tag 130 n2 h.1.0
    none (Committed n count) h n1 n2 n3 n4 n5 n6 n7 n8 n9 = unlike tag 131 n3 h.1.0
    none (Aborted n named item) h n1 n2 n3 n4 n5 n6 n7 n8 n9 = unlike tag 132 n4 h.1.0
    none (Dropped n) h n1 n2 n3 n4 n5 n6 n7 n8 n9 = unlike tag 133 n5 h.1.0
    none (Passed n) h n1 n2 n3 n4 n5 n6 n7 n8 n9 = unlike tag 134 n6 h.1.0
    none (TokenIs n token) h n1 n2 n3 n4 n5 n6 n7 n8 n9 = unlike tag 135 n7 h.1.0
    none (Attached n) h n1 n2 n3 n4 n5 n6 n7 n8 n9 = unlike tag 136 n8 h.1.0
    none (Refused n cause) h n1 n2 n3 n4 n5 n6 n7 n8 n9 = unlike tag 137 n9 h.1.0

reads_reply_fields : (shape : Shape) → IsShape shape → (tag : ℕ) → IsCodec (λ r. (reply_tag r ≡ tag) × ((reply_at r < 2 ^ 64) × BodyFits shape r)) (reply_fields shape) (reply_fields_at shape tag)
unfolding reply_fields_at
reads_reply_fields shape is tag =
    refit _ (λ r. (reply_tag r ≡ tag) × ((reply_at r < 2 ^ 64) × BodyFits shape r)) _ (reply_fields shape) (reply_fields_at shape tag)
    (reads_then (λ n. n < 256 ^ 8) (to_be_bytes w64) (number_at w64) reply_at (λ r. (reply_tag r ≡ tag) × BodyFits shape r) (body_encoding shape) (λ number. body_at shape tag number) words (λ number f. reads_body shape is tag number))
    (λ r f. (f.1.0, (omega (arith, f.0), f.1.1))) (λ r f. (omega (arith, f.1.0), (f.0, f.1.1))) (λ r f. refl)

reply_tag-byte : (r : Reply) → reply_tag r ≤ 255
reply_tag-byte (Started n tid) = omega arith
reply_tag-byte (Answered n answer) = omega arith
reply_tag-byte (Committed n count) = omega arith
reply_tag-byte (Aborted n named item) = omega arith
reply_tag-byte (Dropped n) = omega arith
reply_tag-byte (Passed n) = omega arith
reply_tag-byte (TokenIs n token) = omega arith
reply_tag-byte (Attached n) = omega arith
reply_tag-byte (Refused n cause) = omega arith

pub reads_replies : ReadsReplies
unfolding reply_encoding reply_of
reads_replies shape is =
    let Fits : Reply → Type 0 = λ r. (reply_at r < 2 ^ 64) × BodyFits shape r in
    reads_frames reply_tag Fits (ReplyFits shape) (reply_fields shape) (reply_fields_at shape)
    (reads_tagged reply_tag Fits (reply_fields shape) (reply_fields_at shape) reply_tag-byte (λ tag. on _ _ _ (reads_reply_fields shape is tag)))
    (λ r short f. record { at = f.0; body = f.1; short = short }) (λ r f. ((f.at, f.body), f.short))
