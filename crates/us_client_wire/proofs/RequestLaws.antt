-- Requests are read as they are encoded.
use Rattle.std.proofs.Common.{◌≡◌, ℕ, ◌≤◌, ◌==◌, true, false, [], length, Some, refl, sym, ◌∙◌, arith, length-append}
use Rattle.std.proofs.lemmas.Bool.{eqb-true}
use Rattle.us_base.specs.declared.shape.Shape.{Shape}
use Rattle.us_base.specs.Shape.{IsShape}
use Rattle.us_wire.specs.Decoders.{and_then, IsCodecWithin}
use Rattle.us_wire.specs.Whole.{IsShort}
use Rattle.us_wire.proofs.Combined.{on, reads_made, reads_made_two, reads_nothing, reads_none, reads_either}
use Rattle.us_wire.proofs.WholeFrames.{reads_tagged, reads_frames}
use Rattle.us_migrate.specs.declared.token.Token.{Token}
use Rattle.us_migrate.specs.Encodings.{token_encoding, TokenFits}
use Rattle.us_migrate.specs.Decoders.{token_at}
use Rattle.us_migrate.proofs.Encoded.{reads_tokens, token_encoding-short}
use Rattle.us_value.specs.declared.item.Item.{Item}
use Rattle.us_value.specs.declared.operation.Op.{Op}
use Rattle.us_value.specs.declared.operation.Op.TheVariants as op
use Rattle.us_client_wire.specs.declared.frame.Request.{Request}
use Rattle.us_client_wire.specs.declared.frame.Request.TheVariants.{Begin, Perform, CommitCausal, CommitStrong, Abandon, Barrier, AskToken, Attach}
use Rattle.us_fields.specs.Fields.{item_encoding, ItemFits, op_encoding, op_fields, OpFits}
use Rattle.us_fields.specs.FieldDecoders.{item_at, op_at}
use Rattle.us_client_wire.specs.Requests.{request_tag, request_fields, request_encoding, RequestFits, perform_at, request_fields_at, request_of}
use Rattle.us_client_wire.specs.Laws.{ReadsRequests}
use Rattle.us_fields.proofs.FieldLaws.{unlike, reads_items, reads_ops}

abbrev IsRequest : Shape → ℕ → Request → Type 0
IsRequest shape tag r = (request_tag r ≡ tag) × RequestFits shape r

tag_1 : (r : Request) → request_tag r ≡ 1 → Begin ≡ r
tag_1 Begin e = refl
tag_1 _ e = absurd (cc)

tag_2 : (shape : Shape) (r : Request) → request_tag r ≡ 2 → RequestFits shape r → (item : Item) × (o : Op) × (Perform item o ≡ r) × ItemFits item × OpFits o
tag_2 shape (Perform item o) e f = (item, o, refl, f.0, f.1)
tag_2 shape _ e f = absurd (cc)

tag_3 : (r : Request) → request_tag r ≡ 3 → CommitCausal ≡ r
tag_3 CommitCausal e = refl
tag_3 _ e = absurd (cc)

tag_4 : (r : Request) → request_tag r ≡ 4 → CommitStrong ≡ r
tag_4 CommitStrong e = refl
tag_4 _ e = absurd (cc)

tag_5 : (r : Request) → request_tag r ≡ 5 → Abandon ≡ r
tag_5 Abandon e = refl
tag_5 _ e = absurd (cc)

tag_6 : (r : Request) → request_tag r ≡ 6 → Barrier ≡ r
tag_6 Barrier e = refl
tag_6 _ e = absurd (cc)

tag_7 : (r : Request) → request_tag r ≡ 7 → AskToken ≡ r
tag_7 AskToken e = refl
tag_7 _ e = absurd (cc)

tag_8 : (shape : Shape) (r : Request) → request_tag r ≡ 8 → RequestFits shape r → (token : Token) × (Attach token ≡ r) × TokenFits shape token
tag_8 shape (Attach token) e f = (token, refl, f)
tag_8 shape _ e f = absurd (cc)

reads_request_fields : (shape : Shape) → IsShape shape → (tag : ℕ) → IsCodecWithin (IsRequest shape tag) (request_fields shape) (request_fields_at shape tag)
unfolding request_fields_at perform_at
reads_request_fields shape is_shape tag =
    reads_either (tag == 1) (IsRequest shape tag) (request_fields shape) _ _ (λ t. bare 1 Begin t refl refl tt tag_1) (λ n1.
    reads_either (tag == 2) (IsRequest shape tag) (request_fields shape) _ _ (λ t.
    on (IsRequest shape tag) (request_fields shape) (λ input at. and_then (item_at input at) (λ item at'. and_then (op_at input at') (λ o next. Some (Perform item o, next))))
    (reads_made_two ItemFits item_encoding item_at OpFits op_encoding op_at (λ item o. Perform item o) (IsRequest shape tag) (request_fields shape) reads_items reads_ops
    (λ item o f g. (sym (eqb-true tag 2 t), (f, g))) (λ item o f g. refl) (λ r h. tag_2 shape r (h.0 ∙ eqb-true tag 2 t) h.1))) (λ n2.
    reads_either (tag == 3) (IsRequest shape tag) (request_fields shape) _ _ (λ t. bare 3 CommitCausal t refl refl tt tag_3) (λ n3.
    reads_either (tag == 4) (IsRequest shape tag) (request_fields shape) _ _ (λ t. bare 4 CommitStrong t refl refl tt tag_4) (λ n4.
    reads_either (tag == 5) (IsRequest shape tag) (request_fields shape) _ _ (λ t. bare 5 Abandon t refl refl tt tag_5) (λ n5.
    reads_either (tag == 6) (IsRequest shape tag) (request_fields shape) _ _ (λ t. bare 6 Barrier t refl refl tt tag_6) (λ n6.
    reads_either (tag == 7) (IsRequest shape tag) (request_fields shape) _ _ (λ t. bare 7 AskToken t refl refl tt tag_7) (λ n7.
    reads_either (tag == 8) (IsRequest shape tag) (request_fields shape) _ _ (λ t.
    on (IsRequest shape tag) (request_fields shape) (λ input at. and_then (token_at shape input at) (λ token next. Some (Attach token, next)))
    (reads_made (TokenFits shape) (token_encoding shape) (token_at shape) (λ token. Attach token) (IsRequest shape tag) (request_fields shape) (reads_tokens shape is_shape)
    (λ token f. (sym (eqb-true tag 8 t), f)) (λ token f. refl) (λ r h. tag_8 shape r (h.0 ∙ eqb-true tag 8 t) h.1))) (λ n8.
    reads_none (IsRequest shape tag) (request_fields shape) (λ r h. none r h n1 n2 n3 n4 n5 n6 n7 n8)))))))))
  where
    bare : (k : ℕ) (c : Request) → (tag == k) ≡ true → request_tag c ≡ k → request_fields shape c ≡ [] → RequestFits shape c → ((r : Request) → request_tag r ≡ k → c ≡ r) → IsCodecWithin (IsRequest shape tag) (request_fields shape) (λ input at. Some (c, at))
    bare k c test is empty fits only =
        let same : tag ≡ k = eqb-true tag k test in
        reads_nothing c (IsRequest shape tag) (request_fields shape) (λ r h. only r (h.0 ∙ same)) (is ∙ sym same, fits) empty

    none : (r : Request) → IsRequest shape tag r → (tag == 1) ≡ false → (tag == 2) ≡ false → (tag == 3) ≡ false → (tag == 4) ≡ false → (tag == 5) ≡ false → (tag == 6) ≡ false → (tag == 7) ≡ false → (tag == 8) ≡ false → ⊥
    none Begin h n1 n2 n3 n4 n5 n6 n7 n8 = unlike tag 1 n1 h.0
    none (Perform item o) h n1 n2 n3 n4 n5 n6 n7 n8 = unlike tag 2 n2 h.0
    none CommitCausal h n1 n2 n3 n4 n5 n6 n7 n8 = unlike tag 3 n3 h.0
    none CommitStrong h n1 n2 n3 n4 n5 n6 n7 n8 = unlike tag 4 n4 h.0
    none Abandon h n1 n2 n3 n4 n5 n6 n7 n8 = unlike tag 5 n5 h.0
    none Barrier h n1 n2 n3 n4 n5 n6 n7 n8 = unlike tag 6 n6 h.0
    none AskToken h n1 n2 n3 n4 n5 n6 n7 n8 = unlike tag 7 n7 h.0
    none (Attach token) h n1 n2 n3 n4 n5 n6 n7 n8 = unlike tag 8 n8 h.0

request_tag-byte : (r : Request) → request_tag r ≤ 255
request_tag-byte Begin = omega arith
request_tag-byte (Perform item o) = omega arith
request_tag-byte CommitCausal = omega arith
request_tag-byte CommitStrong = omega arith
request_tag-byte Abandon = omega arith
request_tag-byte Barrier = omega arith
request_tag-byte AskToken = omega arith
request_tag-byte (Attach token) = omega arith

op_fields-short : (o : Op) → OpFits o → length (op_fields o) ≤ 1026
op_fields-short op.RegisterRead f = omega arith
op_fields-short (op.RegisterWrite bytes) f = omega arith
op_fields-short op.CounterRead f = omega arith
op_fields-short (op.CounterAdd amount) f = omega arith
op_fields-short op.SetMembers f = omega arith
op_fields-short (op.SetContains bytes) f = omega arith
op_fields-short (op.SetAdd bytes) f = omega arith
op_fields-short (op.SetRemove bytes) f = omega arith
op_fields-short op.FlagRead f = omega arith
op_fields-short op.FlagEnable f = omega arith
op_fields-short op.FlagDisable f = omega arith
op_fields-short op.MultiRead f = omega arith
op_fields-short (op.MultiWrite bytes) f = omega arith

-- no request is longer than a length field can tell
pub request-short : (shape : Shape) → IsShape shape → (r : Request) → RequestFits shape r → IsShort (request_fields shape r)
request-short shape is Begin f = record { short = omega arith }
request-short shape is (Perform item o) f = record { short = omega (arith, length-append item.id (op_encoding o), op_fields-short o f.1, f.0.id.last) }
request-short shape is CommitCausal f = record { short = omega arith }
request-short shape is CommitStrong f = record { short = omega arith }
request-short shape is Abandon f = record { short = omega arith }
request-short shape is Barrier f = record { short = omega arith }
request-short shape is AskToken f = record { short = omega arith }
request-short shape is (Attach token) f = record { short = omega (arith, token_encoding-short shape token is f) }

pub reads_requests : ReadsRequests
unfolding request_encoding request_of
reads_requests shape is =
    reads_frames request_tag (RequestFits shape) (RequestFits shape) (request_fields shape) (request_fields_at shape)
    (reads_tagged request_tag (RequestFits shape) (request_fields shape) (request_fields_at shape) request_tag-byte (reads_request_fields shape is))
    (λ r short f. f) (λ r f. (f, request-short shape is r f))
