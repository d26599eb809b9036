-- Messages: the tag and the fields of each, which have an encoding, and which stands at a place.
use Rattle.std.specs.Prelude.{◌≡◌, ℕ, ◌≤◌, ◌==◌, nat_lt, List, ◌∷◌, ◌++◌, true, None, if◌then◌else◌}
use Rattle.std.specs.Int.{to_be_bytes, w8, w64}
use Rattle.us_kind.specs.declared.identity.Tid.{Tid}
use Rattle.us_base.specs.declared.shape.Shape.{Shape}
use Rattle.us_base.specs.Shape.{sites_of}
use Rattle.us_wire.specs.Fields.{number_at}
use Rattle.us_wire.specs.Decoders.{Decoder, if_passes, number_between_at, largest_number}
use Rattle.us_migrate.specs.Encodings.{tid_encoding, vector_encoding, IsOneOf, TidFits, VectorFits}
use Rattle.us_migrate.specs.Decoders.{tid_at, vector_at}
use Rattle.us_value.specs.declared.item.Write.{Write}
use Rattle.us_fields.specs.Fields.{item_encoding, ItemFits, op_encoding, OpFits}
use Rattle.us_fields.specs.FieldDecoders.{item_at, op_at}
use Rattle.us_fields.specs.Lists.{both_at, made_at, list_encoding, ListFits, list_at, longest_list, is_in_order}
use Rattle.us_fields.specs.Effects.{writes_encoding, WritesFit, writes_at}
use Rattle.us_peer_wire.specs.declared.message.Message.{Message}
use Rattle.us_peer_wire.specs.declared.message.Message.TheVariants as message
use Rattle.us_fields.specs.Tuples.{own_encoding, OwnFits, own_at, committed_encoding, CommittedFits, committed_at, committed_before}
use Rattle.us_peer_wire.specs.Parts.{form_encoding, FormFits, form_at, entry_encoding, EntryFits, entry_at, page_encoding, PageFits, page_at, end_encoding}
use Rattle.us_peer_wire.specs.Parts.{EndFits, end_at}

-- which message it is
abbrev pub message_tag : Message → ℕ
message_tag (message.Get tid place at snapshot item op own) = 1
message_tag (message.Version version) = 2
message_tag (message.Prepare tid snapshot writes) = 3
message_tag (message.Prepared tid ts) = 4
message_tag (message.Commit tid vector) = 5
message_tag (message.Replicate origin lo hi txs) = 6
message_tag (message.KnownLocal known horizon) = 7
message_tag (message.Stable vector) = 8
message_tag (message.KnownGlobal vector) = 9
message_tag (message.Submit entry) = 10
message_tag (message.Outcome outcome) = 11
message_tag (message.Deliver first pages) = 12
message_tag (message.NewBallot ballot) = 13
message_tag (message.Promise ballot accepted base tail) = 14
message_tag (message.NewState ballot base tail) = 15
message_tag (message.Accept ballot slot entry) = 16
message_tag (message.Accepted ballot length) = 17
message_tag (message.CatchUp length) = 18
message_tag (message.Learn first entries) = 19

-- a number of eight bytes
abbrev pub number : ℕ → List ℕ
number = to_be_bytes w64

-- no packet holds more slots, or replicates more transactions
abbrev pub most_slots : ℕ
most_slots = 8

abbrev pub message_fields : Shape → Message → List ℕ
message_fields shape (message.Get tid place at snapshot item op own) =
    tid_encoding tid
    ++ (place ∷ (number at ++ (vector_encoding shape snapshot ++ (item_encoding item ++ (op_encoding op ++ list_encoding own_encoding own)))))
message_fields shape (message.Version version) = tid_encoding version.tid ++ (version.place ∷ (number version.at ++ form_encoding version.form))
message_fields shape (message.Prepare tid snapshot writes) = tid_encoding tid ++ (vector_encoding shape snapshot ++ writes_encoding writes)
message_fields shape (message.Prepared tid ts) = tid_encoding tid ++ number ts
message_fields shape (message.Commit tid vector) = tid_encoding tid ++ vector_encoding shape vector
message_fields shape (message.Replicate origin lo hi txs) = origin ∷ (number lo ++ (number hi ++ list_encoding (committed_encoding shape) txs))
message_fields shape (message.KnownLocal known horizon) = vector_encoding shape known ++ vector_encoding shape horizon
message_fields shape (message.Stable vector) = vector_encoding shape vector
message_fields shape (message.KnownGlobal vector) = vector_encoding shape vector
message_fields shape (message.Submit entry) = entry_encoding shape entry
message_fields shape (message.Outcome outcome) = tid_encoding outcome.tid ++ (number outcome.slot ++ end_encoding outcome.end)
message_fields shape (message.Deliver first pages) = number first ++ list_encoding (page_encoding shape) pages
message_fields shape (message.NewBallot ballot) = number ballot
message_fields shape (message.Promise ballot accepted base tail) = number ballot
    ++ (number accepted ++ (number base ++ list_encoding (entry_encoding shape) tail))
message_fields shape (message.NewState ballot base tail) = number ballot ++ (number base ++ list_encoding (entry_encoding shape) tail)
message_fields shape (message.Accept ballot slot entry) = number ballot ++ (number slot ++ entry_encoding shape entry)
message_fields shape (message.Accepted ballot length) = number ballot ++ number length
message_fields shape (message.CatchUp length) = number length
message_fields shape (message.Learn first entries) = number first ++ list_encoding (entry_encoding shape) entries

-- ---- what has an encoding

-- numbers are at most 2^62
abbrev pub IsNumber : ℕ → Type 0
IsNumber n = n ≤ largest_number

-- at most eight committed transactions, ascending by the origin's entry
abbrev pub BatchFits : Shape → ℕ → List (Tid × List ℕ × List Write) → Type 0
BatchFits shape origin txs = ListFits 0 most_slots (CommittedFits shape) txs × (is_in_order (committed_before origin) txs ≡ true)

-- a message that has an encoding in a store of this shape
abbrev pub MessageFits : Shape → Message → Type 0
MessageFits shape (message.Get tid place at snapshot item op own) =
    TidFits shape tid
    × ((place ≤ 255) × (IsNumber at × (VectorFits shape snapshot × (ItemFits item × (OpFits op × ListFits 0 longest_list (OwnFits shape) own)))))
MessageFits shape (message.Version version) = TidFits shape version.tid × ((version.place ≤ 255) × (IsNumber version.at × FormFits shape version.form))
MessageFits shape (message.Prepare tid snapshot writes) = TidFits shape tid × (VectorFits shape snapshot × WritesFit shape writes)
MessageFits shape (message.Prepared tid ts) = TidFits shape tid × IsNumber ts
MessageFits shape (message.Commit tid vector) = TidFits shape tid × VectorFits shape vector
MessageFits shape (message.Replicate origin lo hi txs) = IsOneOf (sites_of shape) origin × (IsNumber lo × (IsNumber hi × BatchFits shape origin txs))
MessageFits shape (message.KnownLocal known horizon) = VectorFits shape known × VectorFits shape horizon
MessageFits shape (message.Stable vector) = VectorFits shape vector
MessageFits shape (message.KnownGlobal vector) = VectorFits shape vector
MessageFits shape (message.Submit entry) = EntryFits shape entry
MessageFits shape (message.Outcome outcome) = TidFits shape outcome.tid × (IsNumber outcome.slot × EndFits shape outcome.end)
MessageFits shape (message.Deliver first pages) = IsNumber first × ListFits 1 most_slots (PageFits shape) pages
MessageFits shape (message.NewBallot ballot) = IsNumber ballot
MessageFits shape (message.Promise ballot accepted base tail) = IsNumber ballot
    × (IsNumber accepted × (IsNumber base × ListFits 0 most_slots (EntryFits shape) tail))
MessageFits shape (message.NewState ballot base tail) = IsNumber ballot × (IsNumber base × ListFits 0 most_slots (EntryFits shape) tail)
MessageFits shape (message.Accept ballot slot entry) = IsNumber ballot × (IsNumber slot × EntryFits shape entry)
MessageFits shape (message.Accepted ballot length) = IsNumber ballot × IsNumber length
MessageFits shape (message.CatchUp length) = IsNumber length
MessageFits shape (message.Learn first entries) = IsNumber first × ListFits 1 most_slots (EntryFits shape) entries

-- ---- what stands at a place

abbrev pub a_number : Decoder ℕ
a_number = number_between_at w64 0 largest_number

unfoldable pub get_at : Shape → Decoder Message
get_at shape =
    made_at (λ p. message.Get p.0 p.1.0 p.1.1.0 p.1.1.1.0 p.1.1.1.1.0 p.1.1.1.1.1.0 p.1.1.1.1.1.1)
    (both_at (tid_at shape) (both_at (number_at w8) (both_at a_number (both_at (vector_at shape)
    (both_at item_at (both_at op_at (list_at 0 longest_list (own_at shape))))))))

unfoldable pub version_at : Shape → Decoder Message
version_at shape =
    made_at (λ p. message.Version (record { tid = p.0; place = p.1.0; at = p.1.1.0; form = p.1.1.1 }))
    (both_at (tid_at shape) (both_at (number_at w8) (both_at a_number (form_at shape))))

unfoldable pub prepare_at : Shape → Decoder Message
prepare_at shape = made_at (λ p. message.Prepare p.0 p.1.0 p.1.1) (both_at (tid_at shape) (both_at (vector_at shape) (writes_at shape)))

unfoldable pub prepared_at : Shape → Decoder Message
prepared_at shape = made_at (λ p. message.Prepared p.0 p.1) (both_at (tid_at shape) a_number)

unfoldable pub commit_at : Shape → Decoder Message
commit_at shape = made_at (λ p. message.Commit p.0 p.1) (both_at (tid_at shape) (vector_at shape))

unfoldable pub replicate_at : Shape → Decoder Message
replicate_at shape input at =
    made_at (λ p. message.Replicate p.0 p.1.0 p.1.1.0 p.1.1.1)
    (λ input at. if_passes (λ p. is_in_order (committed_before p.0) p.1.1.1)
    (both_at (number_between_at w8 1 (sites_of shape)) (both_at a_number (both_at a_number (list_at 0 most_slots (committed_at shape)))) input at)) input at

unfoldable pub known_local_at : Shape → Decoder Message
known_local_at shape = made_at (λ p. message.KnownLocal p.0 p.1) (both_at (vector_at shape) (vector_at shape))

unfoldable pub outcome_at : Shape → Decoder Message
outcome_at shape =
    made_at (λ p. message.Outcome (record { tid = p.0; slot = p.1.0; end = p.1.1 })) (both_at (tid_at shape) (both_at a_number (end_at shape)))

unfoldable pub deliver_at : Shape → Decoder Message
deliver_at shape = made_at (λ p. message.Deliver p.0 p.1) (both_at a_number (list_at 1 most_slots (page_at shape)))

unfoldable pub promise_at : Shape → Decoder Message
promise_at shape =
    made_at (λ p. message.Promise p.0 p.1.0 p.1.1.0 p.1.1.1) (both_at a_number (both_at a_number (both_at a_number (list_at 0 most_slots (entry_at shape)))))

unfoldable pub new_state_at : Shape → Decoder Message
new_state_at shape = made_at (λ p. message.NewState p.0 p.1.0 p.1.1) (both_at a_number (both_at a_number (list_at 0 most_slots (entry_at shape))))

unfoldable pub accept_at : Shape → Decoder Message
accept_at shape = made_at (λ p. message.Accept p.0 p.1.0 p.1.1) (both_at a_number (both_at a_number (entry_at shape)))

unfoldable pub accepted_at : Decoder Message
accepted_at = made_at (λ p. message.Accepted p.0 p.1) (both_at a_number a_number)

unfoldable pub learn_at : Shape → Decoder Message
learn_at shape = made_at (λ p. message.Learn p.0 p.1) (both_at a_number (list_at 1 most_slots (entry_at shape)))

-- the fields of the message with this tag, up to the tenth and from the eleventh
unfoldable pub early_fields_at : Shape → ℕ → Decoder Message
early_fields_at shape tag input at =
    if tag == 1 then get_at shape input at
    else if tag == 2 then version_at shape input at
    else if tag == 3 then prepare_at shape input at
    else if tag == 4 then prepared_at shape input at
    else if tag == 5 then commit_at shape input at
    else if tag == 6 then replicate_at shape input at
    else if tag == 7 then known_local_at shape input at
    else if tag == 8 then made_at (λ vector. message.Stable vector) (vector_at shape) input at
    else if tag == 9 then made_at (λ vector. message.KnownGlobal vector) (vector_at shape) input at
    else None

unfoldable pub late_fields_at : Shape → ℕ → Decoder Message
late_fields_at shape tag input at =
    if tag == 10 then made_at (λ entry. message.Submit entry) (entry_at shape) input at
    else if tag == 11 then outcome_at shape input at
    else if tag == 12 then deliver_at shape input at
    else if tag == 13 then made_at (λ ballot. message.NewBallot ballot) a_number input at
    else if tag == 14 then promise_at shape input at
    else if tag == 15 then new_state_at shape input at
    else if tag == 16 then accept_at shape input at
    else if tag == 17 then accepted_at input at
    else if tag == 18 then made_at (λ length. message.CatchUp length) a_number input at
    else if tag == 19 then learn_at shape input at
    else None

unfoldable pub message_fields_at : Shape → ℕ → Decoder Message
message_fields_at shape tag input at = if nat_lt tag 10 then early_fields_at shape tag input at else late_fields_at shape tag input at
