-- Messages are read as they are encoded.
use Rattle.std.proofs.Common.{◌≡◌, ℕ, zero, suc, ◌≤◌, ◌<◌, true, List, [], ◌∷◌, refl, arith}
use Rattle.std.specs.Prelude.{nat_lt}
use Rattle.std.specs.Int.{w8}
use Rattle.std.proofs.lemmas.Bool.Decides.{nat_tests}
use Rattle.us_kind.specs.declared.identity.Tid.{Tid}
use Rattle.us_base.specs.declared.shape.Shape.{Shape}
use Rattle.us_base.specs.Shape.{IsShape, sites_of}
use Rattle.us_wire.specs.Fields.{number_at}
use Rattle.us_wire.specs.Decoders.{Decoder, number_between_at, IsCodecWithin}
use Rattle.us_wire.proofs.Combined.{reads_either, reads_passing}
use Rattle.us_migrate.specs.Encodings.{tid_encoding, vector_encoding, IsOneOf, TidFits, VectorFits}
use Rattle.us_migrate.specs.Decoders.{tid_at, vector_at}
use Rattle.us_migrate.proofs.Encoded.{reads_tids, reads_vectors}
use Rattle.us_value.specs.declared.item.Item.{Item}
use Rattle.us_value.specs.declared.item.Write.{Write}
use Rattle.us_value.specs.declared.operation.Effect.{Effect}
use Rattle.us_value.specs.declared.operation.Op.{Op}
use Rattle.us_fields.specs.Fields.{item_encoding, ItemFits, op_encoding, OpFits}
use Rattle.us_fields.specs.FieldDecoders.{item_at, op_at}
use Rattle.us_fields.specs.Lists.{both_at, made_at, list_encoding, ListFits, list_at, longest_list, is_in_order}
use Rattle.us_fields.specs.Effects.{writes_encoding, WritesFit, writes_at}
use Rattle.us_fields.proofs.FieldLaws.{reads_items, reads_ops}
use Rattle.us_fields.proofs.ListLaws.{reads_bytes, reads_number, reads_both, reads_next, reads_case, reads_no_code, reads_lists}
use Rattle.us_fields.proofs.EffectLaws.{reads_writes}
use Rattle.us_peer_wire.specs.declared.message.Form.{Form}
use Rattle.us_peer_wire.specs.declared.message.LogEntry.{LogEntry}
use Rattle.us_peer_wire.specs.declared.message.Message.{Message}
use Rattle.us_peer_wire.specs.declared.message.Message.TheVariants as message
use Rattle.us_peer_wire.specs.declared.message.OutcomeEnd.{OutcomeEnd}
use Rattle.us_peer_wire.specs.declared.message.Page.{Page}
use Rattle.us_fields.specs.Tuples.{own_encoding, OwnFits, own_at, committed_encoding, CommittedFits, committed_at, committed_before}
use Rattle.us_peer_wire.specs.Parts.{form_encoding, FormFits, form_at, entry_encoding, EntryFits, entry_at, page_encoding, PageFits, page_at, end_encoding, EndFits, end_at}
use Rattle.us_peer_wire.specs.Messages.{message_tag, number, most_slots, message_fields, IsNumber, MessageFits, a_number, get_at, version_at, prepare_at, prepared_at, commit_at, replicate_at, known_local_at, outcome_at, deliver_at, promise_at, new_state_at, accept_at, accepted_at, learn_at, early_fields_at, late_fields_at, message_fields_at}
use Rattle.us_peer_wire.proofs.PartLaws.{reads_sites, reads_own, reads_forms, reads_entries, reads_committed, reads_pages, reads_ends}

-- a message with this tag, that has an encoding
abbrev IsMessage : Shape → ℕ → Message → Type 0
IsMessage shape n m = (message_tag m ≡ n) × MessageFits shape m

-- what each tag's decoder is to the encoding of its messages
abbrev ReadsTag : Shape → ℕ → Decoder Message → Type 0
ReadsTag shape n read = IsCodecWithin (IsMessage shape n) (message_fields shape) read

from_get : (shape : Shape) (m : Message) → message_tag m ≡ 1 → MessageFits shape m → (p : Tid × (ℕ × (ℕ × (List ℕ × (Item × (Op × (List (ℕ × Effect)))))))) × (message.Get p.0 p.1.0 p.1.1.0 p.1.1.1.0 p.1.1.1.1.0 p.1.1.1.1.1.0 p.1.1.1.1.1.1 ≡ m) × (TidFits shape p.0 × ((p.1.0 ≤ 255) × (IsNumber p.1.1.0 × (VectorFits shape p.1.1.1.0 × (ItemFits p.1.1.1.1.0 × (OpFits p.1.1.1.1.1.0 × ListFits 0 longest_list (OwnFits shape) p.1.1.1.1.1.1))))))
from_get shape (message.Get tid place at snapshot item op own) e f = ((tid, (place, (at, (snapshot, (item, (op, own)))))), refl, f)
from_get shape _ e f = absurd (omega (arith, e))

reads_get : (shape : Shape) → IsShape shape → (n : ℕ) → n ≡ 1 → ReadsTag shape n (get_at shape)
unfolding get_at
reads_get shape is n e =
    reads_case message_tag (MessageFits shape) (message_fields shape) n 1 _ _ (both_at (tid_at shape) (both_at (number_at w8) (both_at a_number (both_at (vector_at shape) (both_at item_at (both_at op_at (list_at 0 longest_list (own_at shape)))))))) (λ (p : Tid × (ℕ × (ℕ × (List ℕ × (Item × (Op × (List (ℕ × Effect)))))))). message.Get p.0 p.1.0 p.1.1.0 p.1.1.1.0 p.1.1.1.1.0 p.1.1.1.1.1.0 p.1.1.1.1.1.1) e
    (reads_both (TidFits shape) tid_encoding (tid_at shape) _ _ (both_at (number_at w8) (both_at a_number (both_at (vector_at shape) (both_at item_at (both_at op_at (list_at 0 longest_list (own_at shape))))))) (reads_tids shape is)
    (reads_both (λ n. n ≤ 255) (λ n. n ∷ []) (number_at w8) _ _ (both_at a_number (both_at (vector_at shape) (both_at item_at (both_at op_at (list_at 0 longest_list (own_at shape)))))) reads_bytes
    (reads_both IsNumber number a_number _ _ (both_at (vector_at shape) (both_at item_at (both_at op_at (list_at 0 longest_list (own_at shape))))) reads_number
    (reads_both (VectorFits shape) (vector_encoding shape) (vector_at shape) _ _ (both_at item_at (both_at op_at (list_at 0 longest_list (own_at shape)))) (reads_vectors shape is)
    (reads_both ItemFits item_encoding item_at _ _ (both_at op_at (list_at 0 longest_list (own_at shape))) reads_items
    (reads_both OpFits op_encoding op_at (ListFits 0 longest_list (OwnFits shape)) (list_encoding own_encoding) (list_at 0 longest_list (own_at shape)) reads_ops (reads_lists (OwnFits shape) own_encoding (own_at shape) 0 longest_list (omega arith) (reads_own shape is))))))))
    (λ a f. (refl, f)) (λ a f. refl) (from_get shape)

from_version : (shape : Shape) (m : Message) → message_tag m ≡ 2 → MessageFits shape m → (p : Tid × (ℕ × (ℕ × Form))) × (message.Version (record { tid = p.0; place = p.1.0; at = p.1.1.0; form = p.1.1.1 }) ≡ m) × (TidFits shape p.0 × ((p.1.0 ≤ 255) × (IsNumber p.1.1.0 × FormFits shape p.1.1.1)))
from_version shape (message.Version version) e f = ((version.tid, (version.place, (version.at, version.form))), refl, f)
from_version shape _ e f = absurd (omega (arith, e))

reads_version : (shape : Shape) → IsShape shape → (n : ℕ) → n ≡ 2 → ReadsTag shape n (version_at shape)
unfolding version_at
reads_version shape is n e =
    reads_case message_tag (MessageFits shape) (message_fields shape) n 2 _ _ (both_at (tid_at shape) (both_at (number_at w8) (both_at a_number (form_at shape)))) (λ (p : Tid × (ℕ × (ℕ × Form))). message.Version (record { tid = p.0; place = p.1.0; at = p.1.1.0; form = p.1.1.1 })) e
    (reads_both (TidFits shape) tid_encoding (tid_at shape) _ _ (both_at (number_at w8) (both_at a_number (form_at shape))) (reads_tids shape is)
    (reads_both (λ n. n ≤ 255) (λ n. n ∷ []) (number_at w8) _ _ (both_at a_number (form_at shape)) reads_bytes
    (reads_both IsNumber number a_number (FormFits shape) form_encoding (form_at shape) reads_number (reads_forms shape is))))
    (λ a f. (refl, f)) (λ a f. refl) (from_version shape)

from_prepare : (shape : Shape) (m : Message) → message_tag m ≡ 3 → MessageFits shape m → (p : Tid × (List ℕ × List Write)) × (message.Prepare p.0 p.1.0 p.1.1 ≡ m) × (TidFits shape p.0 × (VectorFits shape p.1.0 × WritesFit shape p.1.1))
from_prepare shape (message.Prepare tid snapshot writes) e f = ((tid, (snapshot, writes)), refl, f)
from_prepare shape _ e f = absurd (omega (arith, e))

reads_prepare : (shape : Shape) → IsShape shape → (n : ℕ) → n ≡ 3 → ReadsTag shape n (prepare_at shape)
unfolding prepare_at
reads_prepare shape is n e =
    reads_case message_tag (MessageFits shape) (message_fields shape) n 3 _ _ (both_at (tid_at shape) (both_at (vector_at shape) (writes_at shape))) (λ (p : Tid × (List ℕ × List Write)). message.Prepare p.0 p.1.0 p.1.1) e
    (reads_both (TidFits shape) tid_encoding (tid_at shape) _ _ (both_at (vector_at shape) (writes_at shape)) (reads_tids shape is)
    (reads_both (VectorFits shape) (vector_encoding shape) (vector_at shape) (WritesFit shape) writes_encoding (writes_at shape) (reads_vectors shape is) (reads_writes shape is)))
    (λ a f. (refl, f)) (λ a f. refl) (from_prepare shape)

from_prepared : (shape : Shape) (m : Message) → message_tag m ≡ 4 → MessageFits shape m → (p : Tid × ℕ) × (message.Prepared p.0 p.1 ≡ m) × (TidFits shape p.0 × IsNumber p.1)
from_prepared shape (message.Prepared tid ts) e f = ((tid, ts), refl, f)
from_prepared shape _ e f = absurd (omega (arith, e))

reads_prepared : (shape : Shape) → IsShape shape → (n : ℕ) → n ≡ 4 → ReadsTag shape n (prepared_at shape)
unfolding prepared_at
reads_prepared shape is n e =
    reads_case message_tag (MessageFits shape) (message_fields shape) n 4 _ _ (both_at (tid_at shape) a_number) (λ (p : Tid × ℕ). message.Prepared p.0 p.1) e
    (reads_both (TidFits shape) tid_encoding (tid_at shape) IsNumber number a_number (reads_tids shape is) reads_number)
    (λ a f. (refl, f)) (λ a f. refl) (from_prepared shape)

from_commit : (shape : Shape) (m : Message) → message_tag m ≡ 5 → MessageFits shape m → (p : Tid × List ℕ) × (message.Commit p.0 p.1 ≡ m) × (TidFits shape p.0 × VectorFits shape p.1)
from_commit shape (message.Commit tid vector) e f = ((tid, vector), refl, f)
from_commit shape _ e f = absurd (omega (arith, e))

reads_commit : (shape : Shape) → IsShape shape → (n : ℕ) → n ≡ 5 → ReadsTag shape n (commit_at shape)
unfolding commit_at
reads_commit shape is n e =
    reads_case message_tag (MessageFits shape) (message_fields shape) n 5 _ _ (both_at (tid_at shape) (vector_at shape)) (λ (p : Tid × List ℕ). message.Commit p.0 p.1) e
    (reads_both (TidFits shape) tid_encoding (tid_at shape) (VectorFits shape) (vector_encoding shape) (vector_at shape) (reads_tids shape is) (reads_vectors shape is))
    (λ a f. (refl, f)) (λ a f. refl) (from_commit shape)

from_replicate : (shape : Shape) (m : Message) → message_tag m ≡ 6 → MessageFits shape m → (p : ℕ × (ℕ × (ℕ × (List (Tid × List ℕ × List Write))))) × (message.Replicate p.0 p.1.0 p.1.1.0 p.1.1.1 ≡ m) × ((IsOneOf (sites_of shape) p.0 × (IsNumber p.1.0 × (IsNumber p.1.1.0 × ListFits 0 most_slots (CommittedFits shape) p.1.1.1))) × (is_in_order (committed_before p.0) p.1.1.1 ≡ true))
from_replicate shape (message.Replicate origin lo hi txs) e f = ((origin, (lo, (hi, txs))), refl, ((f.0, (f.1.0, (f.1.1.0, f.1.1.1.0))), f.1.1.1.1))
from_replicate shape _ e f = absurd (omega (arith, e))

reads_replicate : (shape : Shape) → IsShape shape → (n : ℕ) → n ≡ 6 → ReadsTag shape n (replicate_at shape)
unfolding replicate_at
reads_replicate shape is n e =
    let Fields : ℕ × (ℕ × (ℕ × (List (Tid × List ℕ × List Write)))) → Type 0 = λ p. IsOneOf (sites_of shape) p.0 × (IsNumber p.1.0 × (IsNumber p.1.1.0 × ListFits 0 most_slots (CommittedFits shape) p.1.1.1)) in
    let fields : Decoder (ℕ × (ℕ × (ℕ × (List (Tid × List ℕ × List Write))))) = both_at (number_between_at w8 1 (sites_of shape)) (both_at a_number (both_at a_number (list_at 0 most_slots (committed_at shape)))) in
    let Ordered : ℕ × (ℕ × (ℕ × (List (Tid × List ℕ × List Write)))) → Type 0 = λ p. is_in_order (committed_before p.0) p.1.1.1 ≡ true in
    reads_case message_tag (MessageFits shape) (message_fields shape) n 6 _ _ _ (λ (p : ℕ × (ℕ × (ℕ × (List (Tid × List ℕ × List Write))))). message.Replicate p.0 p.1.0 p.1.1.0 p.1.1.1) e
    (reads_passing Fields _ fields (λ p. is_in_order (committed_before p.0) p.1.1.1) Ordered
    (reads_both (IsOneOf (sites_of shape)) (λ n. n ∷ []) (number_between_at w8 1 (sites_of shape)) _ _ (both_at a_number (both_at a_number (list_at 0 most_slots (committed_at shape)))) (reads_sites shape is)
    (reads_both IsNumber number a_number _ _ (both_at a_number (list_at 0 most_slots (committed_at shape))) reads_number
    (reads_both IsNumber number a_number (ListFits 0 most_slots (CommittedFits shape)) (list_encoding (committed_encoding shape)) (list_at 0 most_slots (committed_at shape)) reads_number (reads_lists (CommittedFits shape) (committed_encoding shape) (committed_at shape) 0 most_slots (omega arith) (reads_committed shape is)))))
    (λ p t. t) (λ p t. t))
    (λ a f. (refl, (f.0.0, (f.0.1.0, (f.0.1.1.0, (f.0.1.1.1, f.1)))))) (λ a f. refl) (from_replicate shape)

from_known_local : (shape : Shape) (m : Message) → message_tag m ≡ 7 → MessageFits shape m → (p : List ℕ × List ℕ) × (message.KnownLocal p.0 p.1 ≡ m) × (VectorFits shape p.0 × VectorFits shape p.1)
from_known_local shape (message.KnownLocal known horizon) e f = ((known, horizon), refl, f)
from_known_local shape _ e f = absurd (omega (arith, e))

reads_known_local : (shape : Shape) → IsShape shape → (n : ℕ) → n ≡ 7 → ReadsTag shape n (known_local_at shape)
unfolding known_local_at
reads_known_local shape is n e =
    reads_case message_tag (MessageFits shape) (message_fields shape) n 7 _ _ (both_at (vector_at shape) (vector_at shape)) (λ (p : List ℕ × List ℕ). message.KnownLocal p.0 p.1) e
    (reads_both (VectorFits shape) (vector_encoding shape) (vector_at shape) (VectorFits shape) (vector_encoding shape) (vector_at shape) (reads_vectors shape is) (reads_vectors shape is))
    (λ a f. (refl, f)) (λ a f. refl) (from_known_local shape)

from_stable : (shape : Shape) (m : Message) → message_tag m ≡ 8 → MessageFits shape m → (p : List ℕ) × (message.Stable p ≡ m) × (VectorFits shape p)
from_stable shape (message.Stable vector) e f = (vector, refl, f)
from_stable shape _ e f = absurd (omega (arith, e))

reads_stable : (shape : Shape) → IsShape shape → (n : ℕ) → n ≡ 8 → ReadsTag shape n (made_at (λ p. message.Stable p) (vector_at shape))
reads_stable shape is n e =
    reads_case message_tag (MessageFits shape) (message_fields shape) n 8 (VectorFits shape) (vector_encoding shape) (vector_at shape) (λ (p : List ℕ). message.Stable p) e (reads_vectors shape is) (λ a f. (refl, f)) (λ a f. refl) (from_stable shape)

from_known_global : (shape : Shape) (m : Message) → message_tag m ≡ 9 → MessageFits shape m → (p : List ℕ) × (message.KnownGlobal p ≡ m) × (VectorFits shape p)
from_known_global shape (message.KnownGlobal vector) e f = (vector, refl, f)
from_known_global shape _ e f = absurd (omega (arith, e))

reads_known_global : (shape : Shape) → IsShape shape → (n : ℕ) → n ≡ 9 → ReadsTag shape n (made_at (λ p. message.KnownGlobal p) (vector_at shape))
reads_known_global shape is n e =
    reads_case message_tag (MessageFits shape) (message_fields shape) n 9 (VectorFits shape) (vector_encoding shape) (vector_at shape) (λ (p : List ℕ). message.KnownGlobal p) e (reads_vectors shape is) (λ a f. (refl, f)) (λ a f. refl) (from_known_global shape)

from_submit : (shape : Shape) (m : Message) → message_tag m ≡ 10 → MessageFits shape m → (p : LogEntry) × (message.Submit p ≡ m) × (EntryFits shape p)
from_submit shape (message.Submit entry) e f = (entry, refl, f)
from_submit shape _ e f = absurd (omega (arith, e))

reads_submit : (shape : Shape) → IsShape shape → (n : ℕ) → n ≡ 10 → ReadsTag shape n (made_at (λ p. message.Submit p) (entry_at shape))
reads_submit shape is n e =
    reads_case message_tag (MessageFits shape) (message_fields shape) n 10 (EntryFits shape) (entry_encoding shape) (entry_at shape) (λ (p : LogEntry). message.Submit p) e (reads_entries shape is) (λ a f. (refl, f)) (λ a f. refl) (from_submit shape)

from_outcome : (shape : Shape) (m : Message) → message_tag m ≡ 11 → MessageFits shape m → (p : Tid × (ℕ × OutcomeEnd)) × (message.Outcome (record { tid = p.0; slot = p.1.0; end = p.1.1 }) ≡ m) × (TidFits shape p.0 × (IsNumber p.1.0 × EndFits shape p.1.1))
from_outcome shape (message.Outcome outcome) e f = ((outcome.tid, (outcome.slot, outcome.end)), refl, f)
from_outcome shape _ e f = absurd (omega (arith, e))

reads_outcome : (shape : Shape) → IsShape shape → (n : ℕ) → n ≡ 11 → ReadsTag shape n (outcome_at shape)
unfolding outcome_at
reads_outcome shape is n e =
    reads_case message_tag (MessageFits shape) (message_fields shape) n 11 _ _ (both_at (tid_at shape) (both_at a_number (end_at shape))) (λ (p : Tid × (ℕ × OutcomeEnd)). message.Outcome (record { tid = p.0; slot = p.1.0; end = p.1.1 })) e
    (reads_both (TidFits shape) tid_encoding (tid_at shape) _ _ (both_at a_number (end_at shape)) (reads_tids shape is)
    (reads_both IsNumber number a_number (EndFits shape) end_encoding (end_at shape) reads_number (reads_ends shape is)))
    (λ a f. (refl, f)) (λ a f. refl) (from_outcome shape)

from_deliver : (shape : Shape) (m : Message) → message_tag m ≡ 12 → MessageFits shape m → (p : ℕ × List Page) × (message.Deliver p.0 p.1 ≡ m) × (IsNumber p.0 × ListFits 1 most_slots (PageFits shape) p.1)
from_deliver shape (message.Deliver first pages) e f = ((first, pages), refl, f)
from_deliver shape _ e f = absurd (omega (arith, e))

reads_deliver : (shape : Shape) → IsShape shape → (n : ℕ) → n ≡ 12 → ReadsTag shape n (deliver_at shape)
unfolding deliver_at
reads_deliver shape is n e =
    reads_case message_tag (MessageFits shape) (message_fields shape) n 12 _ _ (both_at a_number (list_at 1 most_slots (page_at shape))) (λ (p : ℕ × List Page). message.Deliver p.0 p.1) e
    (reads_both IsNumber number a_number (ListFits 1 most_slots (PageFits shape)) (list_encoding (page_encoding shape)) (list_at 1 most_slots (page_at shape)) reads_number (reads_lists (PageFits shape) (page_encoding shape) (page_at shape) 1 most_slots (omega arith) (reads_pages shape is)))
    (λ a f. (refl, f)) (λ a f. refl) (from_deliver shape)

from_new_ballot : (shape : Shape) (m : Message) → message_tag m ≡ 13 → MessageFits shape m → (p : ℕ) × (message.NewBallot p ≡ m) × (IsNumber p)
from_new_ballot shape (message.NewBallot ballot) e f = (ballot, refl, f)
from_new_ballot shape _ e f = absurd (omega (arith, e))

reads_new_ballot : (shape : Shape) → IsShape shape → (n : ℕ) → n ≡ 13 → ReadsTag shape n (made_at (λ p. message.NewBallot p) a_number)
reads_new_ballot shape is n e =
    reads_case message_tag (MessageFits shape) (message_fields shape) n 13 IsNumber number a_number (λ (p : ℕ). message.NewBallot p) e (reads_number) (λ a f. (refl, f)) (λ a f. refl) (from_new_ballot shape)

from_promise : (shape : Shape) (m : Message) → message_tag m ≡ 14 → MessageFits shape m → (p : ℕ × (ℕ × (ℕ × List LogEntry))) × (message.Promise p.0 p.1.0 p.1.1.0 p.1.1.1 ≡ m) × (IsNumber p.0 × (IsNumber p.1.0 × (IsNumber p.1.1.0 × ListFits 0 most_slots (EntryFits shape) p.1.1.1)))
from_promise shape (message.Promise ballot accepted base tail) e f = ((ballot, (accepted, (base, tail))), refl, f)
from_promise shape _ e f = absurd (omega (arith, e))

reads_promise : (shape : Shape) → IsShape shape → (n : ℕ) → n ≡ 14 → ReadsTag shape n (promise_at shape)
unfolding promise_at
reads_promise shape is n e =
    reads_case message_tag (MessageFits shape) (message_fields shape) n 14 _ _ (both_at a_number (both_at a_number (both_at a_number (list_at 0 most_slots (entry_at shape))))) (λ (p : ℕ × (ℕ × (ℕ × List LogEntry))). message.Promise p.0 p.1.0 p.1.1.0 p.1.1.1) e
    (reads_both IsNumber number a_number _ _ (both_at a_number (both_at a_number (list_at 0 most_slots (entry_at shape)))) reads_number
    (reads_both IsNumber number a_number _ _ (both_at a_number (list_at 0 most_slots (entry_at shape))) reads_number
    (reads_both IsNumber number a_number (ListFits 0 most_slots (EntryFits shape)) (list_encoding (entry_encoding shape)) (list_at 0 most_slots (entry_at shape)) reads_number (reads_lists (EntryFits shape) (entry_encoding shape) (entry_at shape) 0 most_slots (omega arith) (reads_entries shape is)))))
    (λ a f. (refl, f)) (λ a f. refl) (from_promise shape)

from_new_state : (shape : Shape) (m : Message) → message_tag m ≡ 15 → MessageFits shape m → (p : ℕ × (ℕ × List LogEntry)) × (message.NewState p.0 p.1.0 p.1.1 ≡ m) × (IsNumber p.0 × (IsNumber p.1.0 × ListFits 0 most_slots (EntryFits shape) p.1.1))
from_new_state shape (message.NewState ballot base tail) e f = ((ballot, (base, tail)), refl, f)
from_new_state shape _ e f = absurd (omega (arith, e))

reads_new_state : (shape : Shape) → IsShape shape → (n : ℕ) → n ≡ 15 → ReadsTag shape n (new_state_at shape)
unfolding new_state_at
reads_new_state shape is n e =
    reads_case message_tag (MessageFits shape) (message_fields shape) n 15 _ _ (both_at a_number (both_at a_number (list_at 0 most_slots (entry_at shape)))) (λ (p : ℕ × (ℕ × List LogEntry)). message.NewState p.0 p.1.0 p.1.1) e
    (reads_both IsNumber number a_number _ _ (both_at a_number (list_at 0 most_slots (entry_at shape))) reads_number
    (reads_both IsNumber number a_number (ListFits 0 most_slots (EntryFits shape)) (list_encoding (entry_encoding shape)) (list_at 0 most_slots (entry_at shape)) reads_number (reads_lists (EntryFits shape) (entry_encoding shape) (entry_at shape) 0 most_slots (omega arith) (reads_entries shape is))))
    (λ a f. (refl, f)) (λ a f. refl) (from_new_state shape)

from_accept : (shape : Shape) (m : Message) → message_tag m ≡ 16 → MessageFits shape m → (p : ℕ × (ℕ × LogEntry)) × (message.Accept p.0 p.1.0 p.1.1 ≡ m) × (IsNumber p.0 × (IsNumber p.1.0 × EntryFits shape p.1.1))
from_accept shape (message.Accept ballot slot entry) e f = ((ballot, (slot, entry)), refl, f)
from_accept shape _ e f = absurd (omega (arith, e))

reads_accept : (shape : Shape) → IsShape shape → (n : ℕ) → n ≡ 16 → ReadsTag shape n (accept_at shape)
unfolding accept_at
reads_accept shape is n e =
    reads_case message_tag (MessageFits shape) (message_fields shape) n 16 _ _ (both_at a_number (both_at a_number (entry_at shape))) (λ (p : ℕ × (ℕ × LogEntry)). message.Accept p.0 p.1.0 p.1.1) e
    (reads_both IsNumber number a_number _ _ (both_at a_number (entry_at shape)) reads_number
    (reads_both IsNumber number a_number (EntryFits shape) (entry_encoding shape) (entry_at shape) reads_number (reads_entries shape is)))
    (λ a f. (refl, f)) (λ a f. refl) (from_accept shape)

from_accepted : (shape : Shape) (m : Message) → message_tag m ≡ 17 → MessageFits shape m → (p : ℕ × ℕ) × (message.Accepted p.0 p.1 ≡ m) × (IsNumber p.0 × IsNumber p.1)
from_accepted shape (message.Accepted ballot length) e f = ((ballot, length), refl, f)
from_accepted shape _ e f = absurd (omega (arith, e))

reads_accepted : (shape : Shape) → IsShape shape → (n : ℕ) → n ≡ 17 → ReadsTag shape n (accepted_at)
unfolding accepted_at
reads_accepted shape is n e =
    reads_case message_tag (MessageFits shape) (message_fields shape) n 17 _ _ (both_at a_number a_number) (λ (p : ℕ × ℕ). message.Accepted p.0 p.1) e
    (reads_both IsNumber number a_number IsNumber number a_number reads_number reads_number)
    (λ a f. (refl, f)) (λ a f. refl) (from_accepted shape)

from_catch_up : (shape : Shape) (m : Message) → message_tag m ≡ 18 → MessageFits shape m → (p : ℕ) × (message.CatchUp p ≡ m) × (IsNumber p)
from_catch_up shape (message.CatchUp length) e f = (length, refl, f)
from_catch_up shape _ e f = absurd (omega (arith, e))

reads_catch_up : (shape : Shape) → IsShape shape → (n : ℕ) → n ≡ 18 → ReadsTag shape n (made_at (λ p. message.CatchUp p) a_number)
reads_catch_up shape is n e =
    reads_case message_tag (MessageFits shape) (message_fields shape) n 18 IsNumber number a_number (λ (p : ℕ). message.CatchUp p) e (reads_number) (λ a f. (refl, f)) (λ a f. refl) (from_catch_up shape)

from_learn : (shape : Shape) (m : Message) → message_tag m ≡ 19 → MessageFits shape m → (p : ℕ × List LogEntry) × (message.Learn p.0 p.1 ≡ m) × (IsNumber p.0 × ListFits 1 most_slots (EntryFits shape) p.1)
from_learn shape (message.Learn first entries) e f = ((first, entries), refl, f)
from_learn shape _ e f = absurd (omega (arith, e))

reads_learn : (shape : Shape) → IsShape shape → (n : ℕ) → n ≡ 19 → ReadsTag shape n (learn_at shape)
unfolding learn_at
reads_learn shape is n e =
    reads_case message_tag (MessageFits shape) (message_fields shape) n 19 _ _ (both_at a_number (list_at 1 most_slots (entry_at shape))) (λ (p : ℕ × List LogEntry). message.Learn p.0 p.1) e
    (reads_both IsNumber number a_number (ListFits 1 most_slots (EntryFits shape)) (list_encoding (entry_encoding shape)) (list_at 1 most_slots (entry_at shape)) reads_number (reads_lists (EntryFits shape) (entry_encoding shape) (entry_at shape) 1 most_slots (omega arith) (reads_entries shape is)))
    (λ a f. (refl, f)) (λ a f. refl) (from_learn shape)

message_tag-within : (m : Message) → (1 ≤ message_tag m) × (message_tag m ≤ 19)
message_tag-within (message.Get tid place at snapshot item op own) = (omega arith, omega arith)
message_tag-within (message.Version version) = (omega arith, omega arith)
message_tag-within (message.Prepare tid snapshot writes) = (omega arith, omega arith)
message_tag-within (message.Prepared tid ts) = (omega arith, omega arith)
message_tag-within (message.Commit tid vector) = (omega arith, omega arith)
message_tag-within (message.Replicate origin lo hi txs) = (omega arith, omega arith)
message_tag-within (message.KnownLocal known horizon) = (omega arith, omega arith)
message_tag-within (message.Stable vector) = (omega arith, omega arith)
message_tag-within (message.KnownGlobal vector) = (omega arith, omega arith)
message_tag-within (message.Submit entry) = (omega arith, omega arith)
message_tag-within (message.Outcome outcome) = (omega arith, omega arith)
message_tag-within (message.Deliver first pages) = (omega arith, omega arith)
message_tag-within (message.NewBallot ballot) = (omega arith, omega arith)
message_tag-within (message.Promise ballot accepted base tail) = (omega arith, omega arith)
message_tag-within (message.NewState ballot base tail) = (omega arith, omega arith)
message_tag-within (message.Accept ballot slot entry) = (omega arith, omega arith)
message_tag-within (message.Accepted ballot length) = (omega arith, omega arith)
message_tag-within (message.CatchUp length) = (omega arith, omega arith)
message_tag-within (message.Learn first entries) = (omega arith, omega arith)

reads_early : (shape : Shape) → IsShape shape → (n : ℕ) → n < 10 → ReadsTag shape n (early_fields_at shape n)
unfolding early_fields_at
reads_early shape is zero lt = reads_no_code message_tag (MessageFits shape) (message_fields shape) 0 (λ m h. let w = message_tag-within m in omega (arith, h, w.0))
reads_early shape is (suc k) lt =
    let n = suc k in
    reads_next n 1 _ (message_fields shape) _ _ (omega arith) (λ e. reads_get shape is n e) (λ n1.
    reads_next n 2 _ (message_fields shape) _ _ n1 (λ e. reads_version shape is n e) (λ n2.
    reads_next n 3 _ (message_fields shape) _ _ n2 (λ e. reads_prepare shape is n e) (λ n3.
    reads_next n 4 _ (message_fields shape) _ _ n3 (λ e. reads_prepared shape is n e) (λ n4.
    reads_next n 5 _ (message_fields shape) _ _ n4 (λ e. reads_commit shape is n e) (λ n5.
    reads_next n 6 _ (message_fields shape) _ _ n5 (λ e. reads_replicate shape is n e) (λ n6.
    reads_next n 7 _ (message_fields shape) _ _ n6 (λ e. reads_known_local shape is n e) (λ n7.
    reads_next n 8 _ (message_fields shape) _ _ n7 (λ e. reads_stable shape is n e) (λ n8.
    reads_next n 9 _ (message_fields shape) _ _ n8 (λ e. reads_known_global shape is n e) (λ n9.
    reads_no_code message_tag (MessageFits shape) (message_fields shape) n (λ m h. omega (arith, lt, n9)))))))))))

reads_late : (shape : Shape) → IsShape shape → (n : ℕ) → 10 ≤ n → ReadsTag shape n (late_fields_at shape n)
unfolding late_fields_at
reads_late shape is n le =
    reads_next n 10 _ (message_fields shape) _ _ le (λ e. reads_submit shape is n e) (λ n10.
    reads_next n 11 _ (message_fields shape) _ _ n10 (λ e. reads_outcome shape is n e) (λ n11.
    reads_next n 12 _ (message_fields shape) _ _ n11 (λ e. reads_deliver shape is n e) (λ n12.
    reads_next n 13 _ (message_fields shape) _ _ n12 (λ e. reads_new_ballot shape is n e) (λ n13.
    reads_next n 14 _ (message_fields shape) _ _ n13 (λ e. reads_promise shape is n e) (λ n14.
    reads_next n 15 _ (message_fields shape) _ _ n14 (λ e. reads_new_state shape is n e) (λ n15.
    reads_next n 16 _ (message_fields shape) _ _ n15 (λ e. reads_accept shape is n e) (λ n16.
    reads_next n 17 _ (message_fields shape) _ _ n16 (λ e. reads_accepted shape is n e) (λ n17.
    reads_next n 18 _ (message_fields shape) _ _ n17 (λ e. reads_catch_up shape is n e) (λ n18.
    reads_next n 19 _ (message_fields shape) _ _ n18 (λ e. reads_learn shape is n e) (λ n19.
    reads_no_code message_tag (MessageFits shape) (message_fields shape) n (λ m h. let w = message_tag-within m in omega (arith, h, n19, w.1))))))))))))

pub message_tag-byte : (m : Message) → message_tag m ≤ 255
message_tag-byte m = let w = message_tag-within m in omega (arith, w.1)

pub reads_messages : (shape : Shape) → IsShape shape → (n : ℕ) → ReadsTag shape n (message_fields_at shape n)
unfolding message_fields_at
reads_messages shape is n =
    reads_either (nat_lt n 10) (IsMessage shape n) (message_fields shape) (early_fields_at shape n) (late_fields_at shape n)
    (λ t. let lt : n < 10 = (let e = t in grind (arith, nat_tests)) in reads_early shape is n lt) (λ t. let le : 10 ≤ n = (let e = t in grind (arith, nat_tests)) in reads_late shape is n le)
