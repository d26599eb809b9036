-- What messages hold is read as it is encoded.
use Rattle.std.proofs.Common.{◌≡◌, ℕ, zero, suc, ◌≤◌, ◌==◌, false, List, [], ◌∷◌, length, Option, Some, None, refl, arith}
use Rattle.std.specs.Prelude.{slice_get, option_to_list}
use Rattle.std.specs.Int.{w8}
use Rattle.std.specs.List.{AllByRecursion}
use Rattle.std.proofs.lemmas.Bool.{eqb-true}
use Rattle.us_kind.specs.declared.identity.Tid.{Tid}
use Rattle.us_base.specs.declared.shape.Shape.{Shape}
use Rattle.us_base.specs.Shape.{IsShape, sites_of}
use Rattle.us_wire.specs.Fields.{number_at}
use Rattle.us_wire.specs.Decoders.{number_between_at, IsCodec, IsCodecWithin}
use Rattle.us_wire.proofs.Combined.{refit, reads_made, reads_byte, reads_either}
use Rattle.us_migrate.specs.Encodings.{tid_encoding, vector_encoding, IsOneOf, TidFits, VectorFits}
use Rattle.us_migrate.specs.Decoders.{tid_at, vector_at}
use Rattle.us_migrate.proofs.Encoded.{reads_tids, reads_vectors}
use Rattle.us_value.specs.declared.item.Item.{Item}
use Rattle.us_value.specs.declared.item.Write.{Write}
use Rattle.us_value.specs.declared.operation.Answer.{Answer}
use Rattle.us_value.specs.declared.operation.Class.{Class}
use Rattle.us_value.specs.declared.operation.Class.TheVariants as class
use Rattle.us_value.specs.declared.operation.Effect.{Effect}
use Rattle.us_fields.specs.Fields.{item_encoding, ItemFits, answer_encoding, AnswerFits}
use Rattle.us_fields.specs.FieldDecoders.{item_at, answer_at}
use Rattle.us_fields.specs.Lists.{both_at, list_encoding, ListFits, list_at}
use Rattle.us_fields.specs.Effects.{places, effect_encoding, EffectFits, effect_at, writes_encoding, WritesFit, writes_at}
use Rattle.us_fields.proofs.FieldLaws.{unlike, one_of, reads_items, reads_answers}
use Rattle.us_fields.proofs.ListLaws.{reads_bytes, reads_both, reads_coded, reads_next, reads_bare, reads_case, reads_no_code, reads_lists}
use Rattle.us_fields.proofs.EffectLaws.{reads_effects, reads_writes}
use Rattle.us_peer_wire.specs.declared.message.Form.{Form}
use Rattle.us_peer_wire.specs.declared.message.Form.TheVariants.{Answered, WritesFull, AnswerFull}
use Rattle.us_peer_wire.specs.declared.message.OutcomeEnd.{OutcomeEnd}
use Rattle.us_peer_wire.specs.declared.message.OutcomeEnd.TheVariants.{Commit, Abort}
use Rattle.us_peer_wire.specs.declared.message.Page.{Page}
use Rattle.us_peer_wire.specs.declared.message.Page.TheVariants.{Skip, Holds}
use Rattle.us_fields.specs.Tuples.{own_encoding, OwnFits, own_at, class_code, class_fields_at, class_at, touch_encoding, TouchFits, touch_at, committed_encoding, CommittedFits, committed_at}
use Rattle.us_peer_wire.specs.Parts.{actor_encoding, ActorFits, actor_at, form_code, form_fields, form_encoding, MaybeFits, FormFits, maybe_at, form_fields_at, form_at, entry_encoding, EntryFits, entry_at, page_code, page_fields, page_encoding, PageFits, page_fields_at, page_at, end_code, end_fields, end_encoding, EndFits, end_fields_at, end_at}

pub reads_sites : (shape : Shape) → IsShape shape → IsCodec (IsOneOf (sites_of shape)) (λ n. n ∷ []) (number_between_at w8 1 (sites_of shape))
reads_sites shape is = one_of (sites_of shape) (omega (arith, is.few_sites))

pub reads_actors : (shape : Shape) → IsShape shape → IsCodec (ActorFits shape) actor_encoding (actor_at shape)
unfolding actor_at
reads_actors shape is =
    let Part : ℕ → Type 0 = λ n. (0 ≤ n) × (n ≤ shape.parts) in
    reads_made _ _ (both_at (number_between_at w8 1 (sites_of shape)) (number_between_at w8 0 shape.parts)) (λ (p : ℕ × ℕ). record { site = p.0; actor = p.1 }) (ActorFits shape) actor_encoding
    (reads_both (IsOneOf (sites_of shape)) (λ n. n ∷ []) (number_between_at w8 1 (sites_of shape)) Part (λ n. n ∷ []) (number_between_at w8 0 shape.parts) (reads_sites shape is)
    (reads_byte 0 shape.parts (omega (arith, is.few_partitions))))
    (λ p f. record { site = f.0; actor = f.1.1 }) (λ p f. refl) (λ a g. ((a.site, a.actor), refl, (g.site, (omega arith, g.actor))))

pub reads_own : (shape : Shape) → IsShape shape → IsCodec (OwnFits shape) own_encoding (own_at shape)
unfolding own_at
reads_own shape is =
    refit _ (OwnFits shape) _ own_encoding (own_at shape)
    (reads_both (λ n. n ≤ 255) (λ n. n ∷ []) (number_at w8) (EffectFits shape) effect_encoding (effect_at shape) reads_bytes (reads_effects shape is))
    (λ p f. f) (λ p f. f) (λ p f. refl)

-- ---- forms

reads_maybe : (shape : Shape) → IsShape shape → IsCodec (MaybeFits shape) (λ effect. list_encoding effect_encoding (option_to_list effect)) (maybe_at shape)
unfolding maybe_at
reads_maybe shape is =
    reads_made (ListFits 0 1 (EffectFits shape)) (list_encoding effect_encoding) (list_at 0 1 (effect_at shape)) (λ effects. slice_get effects 0) (MaybeFits shape) (λ effect. list_encoding effect_encoding (option_to_list effect))
    (reads_lists (EffectFits shape) effect_encoding (effect_at shape) 0 1 (omega arith) (reads_effects shape is))
    (λ xs f. first_fits xs f.each) (λ xs f. alone xs f.not_more) (λ o g. (option_to_list o, first o, as_list o g))
  where
    first_fits : (xs : List Effect) → AllByRecursion (EffectFits shape) xs → MaybeFits shape (slice_get xs 0)
    first_fits [] all = tt
    first_fits (x ∷ xs) all = all.0

    alone : (xs : List Effect) → length xs ≤ 1 → list_encoding effect_encoding xs ≡ list_encoding effect_encoding (option_to_list (slice_get xs 0))
    alone [] le = refl
    alone (x ∷ []) le = refl
    alone (x ∷ y ∷ xs) le = absurd (omega arith)

    first : (o : Option Effect) → slice_get (option_to_list o) 0 ≡ o
    first None = refl
    first (Some x) = refl

    as_list : (o : Option Effect) → MaybeFits shape o → ListFits 0 1 (EffectFits shape) (option_to_list o)
    as_list None g = record { enough = omega arith; not_more = omega arith; each = tt }
    as_list (Some x) g = record { enough = omega arith; not_more = omega arith; each = (g, tt) }

form_0 : (shape : Shape) (f : Form) → form_code f ≡ 0 → FormFits shape f → (p : Answer × Option Effect) × (Answered p.0 p.1 ≡ f) × (AnswerFits p.0 × MaybeFits shape p.1)
form_0 shape (Answered answer effect) e f = ((answer, effect), refl, f)
form_0 shape _ e f = absurd (cc)

form_7 : (f : Form) → form_code f ≡ 7 → WritesFull ≡ f
form_7 WritesFull e = refl
form_7 _ e = absurd (cc)

form_8 : (f : Form) → form_code f ≡ 8 → AnswerFull ≡ f
form_8 AnswerFull e = refl
form_8 _ e = absurd (cc)

form_code-small : (f : Form) → form_code f ≤ 255
form_code-small (Answered answer effect) = omega arith
form_code-small WritesFull = omega arith
form_code-small AnswerFull = omega arith

reads_form_fields : (shape : Shape) → IsShape shape → (n : ℕ) → IsCodecWithin (λ f. (form_code f ≡ n) × FormFits shape f) form_fields (form_fields_at shape n)
unfolding form_fields_at
reads_form_fields shape is n =
    let Fits : Form → Type 0 = FormFits shape in
    reads_either (n == 0) _ form_fields _ _ (λ t. reads_case form_code Fits form_fields n 0 _ _ (both_at answer_at (maybe_at shape)) (λ (p : Answer × Option Effect). Answered p.0 p.1) (eqb-true n 0 t)
    (reads_both AnswerFits answer_encoding answer_at (MaybeFits shape) (λ effect. list_encoding effect_encoding (option_to_list effect)) (maybe_at shape) reads_answers (reads_maybe shape is))
    (λ a f. (refl, f)) (λ a f. refl) (form_0 shape)) (λ n0.
    reads_either (n == 7) _ form_fields _ _ (λ t. reads_bare form_code Fits form_fields n 7 WritesFull (eqb-true n 7 t) refl tt refl form_7) (λ n7.
    reads_either (n == 8) _ form_fields _ _ (λ t. reads_bare form_code Fits form_fields n 8 AnswerFull (eqb-true n 8 t) refl tt refl form_8) (λ n8.
    reads_no_code form_code Fits form_fields n (λ f h. none f h n0 n7 n8))))
  where
    none : (f : Form) → form_code f ≡ n → (n == 0) ≡ false → (n == 7) ≡ false → (n == 8) ≡ false → ⊥
    none (Answered answer effect) h n0 n7 n8 = unlike n 0 n0 h
    none WritesFull h n0 n7 n8 = unlike n 7 n7 h
    none AnswerFull h n0 n7 n8 = unlike n 8 n8 h

pub reads_forms : (shape : Shape) → IsShape shape → IsCodec (FormFits shape) form_encoding (form_at shape)
unfolding form_at
reads_forms shape is = reads_coded form_code (FormFits shape) form_fields (form_fields_at shape) form_code-small (reads_form_fields shape is)

-- ---- touches

class_1 : (c : Class) → class_code c ≡ 1 → class.Read ≡ c
class_1 class.Read e = refl
class_1 _ e = absurd (cc)

class_2 : (c : Class) → class_code c ≡ 2 → class.Write ≡ c
class_2 class.Write e = refl
class_2 _ e = absurd (cc)

class_3 : (c : Class) → class_code c ≡ 3 → class.Give ≡ c
class_3 class.Give e = refl
class_3 _ e = absurd (cc)

class_4 : (c : Class) → class_code c ≡ 4 → class.Take ≡ c
class_4 class.Take e = refl
class_4 _ e = absurd (cc)

class_5 : (c : Class) → class_code c ≡ 5 → class.Add ≡ c
class_5 class.Add e = refl
class_5 _ e = absurd (cc)

class_6 : (c : Class) → class_code c ≡ 6 → class.Remove ≡ c
class_6 class.Remove e = refl
class_6 _ e = absurd (cc)

class_7 : (c : Class) → class_code c ≡ 7 → class.Enable ≡ c
class_7 class.Enable e = refl
class_7 _ e = absurd (cc)

class_8 : (c : Class) → class_code c ≡ 8 → class.Disable ≡ c
class_8 class.Disable e = refl
class_8 _ e = absurd (cc)

class_code-within : (c : Class) → (1 ≤ class_code c) × (class_code c ≤ 8)
class_code-within class.Read = (omega arith, omega arith)
class_code-within class.Write = (omega arith, omega arith)
class_code-within class.Give = (omega arith, omega arith)
class_code-within class.Take = (omega arith, omega arith)
class_code-within class.Add = (omega arith, omega arith)
class_code-within class.Remove = (omega arith, omega arith)
class_code-within class.Enable = (omega arith, omega arith)
class_code-within class.Disable = (omega arith, omega arith)

abbrev Any : Class → Type 0
Any c = Unit {0}

abbrev no_fields : Class → List ℕ
no_fields c = []

reads_class_fields : (n : ℕ) → IsCodecWithin (λ c. (class_code c ≡ n) × Any c) no_fields (class_fields_at n)
unfolding class_fields_at
reads_class_fields zero = reads_no_code class_code Any no_fields 0 (λ c h. let w = class_code-within c in omega (arith, h, w.0))
reads_class_fields (suc m) =
    let n = suc m in
    reads_next n 1 _ no_fields _ _ (omega arith) (λ e. reads_bare class_code Any no_fields n 1 class.Read e refl tt refl class_1) (λ n1.
    reads_next n 2 _ no_fields _ _ n1 (λ e. reads_bare class_code Any no_fields n 2 class.Write e refl tt refl class_2) (λ n2.
    reads_next n 3 _ no_fields _ _ n2 (λ e. reads_bare class_code Any no_fields n 3 class.Give e refl tt refl class_3) (λ n3.
    reads_next n 4 _ no_fields _ _ n3 (λ e. reads_bare class_code Any no_fields n 4 class.Take e refl tt refl class_4) (λ n4.
    reads_next n 5 _ no_fields _ _ n4 (λ e. reads_bare class_code Any no_fields n 5 class.Add e refl tt refl class_5) (λ n5.
    reads_next n 6 _ no_fields _ _ n5 (λ e. reads_bare class_code Any no_fields n 6 class.Remove e refl tt refl class_6) (λ n6.
    reads_next n 7 _ no_fields _ _ n6 (λ e. reads_bare class_code Any no_fields n 7 class.Enable e refl tt refl class_7) (λ n7.
    reads_next n 8 _ no_fields _ _ n7 (λ e. reads_bare class_code Any no_fields n 8 class.Disable e refl tt refl class_8) (λ n8.
    reads_no_code class_code Any no_fields n (λ c h. let w = class_code-within c in omega (arith, h, n8, w.1))))))))))

reads_touches : IsCodec TouchFits touch_encoding touch_at
unfolding touch_at class_at
reads_touches =
    refit _ TouchFits _ touch_encoding touch_at
    (reads_both ItemFits item_encoding item_at Any (λ c. class_code c ∷ []) class_at reads_items
    (reads_coded class_code Any no_fields class_fields_at (λ c. let w = class_code-within c in omega (arith, w.1)) reads_class_fields))
    (λ t f. f.0) (λ t f. (f, tt)) (λ t f. refl)

-- ---- entries and committed transactions

pub reads_entries : (shape : Shape) → IsShape shape → IsCodec (EntryFits shape) (entry_encoding shape) (entry_at shape)
unfolding entry_at
reads_entries shape is =
    reads_made _ _ (both_at (tid_at shape) (both_at (vector_at shape) (both_at (list_at 0 places touch_at) (writes_at shape))))
    (λ (p : Tid × (List ℕ × (List (Item × Class) × List Write))). record { tid = p.0; snapshot = p.1.0; touches = p.1.1.0; writes = p.1.1.1 }) (EntryFits shape) (entry_encoding shape)
    (reads_both (TidFits shape) tid_encoding (tid_at shape) _ _ (both_at (vector_at shape) (both_at (list_at 0 places touch_at) (writes_at shape))) (reads_tids shape is)
    (reads_both (VectorFits shape) (vector_encoding shape) (vector_at shape) _ _ (both_at (list_at 0 places touch_at) (writes_at shape)) (reads_vectors shape is)
    (reads_both (ListFits 0 places TouchFits) (list_encoding touch_encoding) (list_at 0 places touch_at) (WritesFit shape) writes_encoding (writes_at shape)
    (reads_lists TouchFits touch_encoding touch_at 0 places (omega arith) reads_touches) (reads_writes shape is))))
    (λ p f. record { tid = f.0; snapshot = f.1.0; touches = f.1.1.0; writes = f.1.1.1 }) (λ p f. refl)
    (λ e g. ((e.tid, (e.snapshot, (e.touches, e.writes))), refl, (g.tid, (g.snapshot, (g.touches, g.writes)))))

pub reads_committed : (shape : Shape) → IsShape shape → IsCodec (CommittedFits shape) (committed_encoding shape) (committed_at shape)
unfolding committed_at
reads_committed shape is =
    reads_made _ _ (both_at (tid_at shape) (both_at (vector_at shape) (writes_at shape))) (λ (p : Tid × (List ℕ × List Write)). (p.0, p.1.0, p.1.1)) (CommittedFits shape) (committed_encoding shape)
    (reads_both (TidFits shape) tid_encoding (tid_at shape) _ _ (both_at (vector_at shape) (writes_at shape)) (reads_tids shape is)
    (reads_both (VectorFits shape) (vector_encoding shape) (vector_at shape) (WritesFit shape) writes_encoding (writes_at shape) (reads_vectors shape is) (reads_writes shape is)))
    (λ p f. f) (λ p f. refl) (λ t g. ((t.0, (t.1, t.2)), refl, g))

-- ---- pages

page_0 : (p : Page) → page_code p ≡ 0 → Skip ≡ p
page_0 Skip e = refl
page_0 _ e = absurd (cc)

page_1 : (shape : Shape) (p : Page) → page_code p ≡ 1 → PageFits shape p → (t : Tid × List ℕ × List Write) × (Holds t.0 t.1 t.2 ≡ p) × CommittedFits shape t
page_1 shape (Holds tid vector writes) e f = ((tid, vector, writes), refl, f)
page_1 shape _ e f = absurd (cc)

page_code-small : (p : Page) → page_code p ≤ 1
page_code-small Skip = omega arith
page_code-small (Holds tid vector writes) = omega arith

reads_page_fields : (shape : Shape) → IsShape shape → (n : ℕ) → IsCodecWithin (λ p. (page_code p ≡ n) × PageFits shape p) (page_fields shape) (page_fields_at shape n)
unfolding page_fields_at
reads_page_fields shape is n =
    let Fits : Page → Type 0 = PageFits shape in
    reads_next n 0 _ (page_fields shape) _ _ (omega arith) (λ e. reads_bare page_code Fits (page_fields shape) n 0 Skip e refl tt refl page_0) (λ n0.
    reads_next n 1 _ (page_fields shape) _ _ n0 (λ e. reads_case page_code Fits (page_fields shape) n 1 (CommittedFits shape) (committed_encoding shape) (committed_at shape) (λ t. Holds t.0 t.1 t.2) e (reads_committed shape is)
    (λ a f. (refl, f)) (λ a f. refl) (page_1 shape)) (λ n1.
    reads_no_code page_code Fits (page_fields shape) n (λ p h. omega (arith, h, n1, page_code-small p))))

pub reads_pages : (shape : Shape) → IsShape shape → IsCodec (PageFits shape) (page_encoding shape) (page_at shape)
unfolding page_at
reads_pages shape is = reads_coded page_code (PageFits shape) (page_fields shape) (page_fields_at shape) (λ p. omega (arith, page_code-small p)) (reads_page_fields shape is)

-- ---- ends

end_1 : (o : OutcomeEnd) → end_code o ≡ 1 → Commit ≡ o
end_1 Commit e = refl
end_1 _ e = absurd (cc)

end_2 : (shape : Shape) (o : OutcomeEnd) → end_code o ≡ 2 → EndFits shape o → (p : Tid × Item) × (Abort p.0 p.1 ≡ o) × (TidFits shape p.0 × ItemFits p.1)
end_2 shape (Abort named item) e f = ((named, item), refl, f)
end_2 shape _ e f = absurd (cc)

end_code-within : (o : OutcomeEnd) → (1 ≤ end_code o) × (end_code o ≤ 2)
end_code-within Commit = (omega arith, omega arith)
end_code-within (Abort named item) = (omega arith, omega arith)

reads_end_fields : (shape : Shape) → IsShape shape → (n : ℕ) → IsCodecWithin (λ o. (end_code o ≡ n) × EndFits shape o) end_fields (end_fields_at shape n)
unfolding end_fields_at
reads_end_fields shape is zero = reads_no_code end_code (EndFits shape) end_fields 0 (λ o h. let w = end_code-within o in omega (arith, h, w.0))
reads_end_fields shape is (suc m) =
    let n = suc m in
    let Fits : OutcomeEnd → Type 0 = EndFits shape in
    reads_next n 1 _ end_fields _ _ (omega arith) (λ e. reads_bare end_code Fits end_fields n 1 Commit e refl tt refl end_1) (λ n1.
    reads_next n 2 _ end_fields _ _ n1 (λ e. reads_case end_code Fits end_fields n 2 _ _ (both_at (tid_at shape) item_at) (λ (p : Tid × Item). Abort p.0 p.1) e
    (reads_both (TidFits shape) tid_encoding (tid_at shape) ItemFits item_encoding item_at (reads_tids shape is) reads_items)
    (λ a f. (refl, f)) (λ a f. refl) (end_2 shape)) (λ n2.
    reads_no_code end_code Fits end_fields n (λ o h. let w = end_code-within o in omega (arith, h, n2, w.1))))

pub reads_ends : (shape : Shape) → IsShape shape → IsCodec (EndFits shape) end_encoding (end_at shape)
unfolding end_at
reads_ends shape is = reads_coded end_code (EndFits shape) end_fields (end_fields_at shape) (λ o. let w = end_code-within o in omega (arith, w.1)) (reads_end_fields shape is)
