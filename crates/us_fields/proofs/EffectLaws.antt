-- Effects and writes are read as they are encoded.
use Rattle.std.proofs.Common.{◌≡◌, ℕ, ℤ, zero, suc, ◌≤◌, List, [], ◌∷◌, ◌++◌, length, refl, arith}
use Rattle.std.specs.Prelude.{FitsSigned}
use Rattle.std.specs.Int.{w8, w64}
use Rattle.us_kind.specs.declared.identity.Tag.{Tag}
use Rattle.us_base.specs.declared.shape.Shape.{Shape}
use Rattle.us_base.specs.Shape.{IsShape}
use Rattle.us_wire.specs.Fields.{integer, integer_at, value, value_at, longest_value}
use Rattle.us_wire.specs.Decoders.{number_between_at, IsCodec, IsCodecWithin}
use Rattle.us_wire.proofs.Combined.{refit, reads_made}
use Rattle.us_migrate.specs.Encodings.{tid_encoding, IsOneOf, TidFits}
use Rattle.us_migrate.specs.Decoders.{tid_at}
use Rattle.us_migrate.proofs.Encoded.{reads_tids}
use Rattle.us_value.specs.declared.operation.Effect.{Effect}
use Rattle.us_value.specs.declared.operation.Effect.TheVariants as effect
use Rattle.us_fields.specs.Fields.{item_encoding, ItemFits}
use Rattle.us_fields.specs.FieldDecoders.{item_at}
use Rattle.us_fields.specs.Lists.{both_at, ListFits, list_at, longest_list}
use Rattle.us_fields.specs.Effects.{places, tag_encoding, TagFits, tag_at, tag_before, tags_encoding, TagsFit, tags_at, effect_code, effect_fields, effect_encoding, EffectFits, effect_fields_at, effect_at, write_encoding, WriteFits, write_at, write_before, writes_encoding, WritesFit, writes_at}
use Rattle.us_fields.specs.Laws.{ReadsEffects, ReadsWrites}
use Rattle.us_fields.proofs.FieldLaws.{one_of, amounts, values, reads_items}
use Rattle.us_fields.proofs.ListLaws.{reads_both, reads_coded, reads_next, reads_bare, reads_case, reads_no_code, reads_lists, reads_ordered}

pub reads_places : IsCodec (IsOneOf places) (λ n. n ∷ []) (number_between_at w8 1 places)
reads_places = one_of 64 (omega arith)

pub reads_tags : (shape : Shape) → IsShape shape → IsCodec (TagsFit shape) tags_encoding (tags_at shape)
unfolding tags_at tag_at
reads_tags shape is =
    let one : IsCodec (TagFits shape) tag_encoding (tag_at shape) =
    reads_made _ _ (both_at (tid_at shape) (number_between_at w8 1 places)) (λ (p : _ × ℕ). record { tid = p.0; place = p.1 }) (TagFits shape) tag_encoding
    (reads_both (TidFits shape) tid_encoding (tid_at shape) (IsOneOf places) (λ n. n ∷ []) (number_between_at w8 1 places) (reads_tids shape is) reads_places)
    (λ p f. record { tid = f.0; place = f.1 }) (λ p f. refl) (λ t g. ((t.tid, t.place), refl, (g.tid, g.place))) in
    refit _ (TagsFit shape) _ tags_encoding (tags_at shape)
    (reads_ordered (ListFits 0 longest_list (TagFits shape)) tags_encoding (list_at 0 longest_list (tag_at shape)) tag_before (reads_lists (TagFits shape) tag_encoding (tag_at shape) 0 longest_list (omega arith) one))
    (λ xs f. record { list = f.0; ascending = f.1 }) (λ xs f. (f.list, f.ascending)) (λ xs f. refl)

-- ---- effects

code_1 : (shape : Shape) (e : Effect) → effect_code e ≡ 1 → EffectFits shape e → (bytes : List ℕ) × (effect.RegisterWrite bytes ≡ e) × (length bytes ≤ longest_value)
code_1 shape (effect.RegisterWrite bytes) e f = (bytes, refl, f)
code_1 shape _ e f = absurd (cc)

code_2 : (shape : Shape) (e : Effect) → effect_code e ≡ 2 → EffectFits shape e → (amount : ℤ) × (effect.CounterAdd amount ≡ e) × FitsSigned w64 amount
code_2 shape (effect.CounterAdd amount) e f = (amount, refl, f)
code_2 shape _ e f = absurd (cc)

code_3 : (shape : Shape) (e : Effect) → effect_code e ≡ 3 → EffectFits shape e → (bytes : List ℕ) × (effect.SetAdd bytes ≡ e) × (length bytes ≤ longest_value)
code_3 shape (effect.SetAdd bytes) e f = (bytes, refl, f)
code_3 shape _ e f = absurd (cc)

code_4 : (shape : Shape) (e : Effect) → effect_code e ≡ 4 → EffectFits shape e → (p : List ℕ × List Tag) × (effect.SetRemove p.0 p.1 ≡ e) × ((length p.0 ≤ longest_value) × TagsFit shape p.1)
code_4 shape (effect.SetRemove bytes tags) e f = ((bytes, tags), refl, f)
code_4 shape _ e f = absurd (cc)

code_5 : (e : Effect) → effect_code e ≡ 5 → effect.Enable ≡ e
code_5 effect.Enable e = refl
code_5 _ e = absurd (cc)

code_6 : (shape : Shape) (e : Effect) → effect_code e ≡ 6 → EffectFits shape e → (tags : List Tag) × (effect.Disable tags ≡ e) × TagsFit shape tags
code_6 shape (effect.Disable tags) e f = (tags, refl, f)
code_6 shape _ e f = absurd (cc)

code_7 : (shape : Shape) (e : Effect) → effect_code e ≡ 7 → EffectFits shape e → (p : List ℕ × List Tag) × (effect.MultiWrite p.0 p.1 ≡ e) × ((length p.0 ≤ longest_value) × TagsFit shape p.1)
code_7 shape (effect.MultiWrite bytes tags) e f = ((bytes, tags), refl, f)
code_7 shape _ e f = absurd (cc)

effect_code-within : (e : Effect) → (1 ≤ effect_code e) × (effect_code e ≤ 7)
effect_code-within (effect.RegisterWrite bytes) = (omega arith, omega arith)
effect_code-within (effect.CounterAdd amount) = (omega arith, omega arith)
effect_code-within (effect.SetAdd bytes) = (omega arith, omega arith)
effect_code-within (effect.SetRemove bytes tags) = (omega arith, omega arith)
effect_code-within effect.Enable = (omega arith, omega arith)
effect_code-within (effect.Disable tags) = (omega arith, omega arith)
effect_code-within (effect.MultiWrite bytes tags) = (omega arith, omega arith)

reads_effect_fields : (shape : Shape) → IsShape shape → (n : ℕ) → IsCodecWithin (λ e. (effect_code e ≡ n) × EffectFits shape e) effect_fields (effect_fields_at shape n)
unfolding effect_fields_at
reads_effect_fields shape is zero = reads_no_code effect_code (EffectFits shape) effect_fields 0 (λ e h. omega (arith, h, effect_code-within e))
reads_effect_fields shape is (suc m) =
    let n = suc m in
    let Fits : Effect → Type 0 = EffectFits shape in
    let Short : List ℕ → Type 0 = λ bytes. length bytes ≤ longest_value in
    let Tagged : List ℕ × List Tag → Type 0 = λ p. Short p.0 × TagsFit shape p.1 in
    let tagged : IsCodec Tagged (λ p. value p.0 ++ tags_encoding p.1) (both_at value_at (tags_at shape)) = reads_both Short value value_at (TagsFit shape) tags_encoding (tags_at shape) values (reads_tags shape is) in
    reads_next n 1 _ effect_fields _ _ (omega arith) (λ e. reads_case effect_code Fits effect_fields n 1 Short value value_at (λ bytes. effect.RegisterWrite bytes) e values (λ a f. (refl, f)) (λ a f. refl) (code_1 shape)) (λ n1.
    reads_next n 2 _ effect_fields _ _ n1 (λ e. reads_case effect_code Fits effect_fields n 2 (FitsSigned w64) (integer w64) (integer_at w64) (λ amount. effect.CounterAdd amount) e amounts (λ a f. (refl, f)) (λ a f. refl) (code_2 shape)) (λ n2.
    reads_next n 3 _ effect_fields _ _ n2 (λ e. reads_case effect_code Fits effect_fields n 3 Short value value_at (λ bytes. effect.SetAdd bytes) e values (λ a f. (refl, f)) (λ a f. refl) (code_3 shape)) (λ n3.
    reads_next n 4 _ effect_fields _ _ n3 (λ e. reads_case effect_code Fits effect_fields n 4 Tagged _ (both_at value_at (tags_at shape)) (λ p. effect.SetRemove p.0 p.1) e tagged (λ a f. (refl, f)) (λ a f. refl) (code_4 shape)) (λ n4.
    reads_next n 5 _ effect_fields _ _ n4 (λ e. reads_bare effect_code Fits effect_fields n 5 effect.Enable e refl tt refl code_5) (λ n5.
    reads_next n 6 _ effect_fields _ _ n5 (λ e. reads_case effect_code Fits effect_fields n 6 (TagsFit shape) tags_encoding (tags_at shape) (λ tags. effect.Disable tags) e (reads_tags shape is) (λ a f. (refl, f)) (λ a f. refl) (code_6 shape)) (λ n6.
    reads_next n 7 _ effect_fields _ _ n6 (λ e. reads_case effect_code Fits effect_fields n 7 Tagged _ (both_at value_at (tags_at shape)) (λ p. effect.MultiWrite p.0 p.1) e tagged (λ a f. (refl, f)) (λ a f. refl) (code_7 shape)) (λ n7.
    reads_no_code effect_code Fits effect_fields n (λ e h. omega (arith, h, n7, effect_code-within e)))))))))

pub reads_effects : ReadsEffects
unfolding effect_at
reads_effects shape is = reads_coded effect_code (EffectFits shape) effect_fields (effect_fields_at shape) (λ e. let w = effect_code-within e in omega (arith, w.1)) (reads_effect_fields shape is)

-- ---- writes

reads_one_write : (shape : Shape) → IsShape shape → IsCodec (WriteFits shape) write_encoding (write_at shape)
unfolding write_at
reads_one_write shape is =
    reads_made _ _ (both_at item_at (both_at (number_between_at w8 1 places) (effect_at shape))) (λ (p : _ × (ℕ × Effect)). record { item = p.0; place = p.1.0; effect = p.1.1 }) (WriteFits shape) write_encoding
    (reads_both ItemFits item_encoding item_at _ _ (both_at (number_between_at w8 1 places) (effect_at shape)) reads_items
    (reads_both (IsOneOf places) (λ n. n ∷ []) (number_between_at w8 1 places) (EffectFits shape) effect_encoding (effect_at shape) reads_places (reads_effects shape is)))
    (λ p f. record { item = f.0; place = f.1.0; effect = f.1.1 }) (λ p f. refl) (λ w g. ((w.item, (w.place, w.effect)), refl, (g.item, (g.place, g.effect))))

pub reads_writes : ReadsWrites
unfolding writes_at
reads_writes shape is =
    refit _ (WritesFit shape) _ writes_encoding (writes_at shape)
    (reads_ordered (ListFits 0 places (WriteFits shape)) writes_encoding (list_at 0 places (write_at shape)) write_before (reads_lists (WriteFits shape) write_encoding (write_at shape) 0 places (omega arith) (reads_one_write shape is)))
    (λ xs f. record { list = f.0; ascending = f.1 }) (λ xs f. (f.list, f.ascending)) (λ xs f. refl)
