-- Items, operations and answers are read as they are encoded.
use Rattle.std.proofs.Common.{◌≡◌, ℕ, ℤ, zero, suc, ◌+◌, ◌^◌, ◌<◌, ◌≤◌, ◌==◌, Bool, true, false, cond, leb, List, [], ◌∷◌, length, take, drop, Option, Some, None, refl, sym, ap, subst, ◌∙◌, arith}
use Rattle.std.specs.Prelude.{FitsSigned}
use Rattle.std.specs.Int.{w8, w32, w64, w128, to_be_bytes}
use Rattle.std.specs.List.{AllByRecursion}
use Rattle.std.proofs.lemmas.Bool.{eqb-true, leb-true, le-leb, cond-true, eq-eqb, and_parts, and_from}
use Rattle.std.proofs.lemmas.List.{length-take-le, length-drop}
use Rattle.us_kind.specs.Comparison.{bytes_less}
use Rattle.us_kind.specs.Updates.{All, AllLater}
use Rattle.us_kind.specs.Orders.{bytes_trans}
use Rattle.us_wire.specs.Fields.{StandsAt, number_at, integer_at, integer, value, value_at, longest_value}
use Rattle.us_wire.specs.Decoders.{and_then, if_passes, many_at, many_encoding, number_between_at, IsCodec, IsCodecWithin}
use Rattle.us_wire.proofs.Encoded.{Stands-cut, Stands-front, wide32, wide64, wide128, reads_numbers, reads_integers, reads_values}
use Rattle.us_wire.proofs.Combined.{on, reads, refit, refit_on, reads_then, reads_made, reads_nothing, reads_none, reads_either, reads_passing_on, reads_many, reads_byte, found_one}
use Rattle.us_migrate.specs.Encodings.{IsOneOf}
use Rattle.us_value.specs.declared.item.Item.{Item}
use Rattle.us_value.specs.declared.operation.Op.{Op}
use Rattle.us_value.specs.declared.operation.Op.TheVariants as op
use Rattle.us_value.specs.declared.operation.Answer.{Answer}
use Rattle.us_value.specs.declared.operation.Answer.TheVariants as answer
use Rattle.us_fields.specs.Fields.{id_encoding, item_encoding, ItemFits, op_code, op_fields, op_encoding, OpFits, answer_code, answer_fields, answer_encoding, AnswerFits, ValuesFit, values_encoding, bit_encoding}
use Rattle.us_fields.specs.FieldDecoders.{cut_at, id_at, item_at, op_fields_at, op_at, is_ascending, values_at, answer_fields_at, answer_at}
use Rattle.us_fields.specs.Laws.{ReadsItems, ReadsOps, ReadsAnswers}

-- ---- bytes, numbers, values

pub one_of : (most : ℕ) → most < 256 → IsCodec (IsOneOf most) (λ n. n ∷ []) (number_between_at w8 1 most)
one_of most small = refit (λ n. (1 ≤ n) × (n ≤ most)) (IsOneOf most) (λ n. n ∷ []) (λ n. n ∷ []) (number_between_at w8 1 most) (reads_byte 1 most small)
    (λ n f. record { first = f.0; last = f.1 }) (λ n f. (f.first, f.last)) (λ n f. refl)

pub words : IsCodec (λ n. n < 256 ^ 8) (to_be_bytes w64) (number_at w64)
words = let law = reads_numbers w64 wide64 in reads (λ n. n < 256 ^ 8) (to_be_bytes w64) (number_at w64) law.found law.again

counts : IsCodec (λ n. n < 256 ^ 4) (to_be_bytes w32) (number_at w32)
counts = let law = reads_numbers w32 wide32 in reads (λ n. n < 256 ^ 4) (to_be_bytes w32) (number_at w32) law.found law.again

pub amounts : IsCodec (FitsSigned w64) (integer w64) (integer_at w64)
amounts = let law = reads_integers w64 wide64 refl in reads (FitsSigned w64) (integer w64) (integer_at w64) law.found law.again

sums : IsCodec (FitsSigned w128) (integer w128) (integer_at w128)
sums = let law = reads_integers w128 wide128 refl in reads (FitsSigned w128) (integer w128) (integer_at w128) law.found law.again

pub values : IsCodec (λ bytes. length bytes ≤ longest_value) value value_at
values = reads (λ bytes. length bytes ≤ longest_value) value value_at reads_values.found reads_values.again

-- ---- items

reads_cut : (size : ℕ) → IsCodecWithin (λ bytes. (length bytes ≡ size) × Unit {0}) (λ bytes. bytes) (cut_at size)
reads_cut size = record {
  found = λ input at bytes next are within e. taken input at bytes next (leb (at + size) (length input)) refl e;
  again = λ input at bytes next fits s.
      let room : leb (at + size) (length input) ≡ true = le-leb _ _ (omega (arith, s.next_is, s.within, fits.0)) in
      let end : at + size ≡ next = omega (arith, s.next_is, fits.0) in
      let same : take size (drop at input) ≡ bytes = ap (λ (k : ℕ). take k (drop at input)) (sym fits.0) ∙ Stands-front bytes input at next s in
      cond-true _ _ _ room ∙ ap (λ (w : List ℕ). pair w (at + size)) same ∙ ap (pair bytes) end;
}
  where
    pair : List ℕ → ℕ → Option (List ℕ × ℕ)
    pair bytes next = Some (bytes, next)

    taken : (input : List ℕ) (at : ℕ) (bytes : List ℕ) (next : ℕ) (b : Bool) → leb (at + size) (length input) ≡ b → cond {A = Option (List ℕ × ℕ)} b (Some (take size (drop at input), at + size)) None ≡ Some (bytes, next)
        → StandsAt bytes input at next × ((length bytes ≡ size) × Unit {0})
    taken input at bytes next true is e =
        let one = found_one (take size (drop at input)) bytes (at + size) next e in
        let fits : at + size ≤ length input = leb-true _ _ is in
        let P : List ℕ → ℕ → Type 0 = λ w n. StandsAt w input at n × ((length w ≡ size) × Unit {0}) in
        subst (λ (n : ℕ). P bytes n) one.1 (subst (λ (w : List ℕ). P w (at + size)) one.0 (Stands-cut size at input fits, (length-take-le size (drop at input) (omega (arith, length-drop at input)), tt)))
    taken input at bytes next false is e = absurd (cc)

reads_ids : IsCodec (λ id. IsOneOf 64 (length id)) id_encoding id_at
unfolding id_at
reads_ids = refit _ (λ id. IsOneOf 64 (length id)) _ id_encoding id_at
    (reads_then (IsOneOf 64) (λ n. n ∷ []) (number_between_at w8 1 64) (λ (id : List ℕ). length id) (λ id. Unit {0}) (λ id. id) cut_at (one_of 64 (omega arith)) (λ size f. reads_cut size))
    (λ id f. f.0) (λ id f. (f, tt)) (λ id f. refl)

pub reads_items : ReadsItems
unfolding item_at
reads_items =
    let Id : List ℕ → Type 0 = λ id. IsOneOf 64 (length id) in
    let last : (space : ℕ) → IsCodec (λ (item : Item). (item.space ≡ space) × Id item.id) (λ item. id_encoding item.id) (λ input at. and_then (id_at input at) (λ id next. Some (record { space = space; id = id }, next))) =
    λ space. reads_made Id id_encoding id_at (λ id. record { space = space; id = id }) (λ (item : Item). (item.space ≡ space) × Id item.id) (λ item. id_encoding item.id) reads_ids
    (λ id f. (refl, f)) (λ id f. refl) (λ item g. (item.id, (λ i. record { space = sym g.0 i; id = item.id }), g.1)) in
    refit _ ItemFits _ item_encoding item_at
    (reads_then (IsOneOf 255) (λ n. n ∷ []) (number_between_at w8 1 255) (λ (item : Item). item.space) (λ (item : Item). Id item.id) (λ item. id_encoding item.id)
    (λ space input at. and_then (id_at input at) (λ id next. Some (record { space = space; id = id }, next))) (one_of 255 (omega arith)) (λ space f. on _ _ _ (last space)))
    (λ item f. record { space = f.0; id = f.1 }) (λ item f. (f.space, f.id)) (λ item f. refl)

-- ---- operations

-- another code than any of these
pub unlike : {X : Type 0} (code k : ℕ) → (code == k) ≡ false → k ≡ code → X
unlike code k n e = let P : ℕ → Type 0 = λ c. (c == k) ≡ false in absurd (different k (subst P (sym e) n))
  where
    different : (k : ℕ) → (k == k) ≡ false → ⊥
    different k e = let same : (k == k) ≡ true = eq-eqb k k refl in cc

abbrev IsOp : ℕ → Op → Type 0
IsOp code o = (op_code o ≡ code) × OpFits o

op_1 : (o : Op) → op_code o ≡ 1 → op.RegisterRead ≡ o
op_1 op.RegisterRead e = refl
op_1 _ e = absurd (cc)

op_2 : (o : Op) → op_code o ≡ 2 → OpFits o → (bytes : List ℕ) × (op.RegisterWrite bytes ≡ o) × (length bytes ≤ longest_value)
op_2 (op.RegisterWrite bytes) e f = (bytes, refl, f)
op_2 _ e f = absurd (cc)

op_3 : (o : Op) → op_code o ≡ 3 → op.CounterRead ≡ o
op_3 op.CounterRead e = refl
op_3 _ e = absurd (cc)

op_4 : (o : Op) → op_code o ≡ 4 → OpFits o → (amount : ℤ) × (op.CounterAdd amount ≡ o) × FitsSigned w64 amount
op_4 (op.CounterAdd amount) e f = (amount, refl, f)
op_4 _ e f = absurd (cc)

op_5 : (o : Op) → op_code o ≡ 5 → op.SetMembers ≡ o
op_5 op.SetMembers e = refl
op_5 _ e = absurd (cc)

op_6 : (o : Op) → op_code o ≡ 6 → OpFits o → (bytes : List ℕ) × (op.SetContains bytes ≡ o) × (length bytes ≤ longest_value)
op_6 (op.SetContains bytes) e f = (bytes, refl, f)
op_6 _ e f = absurd (cc)

op_7 : (o : Op) → op_code o ≡ 7 → OpFits o → (bytes : List ℕ) × (op.SetAdd bytes ≡ o) × (length bytes ≤ longest_value)
op_7 (op.SetAdd bytes) e f = (bytes, refl, f)
op_7 _ e f = absurd (cc)

op_8 : (o : Op) → op_code o ≡ 8 → OpFits o → (bytes : List ℕ) × (op.SetRemove bytes ≡ o) × (length bytes ≤ longest_value)
op_8 (op.SetRemove bytes) e f = (bytes, refl, f)
op_8 _ e f = absurd (cc)

op_9 : (o : Op) → op_code o ≡ 9 → op.FlagRead ≡ o
op_9 op.FlagRead e = refl
op_9 _ e = absurd (cc)

op_10 : (o : Op) → op_code o ≡ 10 → op.FlagEnable ≡ o
op_10 op.FlagEnable e = refl
op_10 _ e = absurd (cc)

op_11 : (o : Op) → op_code o ≡ 11 → op.FlagDisable ≡ o
op_11 op.FlagDisable e = refl
op_11 _ e = absurd (cc)

op_12 : (o : Op) → op_code o ≡ 12 → op.MultiRead ≡ o
op_12 op.MultiRead e = refl
op_12 _ e = absurd (cc)

op_13 : (o : Op) → op_code o ≡ 13 → OpFits o → (bytes : List ℕ) × (op.MultiWrite bytes ≡ o) × (length bytes ≤ longest_value)
op_13 (op.MultiWrite bytes) e f = (bytes, refl, f)
op_13 _ e f = absurd (cc)

-- one without fields
bare_op : (code k : ℕ) (c : Op) → (code == k) ≡ true → op_code c ≡ k → op_fields c ≡ [] → OpFits c → ((o : Op) → op_code o ≡ k → c ≡ o) → IsCodecWithin (IsOp code) op_fields (λ input at. Some (c, at))
bare_op code k c test is empty fits only =
    let same : code ≡ k = eqb-true code k test in
    reads_nothing c (IsOp code) op_fields (λ o h. only o (h.0 ∙ same)) (is ∙ sym same, fits) empty

-- one with a value
value_op : (code k : ℕ) (make : List ℕ → Op) → (code == k) ≡ true → ((bytes : List ℕ) → op_code (make bytes) ≡ k) → ((bytes : List ℕ) → op_fields (make bytes) ≡ value bytes)
    → ((bytes : List ℕ) → length bytes ≤ longest_value → OpFits (make bytes)) → ((o : Op) → op_code o ≡ k → OpFits o → (bytes : List ℕ) × (make bytes ≡ o) × (length bytes ≤ longest_value))
    → IsCodecWithin (IsOp code) op_fields (λ input at. and_then (value_at input at) (λ bytes next. Some (make bytes, next)))
value_op code k make test is encoded fits only =
    let same : code ≡ k = eqb-true code k test in
    on (IsOp code) op_fields (λ input at. and_then (value_at input at) (λ bytes next. Some (make bytes, next)))
    (reads_made (λ bytes. length bytes ≤ longest_value) value value_at make (IsOp code) op_fields values
    (λ bytes f. (is bytes ∙ sym same, fits bytes f)) (λ bytes f. sym (encoded bytes)) (λ o h. only o (h.0 ∙ same) h.1))

reads_op_fields : (code : ℕ) → IsCodecWithin (IsOp code) op_fields (op_fields_at code)
unfolding op_fields_at
reads_op_fields code =
    reads_either (code == 1) (IsOp code) op_fields _ _ (λ t. bare_op code 1 op.RegisterRead t refl refl tt op_1) (λ n1.
    reads_either (code == 2) (IsOp code) op_fields _ _ (λ t. value_op code 2 (λ bytes. op.RegisterWrite bytes) t (λ b. refl) (λ b. refl) (λ b f. f) op_2) (λ n2.
    reads_either (code == 3) (IsOp code) op_fields _ _ (λ t. bare_op code 3 op.CounterRead t refl refl tt op_3) (λ n3.
    reads_either (code == 4) (IsOp code) op_fields _ _ (λ t.
    let same : code ≡ 4 = eqb-true code 4 t in
    on (IsOp code) op_fields (λ input at. and_then (integer_at w64 input at) (λ amount next. Some (op.CounterAdd amount, next)))
    (reads_made (FitsSigned w64) (integer w64) (integer_at w64) (λ amount. op.CounterAdd amount) (IsOp code) op_fields amounts
    (λ z f. (sym same, f)) (λ z f. refl) (λ o h. op_4 o (h.0 ∙ same) h.1))) (λ n4.
    reads_either (code == 5) (IsOp code) op_fields _ _ (λ t. bare_op code 5 op.SetMembers t refl refl tt op_5) (λ n5.
    reads_either (code == 6) (IsOp code) op_fields _ _ (λ t. value_op code 6 (λ bytes. op.SetContains bytes) t (λ b. refl) (λ b. refl) (λ b f. f) op_6) (λ n6.
    reads_either (code == 7) (IsOp code) op_fields _ _ (λ t. value_op code 7 (λ bytes. op.SetAdd bytes) t (λ b. refl) (λ b. refl) (λ b f. f) op_7) (λ n7.
    reads_either (code == 8) (IsOp code) op_fields _ _ (λ t. value_op code 8 (λ bytes. op.SetRemove bytes) t (λ b. refl) (λ b. refl) (λ b f. f) op_8) (λ n8.
    reads_either (code == 9) (IsOp code) op_fields _ _ (λ t. bare_op code 9 op.FlagRead t refl refl tt op_9) (λ n9.
    reads_either (code == 10) (IsOp code) op_fields _ _ (λ t. bare_op code 10 op.FlagEnable t refl refl tt op_10) (λ n10.
    reads_either (code == 11) (IsOp code) op_fields _ _ (λ t. bare_op code 11 op.FlagDisable t refl refl tt op_11) (λ n11.
    reads_either (code == 12) (IsOp code) op_fields _ _ (λ t. bare_op code 12 op.MultiRead t refl refl tt op_12) (λ n12.
    reads_either (code == 13) (IsOp code) op_fields _ _ (λ t. value_op code 13 (λ bytes. op.MultiWrite bytes) t (λ b. refl) (λ b. refl) (λ b f. f) op_13) (λ n13.
    reads_none (IsOp code) op_fields (λ o h. none o h n1 n2 n3 n4 n5 n6 n7 n8 n9 n10 n11 n12 n13))))))))))))))
  where
    none : (o : Op) → IsOp code o → (code == 1) ≡ false → (code == 2) ≡ false → (code == 3) ≡ false → (code == 4) ≡ false → (code == 5) ≡ false → (code == 6) ≡ false → (code == 7) ≡ false
        → (code == 8) ≡ false → (code == 9) ≡ false → (code == 10) ≡ false → (code == 11) ≡ false → (code == 12) ≡ false → (code == 13) ≡ false → ⊥
    none op.RegisterRead h n1 n2 n3 n4 n5 n6 n7 n8 n9 n10 n11 n12 n13 = unlike code 1 n1 h.0
    none (op.RegisterWrite bytes) h n1 n2 n3 n4 n5 n6 n7 n8 n9 n10 n11 n12 n13 = unlike code 2 n2 h.0
    none op.CounterRead h n1 n2 n3 n4 n5 n6 n7 n8 n9 n10 n11 n12 n13 = unlike code 3 n3 h.0
    none (op.CounterAdd amount) h n1 n2 n3 n4 n5 n6 n7 n8 n9 n10 n11 n12 n13 = unlike code 4 n4 h.0
    none op.SetMembers h n1 n2 n3 n4 n5 n6 n7 n8 n9 n10 n11 n12 n13 = unlike code 5 n5 h.0
    none (op.SetContains bytes) h n1 n2 n3 n4 n5 n6 n7 n8 n9 n10 n11 n12 n13 = unlike code 6 n6 h.0
    none (op.SetAdd bytes) h n1 n2 n3 n4 n5 n6 n7 n8 n9 n10 n11 n12 n13 = unlike code 7 n7 h.0
    none (op.SetRemove bytes) h n1 n2 n3 n4 n5 n6 n7 n8 n9 n10 n11 n12 n13 = unlike code 8 n8 h.0
    none op.FlagRead h n1 n2 n3 n4 n5 n6 n7 n8 n9 n10 n11 n12 n13 = unlike code 9 n9 h.0
    none op.FlagEnable h n1 n2 n3 n4 n5 n6 n7 n8 n9 n10 n11 n12 n13 = unlike code 10 n10 h.0
    none op.FlagDisable h n1 n2 n3 n4 n5 n6 n7 n8 n9 n10 n11 n12 n13 = unlike code 11 n11 h.0
    none op.MultiRead h n1 n2 n3 n4 n5 n6 n7 n8 n9 n10 n11 n12 n13 = unlike code 12 n12 h.0
    none (op.MultiWrite bytes) h n1 n2 n3 n4 n5 n6 n7 n8 n9 n10 n11 n12 n13 = unlike code 13 n13 h.0

op_code-byte : (o : Op) → op_code o ≤ 255
op_code-byte op.RegisterRead = omega arith
op_code-byte (op.RegisterWrite bytes) = omega arith
op_code-byte op.CounterRead = omega arith
op_code-byte (op.CounterAdd amount) = omega arith
op_code-byte op.SetMembers = omega arith
op_code-byte (op.SetContains bytes) = omega arith
op_code-byte (op.SetAdd bytes) = omega arith
op_code-byte (op.SetRemove bytes) = omega arith
op_code-byte op.FlagRead = omega arith
op_code-byte op.FlagEnable = omega arith
op_code-byte op.FlagDisable = omega arith
op_code-byte op.MultiRead = omega arith
op_code-byte (op.MultiWrite bytes) = omega arith

pub reads_ops : ReadsOps
unfolding op_at
reads_ops =
    let IsCode : ℕ → Type 0 = λ n. (0 ≤ n) × (n ≤ 255) in
    refit _ OpFits _ op_encoding op_at
    (reads_then IsCode (λ n. n ∷ []) (number_between_at w8 0 255) op_code OpFits op_fields op_fields_at (reads_byte 0 255 (omega arith)) (λ code f. reads_op_fields code))
    (λ o f. f.1) (λ o f. ((omega arith, op_code-byte o), f)) (λ o f. refl)

-- ---- answers

-- the test by neighbours is the order of all
below_all : (x y : List ℕ) (ys : List (List ℕ)) → bytes_less x y ≡ true → All (λ z. bytes_less y z ≡ true) ys → All (λ z. bytes_less x z ≡ true) ys
below_all x y [] h all = tt
below_all x y (z ∷ zs) h all = (bytes_trans x y z h all.0, below_all x y zs h all.1)

pub rises : (xs : List (List ℕ)) → is_ascending xs ≡ true → AllLater (λ x y. bytes_less x y ≡ true) xs
rises [] e = tt
rises (x ∷ []) e = (tt, tt)
rises (x ∷ y ∷ ys) e =
    let both = and_parts (bytes_less x y) (is_ascending (y ∷ ys)) e in
    let later = rises (y ∷ ys) both.1 in
    ((both.0, below_all x y ys both.0 later.0), later)

pub ascends : (xs : List (List ℕ)) → AllLater (λ x y. bytes_less x y ≡ true) xs → is_ascending xs ≡ true
ascends [] h = refl
ascends (x ∷ []) h = refl
ascends (x ∷ y ∷ ys) h = and_from (bytes_less x y) (is_ascending (y ∷ ys)) h.0.0 (ascends (y ∷ ys) h.1)

reads_values_ : IsCodec ValuesFit values_encoding values_at
unfolding values_at
reads_values_ =
    let Short : List ℕ → Type 0 = λ bytes. length bytes ≤ longest_value in
    let Rises : List (List ℕ) → Type 0 = λ xs. AllLater (λ x y. bytes_less x y ≡ true) xs in
    refit _ ValuesFit _ values_encoding values_at
    (reads_then (λ n. n < 256 ^ 4) (to_be_bytes w32) (number_at w32) (λ (xs : List (List ℕ)). length xs) (λ xs. AllByRecursion Short xs × Rises xs) (many_encoding value)
    (λ count input at. if_passes is_ascending (many_at value_at count input at)) counts
    (λ count f. refit_on _ _ _ _ _ (reads_passing_on (λ xs. (length xs ≡ count) × AllByRecursion Short xs) (many_encoding value) (many_at value_at count) is_ascending Rises (reads_many Short value value_at values count) rises ascends)
    (λ xs g. (g.0.0, (g.0.1, g.1))) (λ xs g. ((g.0, g.1.0), g.1.1)) (λ xs g. refl)))
    (λ xs f. record { few = omega (arith, f.0); each = f.1.0; ascending = f.1.1 }) (λ xs f. (omega (arith, f.few), (f.each, f.ascending))) (λ xs f. refl)

abbrev IsAnswer : ℕ → Answer → Type 0
IsAnswer code a = (answer_code a ≡ code) × AnswerFits a

answer_0 : (a : Answer) → answer_code a ≡ 0 → answer.Done ≡ a
answer_0 answer.Done e = refl
answer_0 _ e = absurd (cc)

answer_1 : (a : Answer) → answer_code a ≡ 1 → answer.Nothing ≡ a
answer_1 answer.Nothing e = refl
answer_1 _ e = absurd (cc)

answer_2 : (a : Answer) → answer_code a ≡ 2 → AnswerFits a → (bytes : List ℕ) × (answer.Value bytes ≡ a) × (length bytes ≤ longest_value)
answer_2 (answer.Value bytes) e f = (bytes, refl, f)
answer_2 _ e f = absurd (cc)

answer_3 : (a : Answer) → answer_code a ≡ 3 → AnswerFits a → (number : ℤ) × (answer.Number number ≡ a) × FitsSigned w128 number
answer_3 (answer.Number number) e f = (number, refl, f)
answer_3 _ e f = absurd (cc)

answer_4 : (a : Answer) → answer_code a ≡ 4 → AnswerFits a → (xs : List (List ℕ)) × (answer.Values xs ≡ a) × ValuesFit xs
answer_4 (answer.Values xs) e f = (xs, refl, f)
answer_4 _ e f = absurd (cc)

answer_5 : (a : Answer) → answer_code a ≡ 5 → (n : ℕ) × (answer.Bit (n == 1) ≡ a) × ((0 ≤ n) × (n ≤ 1))
answer_5 (answer.Bit false) e = (0, refl, (omega arith, omega arith))
answer_5 (answer.Bit true) e = (1, refl, (omega arith, omega arith))
answer_5 _ e = absurd (cc)

bit-encoded : (n : ℕ) → n ≤ 1 → n ∷ [] ≡ bit_encoding (n == 1)
bit-encoded zero le = refl
bit-encoded (suc zero) le = refl
bit-encoded (suc (suc n)) le = absurd (omega arith)

reads_answer_fields : (code : ℕ) → IsCodecWithin (IsAnswer code) answer_fields (answer_fields_at code)
unfolding answer_fields_at
reads_answer_fields code =
    reads_either (code == 0) (IsAnswer code) answer_fields _ _ (λ t. bare 0 answer.Done t refl refl tt answer_0) (λ n0.
    reads_either (code == 1) (IsAnswer code) answer_fields _ _ (λ t. bare 1 answer.Nothing t refl refl tt answer_1) (λ n1.
    reads_either (code == 2) (IsAnswer code) answer_fields _ _ (λ t.
    on (IsAnswer code) answer_fields (λ input at. and_then (value_at input at) (λ bytes next. Some (answer.Value bytes, next)))
    (reads_made (λ bytes. length bytes ≤ longest_value) value value_at (λ bytes. answer.Value bytes) (IsAnswer code) answer_fields values
    (λ bytes f. (sym (eqb-true code 2 t), f)) (λ bytes f. refl) (λ a h. answer_2 a (h.0 ∙ eqb-true code 2 t) h.1))) (λ n2.
    reads_either (code == 3) (IsAnswer code) answer_fields _ _ (λ t.
    on (IsAnswer code) answer_fields (λ input at. and_then (integer_at w128 input at) (λ number next. Some (answer.Number number, next)))
    (reads_made (FitsSigned w128) (integer w128) (integer_at w128) (λ number. answer.Number number) (IsAnswer code) answer_fields sums
    (λ z f. (sym (eqb-true code 3 t), f)) (λ z f. refl) (λ a h. answer_3 a (h.0 ∙ eqb-true code 3 t) h.1))) (λ n3.
    reads_either (code == 4) (IsAnswer code) answer_fields _ _ (λ t.
    on (IsAnswer code) answer_fields (λ input at. and_then (values_at input at) (λ xs next. Some (answer.Values xs, next)))
    (reads_made ValuesFit values_encoding values_at (λ xs. answer.Values xs) (IsAnswer code) answer_fields reads_values_
    (λ xs f. (sym (eqb-true code 4 t), f)) (λ xs f. refl) (λ a h. answer_4 a (h.0 ∙ eqb-true code 4 t) h.1))) (λ n4.
    reads_either (code == 5) (IsAnswer code) answer_fields _ _ (λ t.
    on (IsAnswer code) answer_fields (λ input at. and_then (number_between_at w8 0 1 input at) (λ bit next. Some (answer.Bit (bit == 1), next)))
    (reads_made (λ n. (0 ≤ n) × (n ≤ 1)) (λ n. n ∷ []) (number_between_at w8 0 1) (λ n. answer.Bit (n == 1)) (IsAnswer code) answer_fields (reads_byte 0 1 (omega arith))
    (λ n f. (sym (eqb-true code 5 t), tt)) (λ n f. bit-encoded n f.1) (λ a h. answer_5 a (h.0 ∙ eqb-true code 5 t)))) (λ n5.
    reads_none (IsAnswer code) answer_fields (λ a h. none a h n0 n1 n2 n3 n4 n5)))))))
  where
    bare : (k : ℕ) (c : Answer) → (code == k) ≡ true → answer_code c ≡ k → answer_fields c ≡ [] → AnswerFits c → ((a : Answer) → answer_code a ≡ k → c ≡ a) → IsCodecWithin (IsAnswer code) answer_fields (λ input at. Some (c, at))
    bare k c test is empty fits only =
        let same : code ≡ k = eqb-true code k test in
        reads_nothing c (IsAnswer code) answer_fields (λ a h. only a (h.0 ∙ same)) (is ∙ sym same, fits) empty

    none : (a : Answer) → IsAnswer code a → (code == 0) ≡ false → (code == 1) ≡ false → (code == 2) ≡ false → (code == 3) ≡ false → (code == 4) ≡ false → (code == 5) ≡ false → ⊥
    none answer.Done h n0 n1 n2 n3 n4 n5 = unlike code 0 n0 h.0
    none answer.Nothing h n0 n1 n2 n3 n4 n5 = unlike code 1 n1 h.0
    none (answer.Value bytes) h n0 n1 n2 n3 n4 n5 = unlike code 2 n2 h.0
    none (answer.Number number) h n0 n1 n2 n3 n4 n5 = unlike code 3 n3 h.0
    none (answer.Values xs) h n0 n1 n2 n3 n4 n5 = unlike code 4 n4 h.0
    none (answer.Bit b) h n0 n1 n2 n3 n4 n5 = unlike code 5 n5 h.0

answer_code-byte : (a : Answer) → answer_code a ≤ 255
answer_code-byte answer.Done = omega arith
answer_code-byte answer.Nothing = omega arith
answer_code-byte (answer.Value bytes) = omega arith
answer_code-byte (answer.Number number) = omega arith
answer_code-byte (answer.Values xs) = omega arith
answer_code-byte (answer.Bit b) = omega arith

pub reads_answers : ReadsAnswers
unfolding answer_at
reads_answers =
    let IsCode : ℕ → Type 0 = λ n. (0 ≤ n) × (n ≤ 255) in
    refit _ AnswerFits _ answer_encoding answer_at
    (reads_then IsCode (λ n. n ∷ []) (number_between_at w8 0 255) answer_code AnswerFits answer_fields answer_fields_at (reads_byte 0 255 (omega arith)) (λ code f. reads_answer_fields code))
    (λ a f. f.1) (λ a f. ((omega arith, answer_code-byte a), f)) (λ a f. refl)
