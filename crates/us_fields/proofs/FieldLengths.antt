-- The lengths of encodings.
use Rattle.std.proofs.Common.{◌≡◌, ℕ, suc, ◌+◌, ◌*◌, List, [], ◌∷◌, length, take, length-append, refl, arith}
use Rattle.std.specs.Int.{to_be_bytes, w16, w64}
use Rattle.std.specs.List.{AllByRecursion}
use Rattle.std.proofs.lemmas.List.{length-take-le}
use Rattle.us_kind.specs.declared.identity.Tid.{Tid}
use Rattle.us_kind.specs.declared.identity.Tag.{Tag}
use Rattle.us_base.specs.declared.shape.Shape.{Shape}
use Rattle.us_base.specs.Shape.{sites_of, IsShape}
use Rattle.us_wire.specs.Fields.{value}
use Rattle.us_wire.specs.Decoders.{many_encoding}
use Rattle.us_migrate.specs.Encodings.{vector_encoding, VectorFits}
use Rattle.us_value.specs.declared.item.Item.{Item}
use Rattle.us_value.specs.declared.item.Write.{Write}
use Rattle.us_value.specs.declared.operation.Class.{Class}
use Rattle.us_value.specs.declared.operation.Effect.{Effect}
use Rattle.us_value.specs.declared.operation.Effect.TheVariants as effect
use Rattle.us_value.specs.Lengths.{tags_length, effect_length, write_length}
use Rattle.us_fields.specs.Lists.{list_encoding}
use Rattle.us_fields.specs.Effects.{tag_encoding, tags_encoding, effect_encoding, write_encoding, WriteFits, writes_encoding, WritesFit}
use Rattle.us_fields.specs.Tuples.{own_encoding, OwnFits, class_code, touch_encoding, TouchFits, committed_encoding, CommittedFits}
use Rattle.us_fields.specs.Lengths.{sum_of_sizes, list_length, vector_length, own_length, touch_length, committed_length, WritesAreAsLong}
use Rattle.us_fields.proofs.AnswerLengths.{value-length}

-- so many items of one length
pub many-length : {A : Type 0} (s : A → List ℕ) (n : ℕ) → ((x : A) → length (s x) ≡ n) → (xs : List A) → length (many_encoding s xs) ≡ n * length xs
unfolding many_encoding
many-length s n each [] = omega arith
many-length s n each (x ∷ xs) =
    let one = each x in
    let others = many-length s n each xs in
    let both = length-append (s x) (many_encoding s xs) in
    let more : n * suc (length xs) ≡ n + n * length xs = omega arith in
    omega (arith, one, others, both, more)

-- items of lengths of their own
sums-length : {A : Type 0} (F : A → Type 0) (s : A → List ℕ) (size : A → ℕ) → ((x : A) → F x → length (s x) ≡ size x) → (xs : List A) → AllByRecursion F xs → length (many_encoding s xs) ≡ sum_of_sizes size xs
unfolding many_encoding
sums-length F s size each [] all = refl
sums-length F s size each (x ∷ xs) all = omega (arith, length-append (s x) (many_encoding s xs), each x all.0, sums-length F s size each xs all.1)

pub lists-length : {A : Type 0} (F : A → Type 0) (s : A → List ℕ) (size : A → ℕ) → ((x : A) → F x → length (s x) ≡ size x) → (xs : List A) → AllByRecursion F xs → length (list_encoding s xs) ≡ list_length size xs
lists-length F s size each xs all = omega (arith, length-append (to_be_bytes w16 (length xs)) (many_encoding s xs), sums-length F s size each xs all)

pub vectors-length : (shape : Shape) (v : List ℕ) → IsShape shape → VectorFits shape v → length (vector_encoding shape v) ≡ vector_length shape
vectors-length shape v is f =
    let n = suc (sites_of shape) in
    let few : length (take n v) ≡ n = length-take-le n v (omega (arith, f.ten, is.few_sites)) in
    omega (arith, many-length (to_be_bytes w64) 8 (λ k. refl) (take n v), few)

-- ---- effects and writes

tags-length : (tags : List Tag) → length (tags_encoding tags) ≡ tags_length tags
tags-length tags = omega (arith, length-append (to_be_bytes w16 (length tags)) (many_encoding tag_encoding tags), many-length tag_encoding 11 (λ t. refl) tags)

pub effects-length : (e : Effect) → length (effect_encoding e) ≡ effect_length e
effects-length (effect.RegisterWrite bytes) = omega (arith, value-length bytes)
effects-length (effect.CounterAdd amount) = refl
effects-length (effect.SetAdd bytes) = omega (arith, value-length bytes)
effects-length (effect.SetRemove bytes tags) = omega (arith, length-append (value bytes) (tags_encoding tags), value-length bytes, tags-length tags)
effects-length effect.Enable = refl
effects-length (effect.Disable tags) = omega (arith, tags-length tags)
effects-length (effect.MultiWrite bytes tags) = omega (arith, length-append (value bytes) (tags_encoding tags), value-length bytes, tags-length tags)

pub writes-are-as-long : WritesAreAsLong
writes-are-as-long w = omega (arith, length-append w.item.id (w.place ∷ effect_encoding w.effect), effects-length w.effect)

pub list_of_writes-length : (shape : Shape) (ws : List Write) → WritesFit shape ws → length (writes_encoding ws) ≡ list_length write_length ws
list_of_writes-length shape ws f = lists-length (WriteFits shape) write_encoding write_length (λ w g. writes-are-as-long w) ws f.list.each

-- ---- pairs and triples

pub owns-length : (shape : Shape) (p : ℕ × Effect) → OwnFits shape p → length (own_encoding p) ≡ own_length p
owns-length shape p f = omega (arith, effects-length p.1)

pub touches-length : (t : Item × Class) → TouchFits t → length (touch_encoding t) ≡ touch_length t
touches-length t f = omega (arith, length-append t.0.id (class_code t.1 ∷ []))

pub committed-length : (shape : Shape) → IsShape shape → (t : Tid × List ℕ × List Write) → CommittedFits shape t → length (committed_encoding shape t) ≡ committed_length shape t
committed-length shape is t f =
    omega (arith, length-append (vector_encoding shape t.1) (writes_encoding t.2), vectors-length shape t.1 is f.1.0, list_of_writes-length shape t.2 f.1.1)
