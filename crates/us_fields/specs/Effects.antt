-- How effects and writes are encoded, which have an encoding, and which stands at a place.
use Rattle.std.specs.Prelude.{◌≡◌, ℕ, ◌≤◌, ◌==◌, List, [], ◌∷◌, ◌++◌, length, Bool, true, nat_lt, FitsSigned, Some, None, if◌then◌else◌}
use Rattle.std.specs.Int.{w8, w64}
use Rattle.std.specs.Ordering.{is_lt}
use Rattle.us_kind.specs.declared.identity.Tag.{Tag}
use Rattle.us_kind.specs.Tags.{tag_cmp}
use Rattle.us_base.specs.declared.shape.Shape.{Shape}
use Rattle.us_wire.specs.Fields.{integer, integer_at, value, value_at, longest_value}
use Rattle.us_wire.specs.Decoders.{Decoder, number_between_at}
use Rattle.us_migrate.specs.Encodings.{tid_encoding, IsOneOf, TidFits}
use Rattle.us_migrate.specs.Decoders.{tid_at}
use Rattle.us_value.specs.declared.item.Write.{Write}
use Rattle.us_value.specs.declared.operation.Effect.{Effect}
use Rattle.us_value.specs.declared.operation.Effect.TheVariants as effect
use Rattle.us_fields.specs.Fields.{item_encoding, ItemFits}
use Rattle.us_fields.specs.FieldDecoders.{item_at}
use Rattle.us_fields.specs.Lists.{both_at, made_at, coded_at, list_encoding, ListFits, list_at, longest_list, is_in_order, ordered_at}

-- places are 1 to 64, as many as a transaction has operations
abbrev pub places : ℕ
places = 64

-- ---- tags

-- the transaction, and the place there
abbrev pub tag_encoding : Tag → List ℕ
tag_encoding tag = tid_encoding tag.tid ++ (tag.place ∷ [])

pub record TagFits (shape : Shape) (tag : Tag) : Type 0 where
  pub tid : TidFits shape tag.tid
  pub place : IsOneOf places tag.place

unfoldable pub tag_at : Shape → Decoder Tag
tag_at shape = made_at (λ p. record { tid = p.0; place = p.1 }) (both_at (tid_at shape) (number_between_at w8 1 places))

-- tags stand ascending, each once
abbrev pub tag_before : Tag → Tag → Bool
tag_before a b = is_lt (tag_cmp a b)

abbrev pub tags_encoding : List Tag → List ℕ
tags_encoding tags = list_encoding tag_encoding tags

pub record TagsFit (shape : Shape) (tags : List Tag) : Type 0 where
  pub list : ListFits 0 longest_list (TagFits shape) tags
  pub ascending : is_in_order tag_before tags ≡ true

unfoldable pub tags_at : Shape → Decoder (List Tag)
tags_at shape = ordered_at tag_before (list_at 0 longest_list (tag_at shape))

-- ---- effects: a code, and the fields

abbrev pub effect_code : Effect → ℕ
effect_code (effect.RegisterWrite bytes) = 1
effect_code (effect.CounterAdd amount) = 2
effect_code (effect.SetAdd bytes) = 3
effect_code (effect.SetRemove bytes tags) = 4
effect_code effect.Enable = 5
effect_code (effect.Disable tags) = 6
effect_code (effect.MultiWrite bytes tags) = 7

abbrev pub effect_fields : Effect → List ℕ
effect_fields (effect.RegisterWrite bytes) = value bytes
effect_fields (effect.CounterAdd amount) = integer w64 amount
effect_fields (effect.SetAdd bytes) = value bytes
effect_fields (effect.SetRemove bytes tags) = value bytes ++ tags_encoding tags
effect_fields effect.Enable = []
effect_fields (effect.Disable tags) = tags_encoding tags
effect_fields (effect.MultiWrite bytes tags) = value bytes ++ tags_encoding tags

abbrev pub effect_encoding : Effect → List ℕ
effect_encoding e = effect_code e ∷ effect_fields e

-- a value has at most 1,024 bytes, an amount eight, and tags ascend
abbrev pub EffectFits : Shape → Effect → Type 0
EffectFits shape (effect.RegisterWrite bytes) = length bytes ≤ longest_value
EffectFits shape (effect.CounterAdd amount) = FitsSigned w64 amount
EffectFits shape (effect.SetAdd bytes) = length bytes ≤ longest_value
EffectFits shape (effect.SetRemove bytes tags) = (length bytes ≤ longest_value) × TagsFit shape tags
EffectFits shape effect.Enable = Unit {0}
EffectFits shape (effect.Disable tags) = TagsFit shape tags
EffectFits shape (effect.MultiWrite bytes tags) = (length bytes ≤ longest_value) × TagsFit shape tags

-- the fields of the effect with this code
unfoldable pub effect_fields_at : Shape → ℕ → Decoder Effect
effect_fields_at shape code input at =
    if code == 1 then made_at (λ bytes. effect.RegisterWrite bytes) value_at input at
    else if code == 2 then made_at (λ amount. effect.CounterAdd amount) (integer_at w64) input at
    else if code == 3 then made_at (λ bytes. effect.SetAdd bytes) value_at input at
    else if code == 4 then made_at (λ p. effect.SetRemove p.0 p.1) (both_at value_at (tags_at shape)) input at
    else if code == 5 then Some (effect.Enable, at)
    else if code == 6 then made_at (λ tags. effect.Disable tags) (tags_at shape) input at
    else if code == 7 then made_at (λ p. effect.MultiWrite p.0 p.1) (both_at value_at (tags_at shape)) input at
    else None

unfoldable pub effect_at : Shape → Decoder Effect
effect_at shape = coded_at (effect_fields_at shape)

-- ---- writes

-- the item, the place, the effect
abbrev pub write_encoding : Write → List ℕ
write_encoding w = item_encoding w.item ++ (w.place ∷ effect_encoding w.effect)

pub record WriteFits (shape : Shape) (w : Write) : Type 0 where
  pub item : ItemFits w.item
  pub place : IsOneOf places w.place
  pub effect : EffectFits shape w.effect

unfoldable pub write_at : Shape → Decoder Write
write_at shape =
    made_at (λ p. record { item = p.0; place = p.1.0; effect = p.1.1 }) (both_at item_at (both_at (number_between_at w8 1 places) (effect_at shape)))

-- writes stand ascending by place, each place once
abbrev pub write_before : Write → Write → Bool
write_before a b = nat_lt a.place b.place

abbrev pub writes_encoding : List Write → List ℕ
writes_encoding ws = list_encoding write_encoding ws

-- at most 64 writes
pub record WritesFit (shape : Shape) (ws : List Write) : Type 0 where
  pub list : ListFits 0 places (WriteFits shape) ws
  pub ascending : is_in_order write_before ws ≡ true

unfoldable pub writes_at : Shape → Decoder (List Write)
writes_at shape = ordered_at write_before (list_at 0 places (write_at shape))
