-- How many bytes encode an answer or a write. Where a list is longer than its count field can tell, it counts as if the
-- field could.
use Rattle.std.specs.Prelude.{ℕ, ◌+◌, ◌*◌, ◌-◌, ◌^◌, min, List, [], ◌∷◌, length}
use Rattle.us_kind.specs.declared.identity.Tag.{Tag}
use Rattle.us_value.specs.declared.item.Item.{Item}
use Rattle.us_value.specs.declared.item.Write.{Write}
use Rattle.us_value.specs.declared.operation.Answer.{Answer}
use Rattle.us_value.specs.declared.operation.Answer.TheVariants as answer
use Rattle.us_value.specs.declared.operation.Effect.{Effect}
use Rattle.us_value.specs.declared.operation.Effect.TheVariants as effect

-- two bytes of length, and the bytes
abbrev pub value_length : List ℕ → ℕ
value_length value = 2 + length value

-- one byte of space, one of length, and the id
abbrev pub item_length : Item → ℕ
item_length item = 2 + length item.id

-- site and coordinator, eight bytes of number, and the place
abbrev pub tag_length : ℕ
tag_length = 11

-- two bytes of count, and the tags
abbrev pub tags_length : List Tag → ℕ
tags_length tags = 2 + tag_length * length tags

-- values, one after another
abbrev pub all_lengths : List (List ℕ) → ℕ
all_lengths [] = 0
all_lengths (value ∷ values) = value_length value + all_lengths values

-- a code, then the fields; before values four bytes of count
abbrev pub answer_length : Answer → ℕ
answer_length answer.Done = 1
answer_length answer.Nothing = 1
answer_length (answer.Value value) = 1 + value_length value
answer_length (answer.Number number) = 1 + 16
answer_length (answer.Values values) = 1 + 4 + all_lengths values
answer_length (answer.Bit b) = 1 + 1

-- a code, then the fields
abbrev pub effect_length : Effect → ℕ
effect_length (effect.RegisterWrite value) = 1 + value_length value
effect_length (effect.CounterAdd amount) = 1 + 8
effect_length (effect.SetAdd value) = 1 + value_length value
effect_length (effect.SetRemove value tags) = 1 + value_length value + tags_length tags
effect_length effect.Enable = 1
effect_length (effect.Disable tags) = 1 + tags_length tags
effect_length (effect.MultiWrite value tags) = 1 + value_length value + tags_length tags

-- the item, one byte of place, and the effect
abbrev pub write_length : Write → ℕ
write_length write = item_length write.item + 1 + effect_length write.effect

-- a length that no usize can tell is the greatest usize
abbrev pub capped : ℕ → ℕ
capped n = min n (2 ^ 64 - 1)
