-- How items, operations and answers are encoded, and which have an encoding.
use Rattle.std.specs.Prelude.{◌≡◌, ℕ, ◌<◌, ◌≤◌, ◌^◌, List, [], ◌∷◌, ◌++◌, length, Bool, true, false, FitsSigned}
use Rattle.std.specs.Int.{to_be_bytes, w32, w64, w128}
use Rattle.std.specs.List.{AllByRecursion}
use Rattle.us_kind.specs.Comparison.{bytes_less}
use Rattle.us_kind.specs.Updates.{AllLater}
use Rattle.us_wire.specs.Fields.{integer, value, longest_value}
use Rattle.us_wire.specs.Decoders.{many_encoding}
use Rattle.us_migrate.specs.Encodings.{IsOneOf}
use Rattle.us_value.specs.declared.item.Item.{Item}
use Rattle.us_value.specs.declared.operation.Op.{Op}
use Rattle.us_value.specs.declared.operation.Op.TheVariants as op
use Rattle.us_value.specs.declared.operation.Answer.{Answer}
use Rattle.us_value.specs.declared.operation.Answer.TheVariants as answer

-- a byte of length, and the id
abbrev pub id_encoding : List ℕ → List ℕ
id_encoding id = length id ∷ id

-- the space, and the id
abbrev pub item_encoding : Item → List ℕ
item_encoding item = item.space ∷ id_encoding item.id

-- spaces are 1 to 255, and an id has 1 to 64 bytes
pub record ItemFits (item : Item) : Type 0 where
  pub space : IsOneOf 255 item.space
  pub id : IsOneOf 64 (length item.id)

-- ---- operations: a code, and the fields

abbrev pub op_code : Op → ℕ
op_code op.RegisterRead = 1
op_code (op.RegisterWrite bytes) = 2
op_code op.CounterRead = 3
op_code (op.CounterAdd amount) = 4
op_code op.SetMembers = 5
op_code (op.SetContains bytes) = 6
op_code (op.SetAdd bytes) = 7
op_code (op.SetRemove bytes) = 8
op_code op.FlagRead = 9
op_code op.FlagEnable = 10
op_code op.FlagDisable = 11
op_code op.MultiRead = 12
op_code (op.MultiWrite bytes) = 13

abbrev pub op_fields : Op → List ℕ
op_fields op.RegisterRead = []
op_fields (op.RegisterWrite bytes) = value bytes
op_fields op.CounterRead = []
op_fields (op.CounterAdd amount) = integer w64 amount
op_fields op.SetMembers = []
op_fields (op.SetContains bytes) = value bytes
op_fields (op.SetAdd bytes) = value bytes
op_fields (op.SetRemove bytes) = value bytes
op_fields op.FlagRead = []
op_fields op.FlagEnable = []
op_fields op.FlagDisable = []
op_fields op.MultiRead = []
op_fields (op.MultiWrite bytes) = value bytes

abbrev pub op_encoding : Op → List ℕ
op_encoding o = op_code o ∷ op_fields o

-- a value has at most 1,024 bytes, an amount eight
abbrev pub OpFits : Op → Type 0
OpFits op.RegisterRead = Unit {0}
OpFits (op.RegisterWrite bytes) = length bytes ≤ longest_value
OpFits op.CounterRead = Unit {0}
OpFits (op.CounterAdd amount) = FitsSigned w64 amount
OpFits op.SetMembers = Unit {0}
OpFits (op.SetContains bytes) = length bytes ≤ longest_value
OpFits (op.SetAdd bytes) = length bytes ≤ longest_value
OpFits (op.SetRemove bytes) = length bytes ≤ longest_value
OpFits op.FlagRead = Unit {0}
OpFits op.FlagEnable = Unit {0}
OpFits op.FlagDisable = Unit {0}
OpFits op.MultiRead = Unit {0}
OpFits (op.MultiWrite bytes) = length bytes ≤ longest_value

-- ---- answers: a code, and the fields

abbrev pub answer_code : Answer → ℕ
answer_code answer.Done = 0
answer_code answer.Nothing = 1
answer_code (answer.Value bytes) = 2
answer_code (answer.Number number) = 3
answer_code (answer.Values values) = 4
answer_code (answer.Bit yes') = 5

abbrev pub bit_encoding : Bool → List ℕ
bit_encoding false = 0 ∷ []
bit_encoding true = 1 ∷ []

-- how many there are, and each
abbrev pub values_encoding : List (List ℕ) → List ℕ
values_encoding values = to_be_bytes w32 (length values) ++ many_encoding value values

abbrev pub answer_fields : Answer → List ℕ
answer_fields answer.Done = []
answer_fields answer.Nothing = []
answer_fields (answer.Value bytes) = value bytes
answer_fields (answer.Number number) = integer w128 number
answer_fields (answer.Values values) = values_encoding values
answer_fields (answer.Bit yes') = bit_encoding yes'

abbrev pub answer_encoding : Answer → List ℕ
answer_encoding a = answer_code a ∷ answer_fields a

-- values that ascend by their bytes, each once
pub record ValuesFit (values : List (List ℕ)) : Type 0 where
  pub few : length values < 2 ^ 32
  pub each : AllByRecursion (λ bytes. length bytes ≤ longest_value) values
  pub ascending : AllLater (λ x y. bytes_less x y ≡ true) values

abbrev pub AnswerFits : Answer → Type 0
AnswerFits answer.Done = Unit {0}
AnswerFits answer.Nothing = Unit {0}
AnswerFits (answer.Value bytes) = length bytes ≤ longest_value
AnswerFits (answer.Number number) = FitsSigned w128 number
AnswerFits (answer.Values values) = ValuesFit values
AnswerFits (answer.Bit yes') = Unit {0}
