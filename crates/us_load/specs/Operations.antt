-- The operation that a word asks for.
use Rattle.std.specs.Prelude.{ℕ, ◌+◌, ◌-◌, ◌/◌, ◌%◌, List, [], ◌∷◌, length, get_or, ℤ, pos, ◌-ℤ◌}
use Rattle.us_value.specs.declared.item.Item.{Item}
use Rattle.us_value.specs.declared.operation.Kind.{Kind}
use Rattle.us_value.specs.declared.operation.Kind.TheVariants.{Register, Counter, Set, Flag, Multi}
use Rattle.us_value.specs.declared.operation.Op.{Op}
use Rattle.us_value.specs.declared.operation.Op.TheVariants.{RegisterRead, RegisterWrite, CounterRead, CounterAdd, SetMembers, SetContains, SetAdd}
use Rattle.us_value.specs.declared.operation.Op.TheVariants.{SetRemove, FlagRead, FlagEnable, FlagDisable, MultiRead, MultiWrite}

-- the kinds of the spaces 1 to 5
abbrev pub kinds : List Kind
kinds = Register ∷ Counter ∷ Set ∷ Flag ∷ Multi ∷ []

abbrev pub space_of : ℕ → ℕ
space_of w = 1 + w % 5

abbrev pub kind_of : ℕ → Kind
kind_of space = get_or kinds (space - 1) Multi

-- a letter from a to h
abbrev pub item_of : ℕ → Item
item_of w = record { space = space_of w; id = (97 + w / 5 % 8) ∷ [] }

-- a letter from A to H
abbrev pub value_of : ℕ → List ℕ
value_of w = (65 + w / 640 % 8) ∷ []

-- from -100 to 100
abbrev pub amount_of : ℕ → ℤ
amount_of w = pos (w / 640 % 201) -ℤ pos 100

-- the operations of a kind, by their codes
abbrev pub operations : Kind → List ℕ → ℤ → List Op
operations Register value amount = RegisterRead ∷ RegisterWrite value ∷ []
operations Counter value amount = CounterRead ∷ CounterAdd amount ∷ []
operations Set value amount = SetMembers ∷ SetContains value ∷ SetAdd value ∷ SetRemove value ∷ []
operations Flag value amount = FlagRead ∷ FlagEnable ∷ FlagDisable ∷ []
operations Multi value amount = MultiRead ∷ MultiWrite value ∷ []

-- one of the operations, counted round
abbrev pub picked : List Op → ℕ → Op
picked ops n = get_or ops (n % length ops) RegisterRead

abbrev pub op_of_kind : Kind → ℕ → Op
op_of_kind kind w = picked (operations kind (value_of w) (amount_of w)) (w / 40)

-- the operation that a word asks for
abbrev pub op_of : ℕ → Op
op_of w = op_of_kind (kind_of (space_of w)) w
