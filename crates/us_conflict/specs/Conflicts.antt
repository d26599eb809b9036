-- Which classes of operations conflict in a space, as a user declares it, and when operations and transactions conflict.
use Rattle.std.specs.Prelude.{ℕ, Bool, ◌&&◌, ◌||◌, ◌==◌, List, Option}
use Rattle.std.specs.List.{list_any, position}
use Rattle.us_value.specs.Items.{item_eq}
use Rattle.us_value.specs.declared.item.Item.{Item}
use Rattle.us_value.specs.declared.operation.Class.{Class}
use Rattle.us_value.specs.declared.operation.Class.TheVariants.{Read, Write, Give, Take, Add, Remove, Enable, Disable}

-- the code of a class
abbrev pub class_code : Class → ℕ
class_code Read = 1
class_code Write = 2
class_code Give = 3
class_code Take = 4
class_code Add = 5
class_code Remove = 6
class_code Enable = 7
class_code Disable = 8

-- the same class
abbrev pub class_eq : Class → Class → Bool
class_eq a b = class_code a == class_code b

-- the pair is declared of this space, with these classes in this order
abbrev pub is_pair : ℕ × Class × Class → ℕ → Class → Class → Bool
is_pair pair space a b = ((space == pair.0) && class_eq a pair.1) && class_eq b pair.2

-- some pair says that these classes conflict in the space, in one order or the other
abbrev pub declares : List (ℕ × Class × Class) → ℕ → Class → Class → Bool
declares pairs space a b = list_any (λ pair. is_pair pair space a b || is_pair pair space b a) pairs

-- two operations conflict: they are on one item, and their classes are declared for its space
abbrev pub operations_conflict : List (ℕ × Class × Class) → Item × Class → Item × Class → Bool
operations_conflict pairs x y = item_eq x.0 y.0 && declares pairs x.0.space x.1 y.1

-- an operation conflicts with some of these
abbrev pub conflicts_with_some : List (ℕ × Class × Class) → List (Item × Class) → Item × Class → Bool
conflicts_with_some pairs ys x = list_any (operations_conflict pairs x) ys

-- some operation of the one transaction conflicts with some operation of the other
abbrev pub transactions_conflict : List (ℕ × Class × Class) → List (Item × Class) → List (Item × Class) → Bool
transactions_conflict pairs xs ys = list_any (conflicts_with_some pairs ys) xs

-- the place, from 0, of the first operation that conflicts with one of the other transaction
abbrev pub first_conflict : List (ℕ × Class × Class) → List (Item × Class) → List (Item × Class) → Option ℕ
first_conflict pairs xs ys = position (conflicts_with_some pairs ys) xs
