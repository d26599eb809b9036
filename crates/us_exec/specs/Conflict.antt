-- When transactions conflict, by the classes that a user declares to conflict.
use Rattle.std.specs.Prelude.{ℕ, Bool, List, map}
use Rattle.us_value.specs.declared.item.Item.{Item}
use Rattle.us_value.specs.declared.operation.Class.{Class}
use Rattle.us_value.specs.Values.{class_of}
use Rattle.us_conflict.specs.Conflicts.{transactions_conflict}
use Rattle.us_exec.specs.declared.Done.{Done}

-- the pairs of classes that are declared to conflict, each in its space
abbrev pub Declared : Type 0
Declared = List (ℕ × Class × Class)

-- the item that an operation is on, and its class
abbrev pub touched : Done → Item × Class
touched d = (d.item, class_of d.op)

-- CONFLICT: some answered operation of the one conflicts with some of the other, which are on one item and whose classes
-- are declared for its space, in one order or the other
abbrev pub conflict : Declared → List Done → List Done → Bool
conflict declared xs ys = transactions_conflict declared (map touched xs) (map touched ys)
