-- The updates that an operation sees, and the value that it has.
use Rattle.std.specs.Prelude.{◌≡◌, ℕ, ◌+◌, List, [], ◌∷◌, ◌++◌, Bool, ◌&&◌, nat_lt, if◌then◌else◌}
use Rattle.std.specs.List.{list_any}
use Rattle.us_kind.specs.Comparison.{tid_eq}
use Rattle.us_kind.specs.Updates.{Update}
use Rattle.us_kind.specs.declared.identity.Tid.{Tid}
use Rattle.us_kind.specs.declared.identity.Tag.{Tag}
use Rattle.us_value.specs.declared.item.Item.{Item}
use Rattle.us_value.specs.declared.operation.Op.{Op}
use Rattle.us_value.specs.Items.{item_eq}
use Rattle.us_value.specs.Values.{is_update, value_of}
use Rattle.us_exec.specs.declared.Count.{Count}
use Rattle.us_exec.specs.declared.Done.{Done}
use Rattle.us_exec.specs.declared.Entry.{Entry}
use Rattle.us_exec.specs.Past.{is_before}

-- a transaction's updates of an item, from this place on
abbrev pub updates_from : ℕ → Tid → Item → List Done → List (Update Op)
updates_from place tid item [] = []
updates_from place tid item (d ∷ ds) =
    if is_update d.op && item_eq d.item item
    then record { tag = record { tid = tid; place = place }; op = d.op } ∷ updates_from (place + 1) tid item ds
    else updates_from (place + 1) tid item ds

abbrev pub updates_of : Tid → Item → List Done → List (Update Op)
updates_of tid item ds = updates_from 1 tid item ds

-- the updates of an item by the transactions of a past, in arbitration order and the order of the operations
abbrev pub visible : Item → List Count → List Entry → List (Update Op)
visible item past [] = []
visible item past (e ∷ es) = if is_before e past then updates_of e.tid item e.ops ++ visible item past es else visible item past es

-- a past holds the transaction
abbrev pub holds_tid : Tid → List Count → List Entry → Bool
holds_tid tid past es = list_any (λ e. tid_eq e.tid tid && is_before e past) es

-- the past of a committed transaction
abbrev pub past_in : Tid → List Entry → List Count
past_in tid [] = []
past_in tid (e ∷ es) = if tid_eq e.tid tid then e.past else past_in tid es

-- AFTER, among the updates that a transaction with this past and those before it made: an update is after another
-- where its transaction has the other's before it, or where both stand in one transaction and it comes later
abbrev pub comes_after : List Entry → Tid → List Count → Tag → Tag → Bool
comes_after es tid past t u =
    if tid_eq t.tid u.tid
    then nat_lt u.place t.place
    else holds_tid u.tid (if tid_eq t.tid tid then past else past_in t.tid es) es

-- each answered operation has its value over the past's updates of the item and the transaction's own earlier ones
abbrev pub HaveValues : List Entry → Tid → List Count → List Done → List Done → Type 0
HaveValues es tid past earlier [] = Unit {0}
HaveValues es tid past earlier (d ∷ ds) =
    (d.answer ≡ value_of d.op (visible d.item past es ++ updates_of tid d.item earlier) (comes_after es tid past))
    × HaveValues es tid past (earlier ++ d ∷ []) ds
