-- What a log stands for, and where its transactions write an item.
use Rattle.std.specs.Prelude.{ℕ, List, [], ◌∷◌, Bool, Option, Some, None, slice_get, if◌then◌else◌}
use Rattle.std.specs.List.{list_any}
use Rattle.us_index.specs.Places.{put_last}
use Rattle.us_base.specs.Vector.{at_most, sum_of}
use Rattle.us_value.specs.declared.item.Item.{Item}
use Rattle.us_value.specs.declared.item.Write.{Write}
use Rattle.us_value.specs.declared.operation.State.{State}
use Rattle.us_value.specs.Items.{item_eq}
use Rattle.us_history.specs.declared.LogTx.{LogTx}
use Rattle.us_history.specs.States.{after_writes}

-- the transactions, in order of coming, and the vector below which no read asks
pub record LogState : Type 0 where
  pub transactions : List LogTx
  pub floor : List ℕ

-- the transaction writes the item
abbrev pub writes_on : Item → LogTx → Bool
writes_on item t = list_any (λ (w : Write). item_eq w.item item) t.writes

-- the places of an item, where a transaction with these writes comes with place n
abbrev pub placed : Item → ℕ → List Write → List ℕ → List ℕ
placed item n [] ns = ns
placed item n (w ∷ ws) ns = placed item n ws (if item_eq w.item item then put_last n ns else ns)

-- the state after a transaction's writes on the item, where its vector is at most the snapshot
abbrev pub after_one : Item → List ℕ → State → Option LogTx → State
after_one item snapshot s None = s
after_one item snapshot s (Some t) = if at_most t.vector snapshot then after_writes item (sum_of t.vector) t.tid s t.writes else s

-- the same after the transactions at these places
abbrev pub after_places : Item → List ℕ → List LogTx → State → List ℕ → State
after_places item snapshot log s [] = s
after_places item snapshot log s (n ∷ ns) = after_places item snapshot log (after_one item snapshot s (slice_get log n)) ns
