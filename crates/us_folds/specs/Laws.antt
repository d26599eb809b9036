-- What holds of the state that a log gives an item in a snapshot.
use Rattle.std.specs.Prelude.{◌≡◌, ℕ, List, Bool, true, false, filter, map, IsPermutation}
use Rattle.std.specs.List.{list_any}
use Rattle.us_kind.specs.Comparison.{In}
use Rattle.us_kind.specs.Updates.{Commutes}
use Rattle.us_value.specs.declared.item.Item.{Item}
use Rattle.us_value.specs.declared.item.Write.{Write}
use Rattle.us_value.specs.declared.operation.State.{State}
use Rattle.us_value.specs.Items.{item_eq}
use Rattle.us_value.specs.Values.{updated}
use Rattle.us_history.specs.declared.LogTx.{LogTx}
use Rattle.us_history.specs.States.{after_log}

-- two effects give one state in either order
abbrev pub EffectsCommute : Type 0
EffectsCommute = Commutes updated

-- the same transactions in another order give the same state
abbrev pub OrderIsFree : Type 0
OrderIsFree =
    (item : Item) (snapshot : List ℕ) (s : State) (log other : List LogTx) → IsPermutation log other
    → after_log item snapshot s other ≡ after_log item snapshot s log

-- whether a transaction writes an item
abbrev pub writes_item : Item → LogTx → Bool
writes_item item t = list_any (λ (w : Write). item_eq w.item item) t.writes

-- those that are left out don't write the item, so the others give its state
abbrev pub OthersMakeNoDifference : Type 0
OthersMakeNoDifference =
    (item : Item) (snapshot : List ℕ) (s : State) (stays : LogTx → Bool) (log : List LogTx)
    → ((t : LogTx) → In t log → stays t ≡ false → writes_item item t ≡ false)
    → after_log item snapshot s (filter stays log) ≡ after_log item snapshot s log

-- a transaction with some of its writes alone
abbrev pub share_of : (Write → Bool) → LogTx → LogTx
share_of keeps t = record t { writes = filter keeps t.writes }

-- the writes that are kept hold all that are on the item, so they give its state
abbrev pub SharesAreEnough : Type 0
SharesAreEnough =
    (item : Item) (snapshot : List ℕ) (s : State) (keeps : Write → Bool) (log : List LogTx)
    → ((w : Write) → item_eq w.item item ≡ true → keeps w ≡ true)
    → after_log item snapshot s (map (share_of keeps) log) ≡ after_log item snapshot s log
