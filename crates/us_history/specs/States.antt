-- The state that an operation meets.
use Rattle.std.specs.Prelude.{ℕ, List, [], ◌∷◌, if◌then◌else◌, Option, Some, None}
use Rattle.us_kind.specs.declared.identity.Tid.{Tid}
use Rattle.us_base.specs.Vector.{at_most, sum_of}
use Rattle.us_value.specs.declared.item.Item.{Item}
use Rattle.us_value.specs.declared.item.Write.{Write}
use Rattle.us_value.specs.declared.operation.Kind.{Kind}
use Rattle.us_value.specs.declared.operation.Kind.TheVariants.{Register}
use Rattle.us_value.specs.declared.operation.Effect.{Effect}
use Rattle.us_value.specs.declared.operation.State.{State}
use Rattle.us_value.specs.Items.{item_eq}
use Rattle.us_value.specs.Catalogs.{kind_in}
use Rattle.us_value.specs.Values.{initial, updated}
use Rattle.us_history.specs.declared.LogTx.{LogTx}

-- THE VERSION OF AN ITEM: the writes on it of the transactions with vectors at most the snapshot, applied under their stamps
abbrev pub after_writes : Item → ℕ → Tid → State → List Write → State
after_writes item sum tid s [] = s
after_writes item sum tid s (w ∷ ws) =
    after_writes item sum tid
    (if item_eq w.item item then updated s w.effect (record { sum = sum; tid = tid; place = w.place }) else s) ws

abbrev pub after_log : Item → List ℕ → State → List LogTx → State
after_log item snapshot s [] = s
after_log item snapshot s (t ∷ ts) =
    after_log item snapshot (if at_most t.vector snapshot then after_writes item (sum_of t.vector) t.tid s t.writes else s) ts

-- the sum under which a transaction's own effects count: above every other
abbrev pub own_sum : ℕ
own_sum = 340282366920938463463374607431768211455

-- then the transaction's own effects
abbrev pub after_own : Tid → State → List (ℕ × Effect) → State
after_own tid s [] = s
after_own tid s (e ∷ es) = after_own tid (updated s e.1 (record { sum = own_sum; tid = tid; place = e.0 })) es

-- which are those of its earlier writes on the item
abbrev pub own_effects : Item → List Write → List (ℕ × Effect)
own_effects item [] = []
own_effects item (w ∷ ws) = if item_eq w.item item then (w.place, w.effect) ∷ own_effects item ws else own_effects item ws

-- the kind of a space's items. A space that isn't configured has no items, so that any will do
abbrev pub or_register : Option Kind → Kind
or_register None = Register
or_register (Some kind) = kind

abbrev pub kind_for : List (ℕ × Kind) → ℕ → Kind
kind_for spaces space = or_register (kind_in spaces space)

-- WHAT AN OPERATION MEETS: an item's version in the snapshot, and then the transaction's own effects on it
abbrev pub state_at : List (ℕ × Kind) → List LogTx → Tid → List ℕ → Item → List (ℕ × Effect) → State
state_at spaces log tid snapshot item own = after_own tid (after_log item snapshot (initial (kind_for spaces item.space)) log) own
