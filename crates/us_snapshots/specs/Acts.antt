-- The updating operations of a transaction, with the effects that were prepared for them.
use Rattle.std.specs.Prelude.{◌≡◌, ℕ, ◌+◌, List, [], ◌∷◌, ◌++◌, Option, Some, None, true}
use Rattle.us_kind.specs.Updates.{All}
use Rattle.us_kind.specs.declared.identity.Tid.{Tid}
use Rattle.us_value.specs.declared.item.Item.{Item}
use Rattle.us_value.specs.declared.item.Write.{Write}
use Rattle.us_value.specs.declared.operation.Kind.{Kind}
use Rattle.us_value.specs.declared.operation.Op.{Op}
use Rattle.us_value.specs.declared.operation.Effect.{Effect}
use Rattle.us_value.specs.declared.operation.State.{State}
use Rattle.us_value.specs.Values.{op_fits, prepared}
use Rattle.us_exec.specs.declared.Done.{Done}
use Rattle.us_history.specs.declared.LogTx.{LogTx}
use Rattle.us_history.specs.States.{kind_for, own_effects, state_at}

-- the operation is of its item's kind
abbrev pub Fits : List (ℕ × Kind) → Item → Op → Type 0
Fits spaces item op = op_fits (kind_for spaces item.space) op ≡ true

abbrev pub AllFits : List (ℕ × Kind) → List Done → Type 0
AllFits spaces ds = All (λ (d : Done). Fits spaces d.item d.op) ds

-- AN UPDATING OPERATION, by its place among the transaction's operations, from 1
pub record Act : Type 0 where
  pub place : ℕ
  pub item : Item
  pub op : Op
  pub effect : Effect

abbrev pub act_of : Done → ℕ → Option Effect → List Act
act_of d n None = []
act_of d n (Some e) = record { place = n; item = d.item; op = d.op; effect = e } ∷ []

-- its write
abbrev pub write_for : Act → Write
write_for a = record { item = a.item; place = a.place; effect = a.effect }

abbrev pub writes_in : List Act → List Write
writes_in [] = []
writes_in (a ∷ acts) = write_for a ∷ writes_in acts

-- WHAT AN OPERATION MEETS on an item, over these decided transactions, in the snapshot and after these of its own transaction
abbrev pub met_by : List (ℕ × Kind) → List LogTx → Tid → List ℕ → Item → List Act → State
met_by spaces decided tid snapshot item acts = state_at spaces decided tid snapshot item (own_effects item (writes_in acts))

-- the effect that is prepared for it there
abbrev pub effect_at : List (ℕ × Kind) → List LogTx → Tid → List ℕ → List Act → ℕ → Done → Option Effect
effect_at spaces decided tid snapshot acts n d =
    prepared (record { tid = tid; place = n }) d.op (met_by spaces decided tid snapshot d.item acts)

-- the updating ones of a transaction's operations, the first of them at place n and after these
abbrev pub acts_from : List (ℕ × Kind) → List LogTx → Tid → List ℕ → ℕ → List Act → List Done → List Act
acts_from spaces decided tid snapshot n acts [] = acts
acts_from spaces decided tid snapshot n acts (d ∷ ds) =
    acts_from spaces decided tid snapshot (n + 1) (acts ++ act_of d n (effect_at spaces decided tid snapshot acts n d)) ds

abbrev pub acts_of : List (ℕ × Kind) → List LogTx → Tid → List ℕ → List Done → List Act
acts_of spaces decided tid snapshot ds = acts_from spaces decided tid snapshot 1 [] ds
