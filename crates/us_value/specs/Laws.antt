-- The laws of the joined type.
use Rattle.std.specs.Prelude.{◌≡◌, ◌≢◌, ◌<◌, ◌-◌, ◌^◌, ◌↔◌, ◌++◌, ℕ, List, Bool, true, false, None, IsPermutation}
use Rattle.us_kind.specs.declared.identity.Tag.{Tag}
use Rattle.us_kind.specs.declared.identity.Tid.{Tid}
use Rattle.us_kind.specs.Updates.{All, AllLater, CountsUpdates, IsHistoryInAnyOrder, StandsBefore, Stamped, WasPreparedInAnyOrder, state_after, updates_of}
use Rattle.us_kind.specs.Comparison.{In}
use Rattle.us_value.specs.declared.operation.Effect.{Effect}
use Rattle.us_value.specs.declared.operation.Kind.{Kind}
use Rattle.us_value.specs.declared.operation.Op.{Op}
use Rattle.us_value.specs.Values.{answered, update_count, initial, is_update, op_fits, prepared, updated, value_of}

-- all these operations are of the kind
abbrev pub AllFit : Kind → List (Stamped Op Effect) → Type 0
AllFit k us = All (λ u. op_fits k u.op ≡ true) us

-- the state after a history of operations of one kind, applied in any order, answers each of them as the definition
abbrev pub AnswersAsDefined : Type 0
AnswersAsDefined =
    (k : Kind) (after : Tag → Tag → Bool) (us vs : List (Stamped Op Effect)) → AllFit k us
    → IsHistoryInAnyOrder (initial k) updated prepared after us → IsPermutation us vs
    → (op : Op) → op_fits k op ≡ true → answered op (state_after updated (initial k) vs) ≡ value_of op (updates_of us) after

-- of the operations of a kind exactly those that update have an effect, whatever was applied before
abbrev pub PreparesUpdates : Type 0
PreparesUpdates =
    (k : Kind) (us : List (Stamped Op Effect)) (tag : Tag) (op : Op) → op_fits k op ≡ true
    → (prepared tag op (state_after updated (initial k) us) ≡ None) ↔ (is_update op ≡ false)

-- the sum under which a transaction's own updates are applied: the greatest there is
abbrev pub own_sum : ℕ
own_sum = 2 ^ 128 - 1

-- what a transaction sees of others: in arbitration order, under lesser sums
pub record AreVisible (tid : Tid) (us : List (Stamped Op Effect)) : Type 0 where
  pub of_others : All (λ u. u.stamp.tid ≢ tid) us
  pub lesser : All (λ u. u.stamp.sum < own_sum) us
  pub ordered : AllLater StandsBefore us

-- a transaction's own updates, in the order of its operations
pub record AreOwn (tid : Tid) (us : List (Stamped Op Effect)) : Type 0 where
  pub of_it : All (λ u. u.stamp.tid ≡ tid) us
  pub greatest : All (λ u. u.stamp.sum ≡ own_sum) us
  pub ordered : AllLater (λ u v. u.stamp.place < v.stamp.place) us

-- visible updates, applied in any order, and the transaction's own ones after them answer as the definition over the
-- visible ones and then the own ones
abbrev pub OwnUpdatesComeLast : Type 0
OwnUpdatesComeLast =
    (k : Kind) (after : Tag → Tag → Bool) (tid : Tid) (visible own applied : List (Stamped Op Effect)) → AllFit k visible → AllFit k own
    → AreVisible tid visible → AreOwn tid own
    → ((u : Stamped Op Effect) → In u (visible ++ own) → WasPreparedInAnyOrder (initial k) updated prepared after (visible ++ own) u)
    → IsPermutation visible applied
    → (op : Op) → op_fits k op ≡ true
    → answered op (state_after updated (state_after updated (initial k) applied) own) ≡ value_of op (updates_of visible ++ updates_of own) after

-- a state counts no more updates than were applied to it
abbrev pub CountsAsApplied : Type 0
CountsAsApplied = (k : Kind) → CountsUpdates (initial k) updated update_count
