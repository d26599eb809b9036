-- Updates of a replicated type, and what its laws say of them.
use Rattle.std.specs.Prelude.{◌≡◌, ◌≢◌, ℕ, ◌+◌, ◌≤◌, List, [], ◌∷◌, Bool, true, Option, Some, filter, map, IsPermutation}
use Rattle.us_kind.specs.Comparison.{In, tag_of, stamp_less}
use Rattle.us_kind.specs.declared.identity.Stamp.{Stamp}
use Rattle.us_kind.specs.declared.identity.Tag.{Tag}

-- an update as a user sees it: which one it is, and its operation
pub record Update (O : Type 0) : Type 0 where
  pub tag : Tag
  pub op : O

-- an update as sites exchange it: its stamp, its operation, and the effect that was prepared for it
pub record Stamped (O E : Type 0) : Type 0 where
  pub stamp : Stamp
  pub op : O
  pub effect : E

-- what a user sees of it
abbrev pub update_of : {O E : Type 0} → Stamped O E → Update O
update_of u = record { tag = tag_of u.stamp; op = u.op }

-- the updates as a user sees them
abbrev pub updates_of : {O E : Type 0} → List (Stamped O E) → List (Update O)
updates_of [] = []
updates_of (u ∷ us) = update_of u ∷ updates_of us

-- the state after the effects, applied one after another
abbrev pub state_after : {S O E : Type 0} → (S → E → Stamp → S) → S → List (Stamped O E) → S
state_after updated s [] = s
state_after updated s (u ∷ us) = state_after updated (updated s u.effect u.stamp) us

-- two effects give one state in either order
abbrev pub Commutes : {S E : Type 0} → (S → E → Stamp → S) → Type 0
Commutes {S} {E} updated = (s : S) (a b : E) (m n : Stamp) → updated (updated s a m) b n ≡ updated (updated s b n) a m

-- a state counts at most one more update after each
pub record CountsUpdates {S E : Type 0} (initially : S) (updated : S → E → Stamp → S) (update_count : S → ℕ) : Type 0 where
  pub none : update_count initially ≡ 0
  pub one_more : (s : S) (e : E) (m : Stamp) → update_count (updated s e m) ≤ update_count s + 1

-- P holds of each of these
abbrev pub All : {X : Type 0} → (X → Type 0) → List X → Type 0
All P [] = Unit {0}
All P (x ∷ xs) = P x × All P xs

-- R holds of each of these and each later one
abbrev pub AllLater : {X : Type 0} → (X → X → Type 0) → List X → Type 0
AllLater R [] = Unit {0}
AllLater R (x ∷ xs) = All (R x) xs × AllLater R xs

-- they are of different updates, and the first stands before the second in arbitration order
pub record StandsBefore {O E : Type 0} (u v : Stamped O E) : Type 0 where
  pub apart : tag_of u.stamp ≢ tag_of v.stamp
  pub earlier : stamp_less u.stamp v.stamp ≡ true

-- the updates of the list that u is after
abbrev pub before : {O E : Type 0} → (Tag → Tag → Bool) → Stamped O E → List (Stamped O E) → List (Stamped O E)
before after u us = filter (λ v. after (tag_of u.stamp) (tag_of v.stamp)) us

-- the same update under a stamp with this sum
abbrev pub with_sum : {O E : Type 0} → ℕ → Stamped O E → Stamped O E
with_sum sum u = record { stamp = record { sum = sum; tid = u.stamp.tid; place = u.stamp.place }; op = u.op; effect = u.effect }

-- the updates under the stamps that they had then: an update that isn't committed yet has another sum
abbrev pub with_sums : {O E : Type 0} → (Stamped O E → ℕ) → List (Stamped O E) → List (Stamped O E)
with_sums sum us = map (λ u. with_sum (sum u) u) us

-- the effect of u is what was prepared for it at the state of all those that it is after
pub record WasPrepared {S O E : Type 0} (initially : S) (updated : S → E → Stamp → S) (prepared : Tag → O → S → Option E)
    (after : Tag → Tag → Bool) (us : List (Stamped O E)) (u : Stamped O E) : Type 0 where
  pub sum : Stamped O E → ℕ
  pub effect : prepared (tag_of u.stamp) u.op (state_after updated initially (with_sums sum (before after u us))) ≡ Some u.effect

-- a list of updates in arbitration order, with all that any of them is after
pub record IsHistory {S O E : Type 0} (initially : S) (updated : S → E → Stamp → S) (prepared : Tag → O → S → Option E)
    (after : Tag → Tag → Bool) (us : List (Stamped O E)) : Type 0 where
  pub ordered : AllLater StandsBefore us
  pub made : (u : Stamped O E) → In u us → WasPrepared initially updated prepared after us u

-- the state after a history, applied in arbitration order, answers as the definition
abbrev pub AnswersInOrder : {S O E A : Type 0} → S → (S → E → Stamp → S) → (O → S → A) → (Tag → O → S → Option E)
    → (O → List (Update O) → (Tag → Tag → Bool) → A) → Type 0
AnswersInOrder {S} {O} {E} {A} initially updated answered prepared value =
    (after : Tag → Tag → Bool) (us : List (Stamped O E)) → IsHistory initially updated prepared after us
    → (op : O) → answered op (state_after updated initially us) ≡ value op (updates_of us) after

-- updates give one state in whatever order they are applied
abbrev pub OrderIsFree : {S E : Type 0} → Type 0 → (S → E → Stamp → S) → Type 0
OrderIsFree {S} {E} O updated =
    (s : S) (us vs : List (Stamped O E)) → IsPermutation us vs → state_after updated s vs ≡ state_after updated s us

-- the effect of u is what was prepared for it at the state of all those that it is after, applied in any order
pub record WasPreparedInAnyOrder {S O E : Type 0} (initially : S) (updated : S → E → Stamp → S) (prepared : Tag → O → S → Option E)
    (after : Tag → Tag → Bool) (us : List (Stamped O E)) (u : Stamped O E) : Type 0 where
  pub sum : Stamped O E → ℕ
  pub met : List (Stamped O E)
  pub order : IsPermutation (with_sums sum (before after u us)) met
  pub effect : prepared (tag_of u.stamp) u.op (state_after updated initially met) ≡ Some u.effect

-- a list of updates in arbitration order, with all that any of them is after, each prepared over those in any order
pub record IsHistoryInAnyOrder {S O E : Type 0} (initially : S) (updated : S → E → Stamp → S) (prepared : Tag → O → S → Option E)
    (after : Tag → Tag → Bool) (us : List (Stamped O E)) : Type 0 where
  pub ordered : AllLater StandsBefore us
  pub made : (u : Stamped O E) → In u us → WasPreparedInAnyOrder initially updated prepared after us u

-- the state after a history, applied in any order, answers as the definition
abbrev pub AnswersInAnyOrder : {S O E A : Type 0} → S → (S → E → Stamp → S) → (O → S → A) → (Tag → O → S → Option E)
    → (O → List (Update O) → (Tag → Tag → Bool) → A) → Type 0
AnswersInAnyOrder {S} {O} {E} {A} initially updated answered prepared value =
    (after : Tag → Tag → Bool) (us vs : List (Stamped O E)) → IsHistoryInAnyOrder initially updated prepared after us → IsPermutation us vs
    → (op : O) → answered op (state_after updated initially vs) ≡ value op (updates_of us) after
