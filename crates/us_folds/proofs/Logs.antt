-- A log's transactions in any order, and with some left out.
use Rattle.std.proofs.Common.{◌≡◌, ℕ, List, [], ◌∷◌, Bool, true, false, filter, map, inl, inr, refl, sym, ap, ◌∙◌, cond, IsPermutation}
use Rattle.us_kind.specs.Comparison.{In}
use Rattle.us_kind.proofs.Permutations.{along_permutation}
use Rattle.us_base.specs.Vector.{at_most, sum_of}
use Rattle.us_value.specs.declared.item.Item.{Item}
use Rattle.us_value.specs.declared.item.Write.{Write}
use Rattle.us_value.specs.declared.operation.State.{State}
use Rattle.us_value.specs.Items.{item_eq}
use Rattle.us_history.specs.declared.LogTx.{LogTx}
use Rattle.us_history.specs.States.{after_log, after_writes}
use Rattle.us_folds.specs.Laws.{OrderIsFree, OthersMakeNoDifference, SharesAreEnough, writes_item, share_of}
use Rattle.us_folds.proofs.Writes.{writes-commute, writes-none, writes-kept}

-- what one transaction makes of a state
abbrev shown : Item → List ℕ → LogTx → State → State
shown item snapshot t s = cond (at_most t.vector snapshot) (after_writes item (sum_of t.vector) t.tid s t.writes) s

shown-commute : (item : Item) (snapshot : List ℕ) (t u : LogTx) (s : State)
    → shown item snapshot u (shown item snapshot t s) ≡ shown item snapshot t (shown item snapshot u s)
shown-commute item snapshot t u s = on (at_most t.vector snapshot) (at_most u.vector snapshot)
  where
    on : (b c : Bool)
        → cond c (after_writes item (sum_of u.vector) u.tid (cond b (after_writes item (sum_of t.vector) t.tid s t.writes) s) u.writes)
        (cond b (after_writes item (sum_of t.vector) t.tid s t.writes) s)
        ≡ cond b (after_writes item (sum_of t.vector) t.tid (cond c (after_writes item (sum_of u.vector) u.tid s u.writes) s) t.writes)
        (cond c (after_writes item (sum_of u.vector) u.tid s u.writes) s)
    on true true = writes-commute item (sum_of t.vector) (sum_of u.vector) t.tid u.tid t.writes u.writes s
    on true false = refl
    on false true = refl
    on false false = refl

-- the second log gives the same state as the first, from each state
abbrev GivesSame : Item → List ℕ → List LogTx → List LogTx → Type 0
GivesSame item snapshot xs ys = (s : State) → after_log item snapshot s ys ≡ after_log item snapshot s xs

pub order-free : OrderIsFree
order-free item snapshot s xs ys moved =
    along_permutation (GivesSame item snapshot) (λ xs s. refl)
    (λ t xs ys e s. e (shown item snapshot t s))
    (λ t u xs s. ap (λ r. after_log item snapshot r xs) (shown-commute item snapshot u t s))
    (λ xs ys zs e f s. f s ∙ e s) xs ys moved s

-- a transaction that doesn't write the item
shown-none : (item : Item) (snapshot : List ℕ) (t : LogTx) (s : State) → writes_item item t ≡ false → shown item snapshot t s ≡ s
shown-none item snapshot t s none = on (at_most t.vector snapshot)
  where
    on : (b : Bool) → cond b (after_writes item (sum_of t.vector) t.tid s t.writes) s ≡ s
    on true = writes-none item (sum_of t.vector) t.tid t.writes s none
    on false = refl

pub others-none : OthersMakeNoDifference
others-none item snapshot s stays [] none = refl
others-none item snapshot s stays (t ∷ ts) none =
    on (stays t) refl (λ r. others-none item snapshot r stays ts (λ u i. none u (inr i)))
  where
    on : (b : Bool) → stays t ≡ b → ((r : State) → after_log item snapshot r (filter stays ts) ≡ after_log item snapshot r ts)
        → after_log item snapshot s (cond b (t ∷ filter stays ts) (filter stays ts)) ≡ after_log item snapshot (shown item snapshot t s) ts
    on true e again = again (shown item snapshot t s)
    on false e again = again s ∙ ap (λ r. after_log item snapshot r ts) (sym (shown-none item snapshot t s (none t (inl refl) e)))

pub shares-enough : SharesAreEnough
shares-enough item snapshot s keeps [] all = refl
shares-enough item snapshot s keeps (t ∷ ts) all =
    on (at_most t.vector snapshot) (λ r. shares-enough item snapshot r keeps ts all)
  where
    on : (b : Bool) → ((r : State) → after_log item snapshot r (map (share_of keeps) ts) ≡ after_log item snapshot r ts)
        → after_log item snapshot (cond b (after_writes item (sum_of t.vector) t.tid s (filter keeps t.writes)) s) (map (share_of keeps) ts)
        ≡ after_log item snapshot (cond b (after_writes item (sum_of t.vector) t.tid s t.writes) s) ts
    on true again =
        ap (λ r. after_log item snapshot r (map (share_of keeps) ts)) (writes-kept item (sum_of t.vector) t.tid keeps all t.writes s) ∙ again _
    on false again = again s
