-- The writes of one transaction on an item, before and after those of another; with some left out.
use Rattle.std.proofs.Common.{◌≡◌, ℕ, List, [], ◌∷◌, Bool, true, false, ◌||◌, filter, refl, sym, ap, ◌∙◌, cond, true≢false}
use Rattle.std.specs.List.{list_any}
use Rattle.us_kind.specs.declared.identity.Tid.{Tid}
use Rattle.us_kind.specs.declared.identity.Stamp.{Stamp}
use Rattle.us_value.specs.declared.item.Item.{Item}
use Rattle.us_value.specs.declared.item.Write.{Write}
use Rattle.us_value.specs.declared.operation.Effect.{Effect}
use Rattle.us_value.specs.declared.operation.State.{State}
use Rattle.us_value.specs.Items.{item_eq}
use Rattle.us_value.specs.Values.{updated}
use Rattle.us_history.specs.States.{after_writes}
use Rattle.us_folds.proofs.Effects.{effects-commute}

-- an effect before the writes or after them
effect-writes : (item : Item) (sum : ℕ) (tid : Tid) (ws : List Write) (s : State) (e : Effect) (m : Stamp)
    → updated (after_writes item sum tid s ws) e m ≡ after_writes item sum tid (updated s e m) ws
effect-writes item sum tid [] s e m = refl
effect-writes item sum tid (w ∷ ws) s e m = on (item_eq w.item item) (λ r. effect-writes item sum tid ws r e m)
  where
    on : (b : Bool) → ((r : State) → updated (after_writes item sum tid r ws) e m ≡ after_writes item sum tid (updated r e m) ws)
        → updated (after_writes item sum tid (cond b (updated s w.effect (record { sum = sum; tid = tid; place = w.place })) s) ws) e m
        ≡ after_writes item sum tid (cond b (updated (updated s e m) w.effect (record { sum = sum; tid = tid; place = w.place })) (updated s e m)) ws
    on true again =
        again _ ∙ ap (λ r. after_writes item sum tid r ws) (effects-commute s w.effect e (record { sum = sum; tid = tid; place = w.place }) m)
    on false again = again s

-- those of one transaction before those of another or after them
pub writes-commute : (item : Item) (n m : ℕ) (t u : Tid) (xs ys : List Write) (s : State)
    → after_writes item m u (after_writes item n t s xs) ys ≡ after_writes item n t (after_writes item m u s ys) xs
writes-commute item n m t u xs [] s = refl
writes-commute item n m t u xs (y ∷ ys) s = on (item_eq y.item item) (λ r. writes-commute item n m t u xs ys r)
  where
    on : (b : Bool) → ((r : State) → after_writes item m u (after_writes item n t r xs) ys ≡ after_writes item n t (after_writes item m u r ys) xs)
        → after_writes item m u
        (cond b (updated (after_writes item n t s xs) y.effect (record { sum = m; tid = u; place = y.place })) (after_writes item n t s xs)) ys
        ≡ after_writes item n t (after_writes item m u (cond b (updated s y.effect (record { sum = m; tid = u; place = y.place })) s) ys) xs
    on true again =
        ap (λ r. after_writes item m u r ys) (effect-writes item n t xs s y.effect (record { sum = m; tid = u; place = y.place })) ∙ again _
    on false again = again s

-- none of them is on the item
pub writes-none : (item : Item) (n : ℕ) (t : Tid) (ws : List Write) (s : State) → list_any (λ (w : Write). item_eq w.item item) ws ≡ false
    → after_writes item n t s ws ≡ s
writes-none item n t [] s none = refl
writes-none item n t (w ∷ ws) s none = on (item_eq w.item item) none (λ e. writes-none item n t ws s e)
  where
    on : (b : Bool) → b || list_any (λ (w : Write). item_eq w.item item) ws ≡ false
        → (list_any (λ (w : Write). item_eq w.item item) ws ≡ false → after_writes item n t s ws ≡ s)
        → after_writes item n t (cond b (updated s w.effect (record { sum = n; tid = t; place = w.place })) s) ws ≡ s
    on true e again = absurd (true≢false e)
    on false e again = again e

-- those that are kept hold all that are on the item
pub writes-kept : (item : Item) (n : ℕ) (t : Tid) (keeps : Write → Bool) → ((w : Write) → item_eq w.item item ≡ true → keeps w ≡ true)
    → (ws : List Write) (s : State) → after_writes item n t s (filter keeps ws) ≡ after_writes item n t s ws
writes-kept item n t keeps all [] s = refl
writes-kept item n t keeps all (w ∷ ws) s = on (keeps w) refl (item_eq w.item item) refl (λ r. writes-kept item n t keeps all ws r)
  where
    on : (k : Bool) → keeps w ≡ k → (b : Bool) → item_eq w.item item ≡ b
        → ((r : State) → after_writes item n t r (filter keeps ws) ≡ after_writes item n t r ws)
        → after_writes item n t s (cond k (w ∷ filter keeps ws) (filter keeps ws))
        ≡ after_writes item n t (cond b (updated s w.effect (record { sum = n; tid = t; place = w.place })) s) ws
    on true e b f again =
        ap (λ c. after_writes item n t (cond c (updated s w.effect (record { sum = n; tid = t; place = w.place })) s) (filter keeps ws)) f ∙ again _
    on false e true f again = absurd (true≢false (sym (all w f) ∙ e))
    on false e false f again = again s
