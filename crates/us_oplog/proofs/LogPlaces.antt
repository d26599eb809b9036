-- What the places of a log tell: where each item is written, and so its state.
use Rattle.std.proofs.Common.{◌≡◌, ◌∙◌, ℕ, ◌+◌, List, [], ◌∷◌, ◌++◌, length, Bool, true, false, cond, refl, ap, sym, arith, append_assoc, length-append}
use Rattle.std.specs.List.{list_any}
use Rattle.std.specs.Prelude.{◌||◌, Some, slice_get}
use Rattle.us_index.specs.Places.{places_of, ends_in, put_last}
use Rattle.us_index.proofs.LastPlace.{slice_get_seam, ends_in-put, comes_next, put_last-there, put_last-next}
use Rattle.us_index.proofs.OneMore.{placed as placed_one}
use Rattle.us_kind.specs.declared.identity.Tid.{Tid}
use Rattle.us_base.specs.Vector.{at_most, sum_of}
use Rattle.us_value.specs.declared.item.Item.{Item}
use Rattle.us_value.specs.declared.item.Write.{Write}
use Rattle.us_value.specs.declared.operation.State.{State}
use Rattle.us_value.specs.Items.{item_eq}
use Rattle.us_history.specs.declared.LogTx.{LogTx}
use Rattle.us_history.specs.States.{after_writes, after_log}
use Rattle.us_oplog.specs.Logs.{writes_on, placed, after_one, after_places}

-- once a place is there, further writes of its transaction change nothing
placed_there : (item : Item) (n : ℕ) (ws : List Write) (ns : List ℕ) → ends_in n ns ≡ true → placed item n ws ns ≡ ns
placed_there item n [] ns h = refl
placed_there item n (w ∷ ws) ns h = ap (placed item n ws) (same (item_eq w.item item)) ∙ placed_there item n ws ns h
  where
    same : (b : Bool) → cond b (put_last n ns) ns ≡ ns
    same true = put_last-there n ns h
    same false = refl

-- the place of a transaction comes once, where one of its writes is on the item
placed_next : (item : Item) (n : ℕ) (ws : List Write) (ns : List ℕ) → ends_in n ns ≡ false
    → placed item n ws ns ≡ cond (list_any (λ (w : Write). item_eq w.item item) ws) (put_last n ns) ns
placed_next item n [] ns h = refl
placed_next item n (w ∷ ws) ns h = on (item_eq w.item item) (placed_next item n ws ns h)
  where
    on : (b : Bool) → placed item n ws ns ≡ cond (list_any (λ (v : Write). item_eq v.item item) ws) (put_last n ns) ns
        → placed item n ws (cond b (put_last n ns) ns) ≡ cond (b || list_any (λ (v : Write). item_eq v.item item) ws) (put_last n ns) ns
    on true e = placed_there item n ws (put_last n ns) (ap (ends_in n) (put_last-next n ns h) ∙ ends_in-put n ns)
    on false e = e

-- the places of an item, where a transaction comes at the end
pub with_one : (item : Item) (xs ms : List LogTx) (t : LogTx) (n : ℕ) (was now : List ℕ) → n ≡ length xs → ms ≡ xs ++ t ∷ []
    → was ≡ places_of (writes_on item) 0 xs → now ≡ placed item n t.writes was → now ≡ places_of (writes_on item) 0 ms
with_one item xs ms t n was now at more before after =
    let next : ends_in n was ≡ false = ap (ends_in n) before ∙ comes_next (writes_on item) xs n (omega arith) in
    placed_one (writes_on item) xs ms t n was now at more before (after ∙ placed_next item n t.writes was next)

-- a transaction that doesn't write the item leaves its state
unwritten : (item : Item) (sum : ℕ) (tid : Tid) (s : State) (ws : List Write) → list_any (λ (w : Write). item_eq w.item item) ws ≡ false
    → after_writes item sum tid s ws ≡ s
unwritten item sum tid s [] h = refl
unwritten item sum tid s (w ∷ ws) h = on (item_eq w.item item) _ h (unwritten item sum tid s ws)
  where
    on : (b : Bool) (changed : State) → (b || list_any (λ (v : Write). item_eq v.item item) ws) ≡ false
        → (list_any (λ (v : Write). item_eq v.item item) ws ≡ false → after_writes item sum tid s ws ≡ s)
        → after_writes item sum tid (cond b changed s) ws ≡ s
    on true changed h rest = absurd (cc)
    on false changed h rest = rest h

both_same : {X : Type 0} (b : Bool) (x y : X) → x ≡ y → cond b x y ≡ y
both_same true x y e = e
both_same false x y e = refl

-- the state by the places of the transactions behind a front is the state by all of them
behind : (item : Item) (snapshot : List ℕ) (ys xs log : List LogTx) (s : State) → log ≡ xs ++ ys
    → after_places item snapshot log s (places_of (writes_on item) (length xs) ys) ≡ after_log item snapshot s ys
behind item snapshot [] xs log s e = refl
behind item snapshot (t ∷ ts) xs log s e =
    let more : log ≡ (xs ++ t ∷ []) ++ ts = e ∙ sym (append_assoc xs (t ∷ []) ts) in
    let next : length xs + 1 ≡ length (xs ++ t ∷ []) = omega (arith, length-append xs (t ∷ [])) in
    let here : slice_get log (length xs) ≡ Some t = ap (λ l. slice_get l (length xs)) e ∙ slice_get_seam xs t ts in
    on (writes_on item t) refl here
    (λ r. ap (λ n. after_places item snapshot log r (places_of (writes_on item) n ts)) next ∙ behind item snapshot ts (xs ++ t ∷ []) log r more)
  where
    on : (b : Bool) → writes_on item t ≡ b → slice_get log (length xs) ≡ Some t
        → ((r : State) → after_places item snapshot log r (places_of (writes_on item) (length xs + 1) ts) ≡ after_log item snapshot r ts)
        → after_places item snapshot log s (cond b (length xs ∷ places_of (writes_on item) (length xs + 1) ts) (places_of (writes_on item) (length xs + 1) ts))
        ≡ after_log item snapshot (cond (at_most t.vector snapshot) (after_writes item (sum_of t.vector) t.tid s t.writes) s) ts
    on true written here rest =
        ap (λ o. after_places item snapshot log (after_one item snapshot s o) (places_of (writes_on item) (length xs + 1) ts)) here
        ∙ rest (cond (at_most t.vector snapshot) (after_writes item (sum_of t.vector) t.tid s t.writes) s)
    on false written here rest =
        rest s ∙ ap (λ r. after_log item snapshot r ts) (sym (both_same (at_most t.vector snapshot) _ s (unwritten item (sum_of t.vector) t.tid s t.writes written)))

-- the state by an item's places is the state by the whole log
pub state_by_places : (item : Item) (snapshot : List ℕ) (log : List LogTx) (s : State)
    → after_places item snapshot log s (places_of (writes_on item) 0 log) ≡ after_log item snapshot s log
state_by_places item snapshot log s = behind item snapshot log [] log s refl
