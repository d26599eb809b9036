-- Conflicts of transactions go both ways.
use Rattle.std.proofs.Common.{◌≡◌, ℕ, List, [], ◌∷◌, Bool, true, false, ◌&&◌, ◌||◌, refl, sym, ap, ◌∙◌, true≢false}
use Rattle.std.specs.List.{list_any}
use Rattle.us_value.specs.declared.item.Item.{Item}
use Rattle.us_value.specs.declared.operation.Class.{Class}
use Rattle.us_value.specs.Items.{item_eq}
use Rattle.us_value.specs.SameItem.{item_eq-Decides}
use Rattle.us_conflict.proofs.PlaceLemmas.{declares-flipped, either_order}
use Rattle.us_conflict.specs.Conflicts.{declares, operations_conflict, transactions_conflict}

any-same : {X : Type 0} (p q : X → Bool) → ((x : X) → p x ≡ q x) → (xs : List X) → list_any p xs ≡ list_any q xs
any-same p q each [] = refl
any-same p q each (x ∷ xs) = λ i. each x i || any-same p q each xs i

any-none : {X : Type 0} (ys : List X) → list_any (λ y. false) ys ≡ false
any-none [] = refl
any-none (y ∷ ys) = any-none ys

-- some x with some y, or some y with some x
any-swapped : {X Y : Type 0} (f : X → Y → Bool) (xs : List X) (ys : List Y) → list_any (λ x. list_any (f x) ys) xs ≡ list_any (λ y. list_any (λ x. f x y) xs) ys
any-swapped f [] ys = sym (any-none ys)
any-swapped f (x ∷ xs) ys = ap (λ b. list_any (f x) ys || b) (any-swapped f xs ys) ∙ either_order (f x) (λ y. list_any (λ z. f z y) xs) ys

item_eq-flipped : (a b : Item) → item_eq a b ≡ true → item_eq b a ≡ true
item_eq-flipped a b t = (item_eq-Decides b a).1 (sym ((item_eq-Decides a b).0 t))

one_way : (pairs : List (ℕ × Class × Class)) (x y : Item × Class) → item_eq x.0 y.0 ≡ true → declares pairs x.0.space x.1 y.1 ≡ declares pairs y.0.space y.1 x.1
one_way pairs x y t =
    ap (λ (item : Item). declares pairs item.space x.1 y.1) ((item_eq-Decides x.0 y.0).0 t) ∙ declares-flipped pairs y.0.space x.1 y.1

operations-flipped : (pairs : List (ℕ × Class × Class)) (x y : Item × Class) → operations_conflict pairs x y ≡ operations_conflict pairs y x
operations-flipped pairs x y = on (item_eq x.0 y.0) (item_eq y.0 x.0) refl refl
  where
    on : (s t : Bool) → item_eq x.0 y.0 ≡ s → item_eq y.0 x.0 ≡ t → operations_conflict pairs x y ≡ operations_conflict pairs y x
    on true true e f = (λ i. e i && one_way pairs x y e i) ∙ sym (ap (λ b. b && declares pairs y.0.space y.1 x.1) f)
    on true false e f = absurd (true≢false (sym (item_eq-flipped x.0 y.0 e) ∙ f))
    on false true e f = absurd (true≢false (sym (item_eq-flipped y.0 x.0 f) ∙ e))
    on false false e f = ap (λ b. b && declares pairs x.0.space x.1 y.1) e ∙ sym (ap (λ b. b && declares pairs y.0.space y.1 x.1) f)

pub conflict-flipped : (pairs : List (ℕ × Class × Class)) (xs ys : List (Item × Class)) → transactions_conflict pairs xs ys ≡ transactions_conflict pairs ys xs
conflict-flipped pairs xs ys =
    any-swapped (operations_conflict pairs) xs ys
    ∙ any-same _ _ (λ y. any-same _ _ (λ x. operations-flipped pairs x y) xs) ys
