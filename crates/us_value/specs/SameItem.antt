-- The test of two items decides that they are one, so that an item can be looked up by it.
use Rattle.std.proofs.Common.{◌≡◌, List, ℕ, refl, ap}
use Rattle.std.proofs.lemmas.Bool.Decides.{Decides-and, Decides-eqb}
use Rattle.std.proofs.lemmas.Slice.Eq.{compares_Decides}
use Rattle.std.specs.Bool.{Decides}
use Rattle.std.specs.Cmp.{IsEquivalence, IsPartialEquivalence, decided, partial_equiv_from_equiv}
use Rattle.std.specs.Prelude.{IsTrue, ◌++◌, true}
use Rattle.std.specs.Hash as fed
use Rattle.us_kind.specs.Comparison.{bytes_eq}
use Rattle.us_value.specs.declared.item.Item.{Item}
use Rattle.us_value.specs.Items.{item_eq}

bytes_eq-Decides : (xs ys : List ℕ) → Decides (bytes_eq xs ys) (xs ≡ ys)
bytes_eq-Decides = compares_Decides bytes_eq (record { empty = refl; shorter = λ _ _. refl; longer = λ _ _. refl; heads = λ _ _ _ _. refl })

one_item : (a b : Item) → (a.space ≡ b.space) × (a.id ≡ b.id) → a ≡ b
one_item a b e = λ i. record { space = e.0 i; id = e.1 i }

parts : (a b : Item) → a ≡ b → (a.space ≡ b.space) × (a.id ≡ b.id)
parts a b e = (λ i. (e i).space, λ i. (e i).id)

pub item_eq-Decides : (a b : Item) → Decides (item_eq a b) (a ≡ b)
item_eq-Decides a b =
    let both = Decides-and _ _ (Decides-eqb a.space b.space) (bytes_eq-Decides a.id b.id) in
    (λ t. one_item a b (both.0 t), λ e. both.1 (parts a b e))

pub item_equivalence : IsEquivalence item_eq
item_equivalence = decided item_eq item_eq-Decides

pub item_partial_equivalence : IsPartialEquivalence item_eq
item_partial_equivalence = partial_equiv_from_equiv item_equivalence

-- the same items are hashed alike
pub item_hash-Alike : (a b : Item) → IsTrue (item_eq a b) → fed.u8 a.space ++ fed.slice fed.u8 a.id ≡ fed.u8 b.space ++ fed.slice fed.u8 b.id
item_hash-Alike a b t = ap (λ (item : Item). fed.u8 item.space ++ fed.slice fed.u8 item.id) ((item_eq-Decides a b).0 t)
