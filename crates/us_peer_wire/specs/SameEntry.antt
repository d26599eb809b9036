-- `==` on entries of the ballot log is true only of the same entry.
use Rattle.std.proofs.Common.{rules}
use Rattle.std.proofs.lemmas.Grind.{common_steps}
use Rattle.std.specs.Prelude.{◌≡◌, ℕ, List, [], ◌∷◌, Bool, true, false, ◌&&◌, ◌==◌}
use Rattle.std.proofs.Common.{refl, sym, true≢false, arith}
use Rattle.std.proofs.lemmas.Bool.Decides.{nat_tests}
use Rattle.std.specs.Cmp.Lexicographic.{pointwise, bytes_decides}
use Rattle.us_kind.specs.declared.identity.Tid.{Tid}
use Rattle.us_kind.specs.declared.identity.Tag.{Tag}
use Rattle.us_kind.specs.contracts.identity.TidPartialEq.TheImpl.{ghosts as tid}
use Rattle.us_kind.specs.contracts.identity.TagPartialEq.TheImpl.{ghosts as tag}
use Rattle.us_value.specs.declared.item.Item.{Item}
use Rattle.us_value.specs.declared.item.Write.{Write}
use Rattle.us_value.specs.declared.operation.Class.{Class}
use Rattle.us_value.specs.declared.operation.Effect.{Effect}
use Rattle.us_value.specs.declared.operation.Effect.TheVariants as effect
use Rattle.us_value.specs.Items.{item_eq}
use Rattle.us_value.specs.SameItem.{item_eq-Decides}
use Rattle.us_value.specs.contracts.item.WritePartialEq.TheImpl.{ghosts as write}
use Rattle.us_value.specs.contracts.operation.ClassPartialEq.TheImpl.{ghosts as class}
use Rattle.us_value.specs.contracts.operation.EffectPartialEq.TheImpl.{ghosts as effects}
use Rattle.us_peer_wire.specs.declared.message.LogEntry.{LogEntry}
use Rattle.us_peer_wire.specs.contracts.message.LogEntryPartialEq.TheImpl.{ghosts as entry}

-- a test that is true only of the same value
abbrev pub IsOfOne : {A : Type 0} → (A → A → Bool) → Type 0
IsOfOne {A} eq = (x y : A) → eq x y ≡ true → x ≡ y

first : (s t : Bool) → (s && t) ≡ true → s ≡ true
first true t h = refl
first false t h = h

second : (s t : Bool) → (s && t) ≡ true → t ≡ true
second true t h = h
second false t h = absurd (true≢false (sym h))

same_list : {A : Type 0} {eq : A → A → Bool} → IsOfOne eq → IsOfOne (pointwise eq)
same_list one [] [] e = refl
same_list one [] (y ∷ ys) e = absurd (true≢false (sym e))
same_list one (x ∷ xs) [] e = absurd (true≢false (sym e))
same_list {A} {eq} one (x ∷ xs) (y ∷ ys) e =
    λ i. one x y (first (eq x y) (pointwise eq xs ys) e) i ∷ same_list one xs ys (second (eq x y) (pointwise eq xs ys) e) i

same_numbers : IsOfOne (pointwise ◌==◌)
same_numbers xs ys = (bytes_decides xs ys).0

same_tid : IsOfOne tid.eq
same_tid x y e = Prim.search (rules, common_steps)

same_tag : IsOfOne tag.eq
same_tag x y e = Prim.search (rules, common_steps)

same_class : IsOfOne class.eq
same_class x y e = Prim.search (rules, common_steps)

same_item : IsOfOne item_eq
same_item x y e = (item_eq-Decides x y).0 e

same_effect : IsOfOne effects.eq
same_effect (effect.RegisterWrite v) (effect.RegisterWrite w) e = λ i. effect.RegisterWrite (same_numbers v w e i)
same_effect (effect.CounterAdd m) (effect.CounterAdd n) e = Prim.search (rules, common_steps)
same_effect (effect.SetAdd v) (effect.SetAdd w) e = λ i. effect.SetAdd (same_numbers v w e i)
same_effect (effect.SetRemove v ss) (effect.SetRemove w ts) e =
    let value = same_numbers v w (first _ _ e) in
    let tags = same_list same_tag ss ts (second _ _ e) in
    λ i. effect.SetRemove (value i) (tags i)
same_effect effect.Enable effect.Enable e = refl
same_effect (effect.Disable ss) (effect.Disable ts) e = λ i. effect.Disable (same_list same_tag ss ts e i)
same_effect (effect.MultiWrite v ss) (effect.MultiWrite w ts) e =
    let value = same_numbers v w (first _ _ e) in
    let tags = same_list same_tag ss ts (second _ _ e) in
    λ i. effect.MultiWrite (value i) (tags i)
same_effect x y e = absurd (true≢false (sym e))

same_number : (m n : ℕ) → (m == n) ≡ true → m ≡ n
same_number m n e = grind (arith, nat_tests)

same_write : IsOfOne write.eq
same_write x y e =
    let rest = second (item_eq x.item y.item) ((x.place == y.place) && effects.eq x.effect y.effect) e in
    let item = same_item x.item y.item (first (item_eq x.item y.item) ((x.place == y.place) && effects.eq x.effect y.effect) e) in
    let place = same_number x.place y.place (first (x.place == y.place) (effects.eq x.effect y.effect) rest) in
    let effect = same_effect x.effect y.effect (second (x.place == y.place) (effects.eq x.effect y.effect) rest) in
    λ i. record { item = item i; place = place i; effect = effect i }

-- an item and the class of an operation on it
abbrev touch_eq : Item × Class → Item × Class → Bool
touch_eq x y = item_eq x.0 y.0 && class.eq x.1 y.1

same_touch : IsOfOne touch_eq
same_touch x y e =
    let item = same_item x.0 y.0 (first (item_eq x.0 y.0) (class.eq x.1 y.1) e) in
    let kind = same_class x.1 y.1 (second (item_eq x.0 y.0) (class.eq x.1 y.1) e) in
    λ i. (item i, kind i)

pub same_entry : IsOfOne entry.eq
same_entry x y e =
    let writes = pointwise write.eq x.writes y.writes in
    let touches = pointwise touch_eq x.touches y.touches in
    let snapshot = pointwise ◌==◌ x.snapshot y.snapshot in
    let after_tid = second (tid.eq x.tid y.tid) (snapshot && (touches && writes)) e in
    let after_snapshot = second snapshot (touches && writes) after_tid in
    let one_tid = same_tid x.tid y.tid (first (tid.eq x.tid y.tid) (snapshot && (touches && writes)) e) in
    let one_snapshot = same_numbers x.snapshot y.snapshot (first snapshot (touches && writes) after_tid) in
    let one_touches = same_list same_touch x.touches y.touches (first touches writes after_snapshot) in
    let one_writes = same_list same_write x.writes y.writes (second touches writes after_snapshot) in
    λ i. record { tid = one_tid i; snapshot = one_snapshot i; touches = one_touches i; writes = one_writes i }
