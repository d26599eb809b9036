-- Pairs and triples of which packets hold lists: how each is encoded, which have an encoding, and which stands at a place.
use Rattle.std.specs.Prelude.{ℕ, ◌≤◌, ◌==◌, List, [], ◌∷◌, ◌++◌, Bool, nat_le, Some, None, if◌then◌else◌}
use Rattle.std.specs.Int.{w8}
use Rattle.us_kind.specs.declared.identity.Tid.{Tid}
use Rattle.us_base.specs.declared.shape.Shape.{Shape}
use Rattle.us_base.specs.Vector.{entry}
use Rattle.us_wire.specs.Fields.{number_at}
use Rattle.us_wire.specs.Decoders.{Decoder}
use Rattle.us_migrate.specs.Encodings.{tid_encoding, vector_encoding, TidFits, VectorFits}
use Rattle.us_migrate.specs.Decoders.{tid_at, vector_at}
use Rattle.us_value.specs.declared.item.Item.{Item}
use Rattle.us_value.specs.declared.item.Write.{Write}
use Rattle.us_value.specs.declared.operation.Class.{Class}
use Rattle.us_value.specs.declared.operation.Class.TheVariants as class
use Rattle.us_value.specs.declared.operation.Effect.{Effect}
use Rattle.us_fields.specs.Fields.{item_encoding, ItemFits}
use Rattle.us_fields.specs.FieldDecoders.{item_at}
use Rattle.us_fields.specs.Lists.{both_at, made_at, coded_at}
use Rattle.us_fields.specs.Effects.{effect_encoding, EffectFits, effect_at, writes_encoding, WritesFit, writes_at}

-- ---- a transaction's own effects: any place of a byte, and the effect

abbrev pub own_encoding : ℕ × Effect → List ℕ
own_encoding p = p.0 ∷ effect_encoding p.1

abbrev pub OwnFits : Shape → ℕ × Effect → Type 0
OwnFits shape p = (p.0 ≤ 255) × EffectFits shape p.1

unfoldable pub own_at : Shape → Decoder (ℕ × Effect)
own_at shape = both_at (number_at w8) (effect_at shape)

-- ---- touches: an item, and the class of what is done to it

abbrev pub class_code : Class → ℕ
class_code class.Read = 1
class_code class.Write = 2
class_code class.Give = 3
class_code class.Take = 4
class_code class.Add = 5
class_code class.Remove = 6
class_code class.Enable = 7
class_code class.Disable = 8

unfoldable pub class_fields_at : ℕ → Decoder Class
class_fields_at code input at =
    if code == 1 then Some (class.Read, at)
    else if code == 2 then Some (class.Write, at)
    else if code == 3 then Some (class.Give, at)
    else if code == 4 then Some (class.Take, at)
    else if code == 5 then Some (class.Add, at)
    else if code == 6 then Some (class.Remove, at)
    else if code == 7 then Some (class.Enable, at)
    else if code == 8 then Some (class.Disable, at)
    else None

unfoldable pub class_at : Decoder Class
class_at = coded_at class_fields_at

abbrev pub touch_encoding : Item × Class → List ℕ
touch_encoding t = item_encoding t.0 ++ (class_code t.1 ∷ [])

abbrev pub TouchFits : Item × Class → Type 0
TouchFits t = ItemFits t.0

unfoldable pub touch_at : Decoder (Item × Class)
touch_at = both_at item_at class_at

-- ---- committed transactions, as packets take them to other logs

abbrev pub committed_encoding : Shape → Tid × List ℕ × List Write → List ℕ
committed_encoding shape t = tid_encoding t.0 ++ (vector_encoding shape t.1 ++ writes_encoding t.2)

abbrev pub CommittedFits : Shape → Tid × List ℕ × List Write → Type 0
CommittedFits shape t = TidFits shape t.0 × (VectorFits shape t.1 × WritesFit shape t.2)

unfoldable pub committed_at : Shape → Decoder (Tid × List ℕ × List Write)
committed_at shape = made_at (λ p. (p.0, p.1.0, p.1.1)) (both_at (tid_at shape) (both_at (vector_at shape) (writes_at shape)))

-- they ascend by the origin's entry, where equal ones may stand
abbrev pub committed_before : ℕ → Tid × List ℕ × List Write → Tid × List ℕ × List Write → Bool
committed_before origin a b = nat_le (entry a.1 origin) (entry b.1 origin)
