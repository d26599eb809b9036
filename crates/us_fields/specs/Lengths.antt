-- How long encodings are.
use Rattle.std.specs.Prelude.{◌≡◌, ℕ, ◌+◌, ◌*◌, List, [], ◌∷◌, length, Bool, true, ◌&&◌, nat_le}
use Rattle.us_kind.specs.declared.identity.Tid.{Tid}
use Rattle.us_base.specs.declared.shape.Shape.{Shape}
use Rattle.us_base.specs.Shape.{sites_of}
use Rattle.us_value.specs.declared.item.Item.{Item}
use Rattle.us_value.specs.declared.item.Write.{Write}
use Rattle.us_value.specs.declared.operation.Answer.{Answer}
use Rattle.us_value.specs.declared.operation.Class.{Class}
use Rattle.us_value.specs.declared.operation.Effect.{Effect}
use Rattle.us_wire.specs.Fields.{longest_value}
use Rattle.us_value.specs.Lengths.{answer_length, item_length, effect_length, write_length}
use Rattle.us_fields.specs.Fields.{answer_encoding}
use Rattle.us_fields.specs.Effects.{write_encoding}

-- an answer's encoding is as long as is said of the answer
abbrev pub AnswersAreAsLong : Type 0
AnswersAreAsLong = (answer : Answer) → length (answer_encoding answer) ≡ answer_length answer

-- a write's encoding is as long as is said of the write
abbrev pub WritesAreAsLong : Type 0
WritesAreAsLong = (w : Write) → length (write_encoding w) ≡ write_length w

-- no value is too long
abbrev pub all_short : List (List ℕ) → Bool
all_short [] = true
all_short (v ∷ vs) = nat_le (length v) longest_value && all_short vs

-- the sizes of all
abbrev pub sum_of_sizes : {A : Type 0} → (A → ℕ) → List A → ℕ
sum_of_sizes size [] = 0
sum_of_sizes size (x ∷ xs) = size x + sum_of_sizes size xs

-- two bytes of count, and the items
abbrev pub list_length : {A : Type 0} → (A → ℕ) → List A → ℕ
list_length size xs = 2 + sum_of_sizes size xs

-- site and coordinator, and eight bytes of number
abbrev pub tid_length : ℕ
tid_length = 10

-- eight bytes for strong and for each site
abbrev pub vector_length : Shape → ℕ
vector_length shape = 8 * (sites_of shape + 1)

abbrev pub own_length : ℕ × Effect → ℕ
own_length p = 1 + effect_length p.1

abbrev pub touch_length : Item × Class → ℕ
touch_length t = item_length t.0 + 1

abbrev pub committed_length : Shape → Tid × List ℕ × List Write → ℕ
committed_length shape t = tid_length + vector_length shape + list_length write_length t.2
