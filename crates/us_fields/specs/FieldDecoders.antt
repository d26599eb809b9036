-- Which item, operation or answer stands at a place.
use Rattle.std.specs.Prelude.{ℕ, ◌+◌, List, [], ◌∷◌, length, take, drop, Bool, true, ◌&&◌, ◌==◌, nat_le, None, Some, if◌then◌else◌}
use Rattle.std.specs.Int.{w8, w32, w64, w128}
use Rattle.us_kind.specs.Comparison.{bytes_less}
use Rattle.us_wire.specs.Fields.{number_at, integer_at, value_at}
use Rattle.us_wire.specs.Decoders.{Decoder, and_then, if_passes, many_at, number_between_at}
use Rattle.us_value.specs.declared.item.Item.{Item}
use Rattle.us_value.specs.declared.operation.Op.{Op}
use Rattle.us_value.specs.declared.operation.Op.TheVariants as op
use Rattle.us_value.specs.declared.operation.Answer.{Answer}
use Rattle.us_value.specs.declared.operation.Answer.TheVariants as answer

-- so many bytes
abbrev pub cut_at : ℕ → Decoder (List ℕ)
cut_at size input at = if nat_le (at + size) (length input) then Some (take size (drop at input), at + size) else None

unfoldable pub id_at : Decoder (List ℕ)
id_at input at = and_then (number_between_at w8 1 64 input at) (λ size next. cut_at size input next)

unfoldable pub item_at : Decoder Item
item_at input at =
    and_then (number_between_at w8 1 255 input at) (λ space at'. and_then (id_at input at') (λ id next. Some (record { space = space; id = id }, next)))

-- an operation or an answer that is a value
abbrev pub value_made : {A : Type 0} → (List ℕ → A) → Decoder A
value_made make input at = and_then (value_at input at) (λ bytes next. Some (make bytes, next))

-- the fields of the operation with this code
unfoldable pub op_fields_at : ℕ → Decoder Op
op_fields_at code input at =
    if code == 1 then Some (op.RegisterRead, at)
    else if code == 2 then value_made (λ bytes. op.RegisterWrite bytes) input at
    else if code == 3 then Some (op.CounterRead, at)
    else if code == 4 then and_then (integer_at w64 input at) (λ amount next. Some (op.CounterAdd amount, next))
    else if code == 5 then Some (op.SetMembers, at)
    else if code == 6 then value_made (λ bytes. op.SetContains bytes) input at
    else if code == 7 then value_made (λ bytes. op.SetAdd bytes) input at
    else if code == 8 then value_made (λ bytes. op.SetRemove bytes) input at
    else if code == 9 then Some (op.FlagRead, at)
    else if code == 10 then Some (op.FlagEnable, at)
    else if code == 11 then Some (op.FlagDisable, at)
    else if code == 12 then Some (op.MultiRead, at)
    else if code == 13 then value_made (λ bytes. op.MultiWrite bytes) input at
    else None

unfoldable pub op_at : Decoder Op
op_at input at = and_then (number_between_at w8 0 255 input at) (λ code next. op_fields_at code input next)

-- each stands before the next
abbrev pub is_below_first : List ℕ → List (List ℕ) → Bool
is_below_first x [] = true
is_below_first x (y ∷ ys) = bytes_less x y

abbrev pub is_ascending : List (List ℕ) → Bool
is_ascending [] = true
is_ascending (x ∷ xs) = is_below_first x xs && is_ascending xs

unfoldable pub values_at : Decoder (List (List ℕ))
values_at input at = and_then (number_at w32 input at) (λ count next. if_passes is_ascending (many_at value_at count input next))

-- the fields of the answer with this code
unfoldable pub answer_fields_at : ℕ → Decoder Answer
answer_fields_at code input at =
    if code == 0 then Some (answer.Done, at)
    else if code == 1 then Some (answer.Nothing, at)
    else if code == 2 then value_made (λ bytes. answer.Value bytes) input at
    else if code == 3 then and_then (integer_at w128 input at) (λ number next. Some (answer.Number number, next))
    else if code == 4 then and_then (values_at input at) (λ values next. Some (answer.Values values, next))
    else if code == 5 then and_then (number_between_at w8 0 1 input at) (λ bit next. Some (answer.Bit (bit == 1), next))
    else None

unfoldable pub answer_at : Decoder Answer
answer_at input at = and_then (number_between_at w8 0 255 input at) (λ code next. answer_fields_at code input next)
