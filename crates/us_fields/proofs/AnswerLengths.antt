-- The length of an answer's encoding.
use Rattle.std.proofs.Common.{◌≡◌, ℕ, ◌+◌, List, [], ◌∷◌, Bool, true, false, length, length-append, refl, ap, ◌∙◌, arith}
use Rattle.std.specs.Int.{to_be_bytes, w16, w32}
use Rattle.us_wire.specs.Fields.{value}
use Rattle.us_wire.specs.Decoders.{many_encoding}
use Rattle.us_value.specs.declared.operation.Answer.TheVariants as answer
use Rattle.us_value.specs.Lengths.{value_length, all_lengths, answer_length}
use Rattle.us_fields.specs.Fields.{answer_encoding, values_encoding}
use Rattle.us_fields.specs.Lengths.{AnswersAreAsLong}

pub value-length : (bytes : List ℕ) → length (value bytes) ≡ value_length bytes
value-length bytes = length-append (to_be_bytes w16 (length bytes)) bytes

all-lengths : (values : List (List ℕ)) → length (many_encoding value values) ≡ all_lengths values
unfolding many_encoding
all-lengths [] = refl
all-lengths (bytes ∷ values) =
    length-append (value bytes) (many_encoding value values)
    ∙ ap (λ n. n + length (many_encoding value values)) (value-length bytes)
    ∙ ap (λ n. value_length bytes + n) (all-lengths values)

values-length : (values : List (List ℕ)) → length (values_encoding values) ≡ 4 + all_lengths values
values-length values = length-append (to_be_bytes w32 (length values)) (many_encoding value values) ∙ ap (λ n. 4 + n) (all-lengths values)

pub answers-are-as-long : AnswersAreAsLong
answers-are-as-long answer.Done = refl
answers-are-as-long answer.Nothing = refl
answers-are-as-long (answer.Value bytes) = let e = value-length bytes in omega arith
answers-are-as-long (answer.Number number) = refl
answers-are-as-long (answer.Values values) = let e = values-length values in omega arith
answers-are-as-long (answer.Bit yes') = on yes'
  where
    on : (b : Bool) → length (answer_encoding (answer.Bit b)) ≡ answer_length (answer.Bit b)
    on true = refl
    on false = refl
