-- Which transaction, vector or token stands at a place.
use Rattle.std.specs.Prelude.{ℕ, suc, List, ◌++◌, length, drop, Option, Some}
use Rattle.std.specs.Int.{w8, w64}
use Rattle.us_kind.specs.declared.identity.Tid.{Tid}
use Rattle.us_base.specs.declared.shape.Shape.{Shape}
use Rattle.us_base.specs.Shape.{sites_of, IsShape}
use Rattle.us_base.specs.Vector.{zero}
use Rattle.us_wire.specs.Decoders.{and_then, many_at, number_between_at, largest_number, IsCodec}
use Rattle.us_migrate.specs.declared.token.Token.{Token}
use Rattle.us_migrate.specs.Encodings.{tid_encoding, vector_encoding, token_encoding, TidFits, VectorFits, TokenFits}

unfoldable pub tid_at : Shape → List ℕ → ℕ → Option (Tid × ℕ)
tid_at shape input at =
    and_then (number_between_at w8 1 (sites_of shape) input at) (λ site at'.
    and_then (number_between_at w8 1 shape.parts input at') (λ coord at''.
    and_then (number_between_at w64 1 largest_number input at'') (λ seq next.
    Some (record { site = site; coord = coord; seq = seq }, next))))

-- the numbers that were read, and 0 for the sites that the shape doesn't have
abbrev pub filled : List ℕ → List ℕ
filled numbers = numbers ++ drop (length numbers) zero

unfoldable pub vector_at : Shape → List ℕ → ℕ → Option (List ℕ × ℕ)
vector_at shape input at =
    and_then (many_at (number_between_at w64 0 largest_number) (suc (sites_of shape)) input at) (λ numbers next. Some (filled numbers, next))

unfoldable pub token_at : Shape → List ℕ → ℕ → Option (Token × ℕ)
token_at shape input at =
    and_then (number_between_at w8 1 (sites_of shape) input at) (λ site at'.
    and_then (number_between_at w8 1 shape.parts input at') (λ coord at''.
    and_then (number_between_at w64 1 largest_number input at'') (λ session at'''.
    and_then (number_between_at w64 0 largest_number input at''') (λ count at''''.
    and_then (vector_at shape input at'''') (λ vector next.
    Some (record { site = site; coord = coord; session = session; count = count; vector = vector }, next))))))

-- ---- decoding and encoding are inverse, whatever follows

abbrev pub ReadsTids : Type 0
ReadsTids = (shape : Shape) → IsShape shape → IsCodec (TidFits shape) tid_encoding (tid_at shape)

abbrev pub ReadsVectors : Type 0
ReadsVectors = (shape : Shape) → IsShape shape → IsCodec (VectorFits shape) (vector_encoding shape) (vector_at shape)

abbrev pub ReadsTokens : Type 0
ReadsTokens = (shape : Shape) → IsShape shape → IsCodec (TokenFits shape) (token_encoding shape) (token_at shape)
