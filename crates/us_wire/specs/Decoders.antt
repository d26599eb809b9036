-- Decoders of what is made of fields, and what it means that a decoder is the inverse of an encoding.
use Rattle.std.specs.Prelude.{◌≡◌, ℕ, zero, suc, ◌^◌, ◌<◌, ◌≤◌, List, [], ◌∷◌, ◌++◌, length, Bool, ◌&&◌, nat_le, Option, None, Some, if◌then◌else◌}
use Rattle.std.specs.Int.{Width, byte_len, to_be_bytes}
use Rattle.us_wire.specs.Fields.{StandsAt, AreBytes, number_at}

-- of an input and a place in it: what is read there, and the place behind it
abbrev pub Decoder : Type 0 → Type 0
Decoder A = List ℕ → ℕ → Option (A × ℕ)

-- what is found, and how it is read on behind it
abbrev pub and_then : {A B : Type 0} → Option (A × ℕ) → (A → ℕ → Option (B × ℕ)) → Option (B × ℕ)
and_then None on = None
and_then (Some (a, next)) on = on a next

-- only what passes a test
abbrev pub if_passes : {A : Type 0} → (A → Bool) → Option (A × ℕ) → Option (A × ℕ)
if_passes test None = None
if_passes test (Some (a, next)) = if test a then Some (a, next) else None

-- so many of a kind, one behind the other
unfoldable pub many_at : {A : Type 0} → Decoder A → ℕ → List ℕ → ℕ → Option (List A × ℕ)
many_at read zero input at = Some ([], at)
many_at read (suc n) input at = and_then (read input at) (λ a next. and_then (many_at read n input next) (λ others end. Some (a ∷ others, end)))

-- the encodings of all of them
unfoldable pub many_encoding : {A : Type 0} → (A → List ℕ) → List A → List ℕ
many_encoding encoding [] = []
many_encoding encoding (a ∷ others) = encoding a ++ many_encoding encoding others

-- a number within bounds
unfoldable pub number_between_at : Width → (least most : ℕ) → List ℕ → ℕ → Option (ℕ × ℕ)
number_between_at w least most input at = if_passes (λ n. nat_le least n && nat_le n most) (number_at w input at)

-- the greatest of the numbers that count something: 2^62
abbrev pub largest_number : ℕ
largest_number = 4611686018427387904

-- ---- decoding and encoding are inverse, whatever follows

-- values of this kind have this encoding, and this is the reading of it
pub record IsCodec {A : Type 0} (Fits : A → Type 0) (encoding : A → List ℕ) (read : Decoder A) : Type 0 where
  pub found : (input : List ℕ) (at : ℕ) (a : A) (next : ℕ) → AreBytes input → read input at ≡ Some (a, next) → StandsAt (encoding a) input at next × Fits a
  pub again : (input : List ℕ) (at : ℕ) (a : A) (next : ℕ) → Fits a → StandsAt (encoding a) input at next → read input at ≡ Some (a, next)
  pub none : (input : List ℕ) (at : ℕ) → read input at ≡ None → (a : A) (next : ℕ) → Fits a → ¬ StandsAt (encoding a) input at next

-- the same at places within the input: the encoding may be empty
pub record IsCodecWithin {A : Type 0} (Fits : A → Type 0) (encoding : A → List ℕ) (read : Decoder A) : Type 0 where
  pub found : (input : List ℕ) (at : ℕ) (a : A) (next : ℕ) → AreBytes input → at ≤ length input → read input at ≡ Some (a, next)
      → StandsAt (encoding a) input at next × Fits a
  pub again : (input : List ℕ) (at : ℕ) (a : A) (next : ℕ) → Fits a → StandsAt (encoding a) input at next → read input at ≡ Some (a, next)

-- a number within bounds, and its width's
pub record IsBetween (below least most n : ℕ) : Type 0 where
  pub fits : n < below
  pub enough : least ≤ n
  pub not_more : n ≤ most

-- a number of this width within any bounds
abbrev pub ReadsBetween : Width → Type 0
ReadsBetween w = (least most : ℕ) → IsCodec (IsBetween (256 ^ byte_len w) least most) (to_be_bytes w) (number_between_at w least most)
