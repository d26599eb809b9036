-- Fields: how each is encoded, and what is read at a place.
use Rattle.std.specs.Prelude.{◌≡◌, ℕ, ◌+◌, ◌^◌, ◌≤◌, ◌<◌, ℤ, FitsSigned, List, ◌++◌, length, take, drop, slice_index, ◌&&◌, nat_le, Option, None, Some}
use Rattle.std.specs.Prelude.{if◌then◌else◌}
use Rattle.std.specs.Int.{Width, w16, byte_len, from_be_bytes, to_be_bytes, cast_signed, cast_unsigned}

-- the text stands in the input at a place, and the next field begins behind it
pub record StandsAt (text input : List ℕ) (at next : ℕ) : Type 0 where
  pub parts : drop at input ≡ text ++ drop next input
  pub next_is : next ≡ at + length text
  pub within : next ≤ length input

-- ---- encodings

-- a number below 0 is its two's complement
abbrev pub integer : Width → ℤ → List ℕ
integer w z = to_be_bytes w (cast_unsigned w z)

-- a value has at most so many bytes
abbrev pub longest_value : ℕ
longest_value = 1024

-- two bytes of length, and that many bytes
abbrev pub value : List ℕ → List ℕ
value bytes = to_be_bytes w16 (length bytes) ++ bytes

-- ---- what is read at a place, and the place behind it; none where too few bytes are left

abbrev pub bytes_at : ℕ → List ℕ → ℕ → Option (List ℕ)
bytes_at len input at = if nat_le (at + len) (length input) then Some (take len (drop at input)) else None

abbrev pub number_of : Width → ℕ → Option (List ℕ) → Option (ℕ × ℕ)
number_of w next None = None
number_of w next (Some bytes) = Some (from_be_bytes w bytes, next)

abbrev pub number_at : Width → List ℕ → ℕ → Option (ℕ × ℕ)
number_at w input at = number_of w (at + byte_len w) (bytes_at (byte_len w) input at)

abbrev pub signed_of : Width → Option (ℕ × ℕ) → Option (ℤ × ℕ)
signed_of w None = None
signed_of w (Some read) = Some (cast_signed w read.0, read.1)

abbrev pub integer_at : Width → List ℕ → ℕ → Option (ℤ × ℕ)
integer_at w input at = signed_of w (number_at w input at)

abbrev pub value_of : List ℕ → Option (ℕ × ℕ) → Option (List ℕ × ℕ)
value_of input None = None
value_of input (Some (len, at)) = if nat_le len longest_value && nat_le (at + len) (length input) then Some (take len (drop at input), at + len) else None

abbrev pub value_at : List ℕ → ℕ → Option (List ℕ × ℕ)
value_at input at = value_of input (number_at w16 input at)

-- ---- decoding and encoding are inverse, whatever follows

-- each number is a byte
abbrev pub AreBytes : List ℕ → Type 0
AreBytes bytes = (i : ℕ) → slice_index bytes i < 256

pub record ReadsNumbers (w : Width) : Type 0 where
  pub found : (input : List ℕ) (at n next : ℕ) → AreBytes input → number_at w input at ≡ Some (n, next)
      → StandsAt (to_be_bytes w n) input at next × (n < 256 ^ byte_len w)
  pub again : (input : List ℕ) (at n next : ℕ) → n < 256 ^ byte_len w → StandsAt (to_be_bytes w n) input at next → number_at w input at ≡ Some (n, next)
  pub none : (input : List ℕ) (at : ℕ) → number_at w input at ≡ None → (n next : ℕ) → n < 256 ^ byte_len w → ¬ StandsAt (to_be_bytes w n) input at next

pub record ReadsIntegers (w : Width) : Type 0 where
  pub found : (input : List ℕ) (at : ℕ) (z : ℤ) (next : ℕ) → AreBytes input → integer_at w input at ≡ Some (z, next)
      → StandsAt (integer w z) input at next × FitsSigned w z
  pub again : (input : List ℕ) (at : ℕ) (z : ℤ) (next : ℕ) → FitsSigned w z → StandsAt (integer w z) input at next → integer_at w input at ≡ Some (z, next)
  pub none : (input : List ℕ) (at : ℕ) → integer_at w input at ≡ None → (z : ℤ) (next : ℕ) → FitsSigned w z → ¬ StandsAt (integer w z) input at next

pub record ReadsValues : Type 0 where
  pub found : (input : List ℕ) (at : ℕ) (bytes : List ℕ) (next : ℕ) → AreBytes input → value_at input at ≡ Some (bytes, next)
      → StandsAt (value bytes) input at next × (length bytes ≤ longest_value)
  pub again : (input : List ℕ) (at : ℕ) (bytes : List ℕ) (next : ℕ) → length bytes ≤ longest_value → StandsAt (value bytes) input at next
      → value_at input at ≡ Some (bytes, next)
  pub none : (input : List ℕ) (at : ℕ) → value_at input at ≡ None → (bytes : List ℕ) (next : ℕ) → length bytes ≤ longest_value
      → ¬ StandsAt (value bytes) input at next
