-- Whole frames: four bytes of length of the rest, version 1, a tag, the fields.
use Rattle.std.specs.Prelude.{◌≡◌, ℕ, ◌+◌, ◌^◌, ◌<◌, ◌==◌, List, ◌∷◌, ◌++◌, length, Option, None, Some, if◌then◌else◌}
use Rattle.std.specs.Int.{to_be_bytes, w8, w32}
use Rattle.us_wire.specs.Fields.{AreBytes, number_at}
use Rattle.us_wire.specs.Decoders.{Decoder, and_then, number_between_at}

abbrev pub frame_encoding : ℕ → List ℕ → List ℕ
frame_encoding tag fields = to_be_bytes w32 (length fields + 2) ++ 1 ∷ tag ∷ fields

-- version 1 and a tag
abbrev pub tag_at : Decoder ℕ
tag_at input at = and_then (number_between_at w8 1 1 input at) (λ version next. number_between_at w8 0 255 input next)

-- only where the length field tells how many bytes follow it
abbrev pub sized : {A : Type 0} → List ℕ → (ℕ → Option A) → Option (ℕ × ℕ) → Option A
sized frame on None = None
sized frame on (Some (rest, at)) = if at + rest == length frame then on at else None

-- the tag of a whole frame, and the place of the fields
unfoldable pub opened : List ℕ → Option (ℕ × ℕ)
opened frame = sized frame (λ at. tag_at frame at) (number_at w32 frame 0)

-- only what ends with the frame
abbrev pub ending : {A : Type 0} → List ℕ → Option (A × ℕ) → Option A
ending frame None = None
ending frame (Some (a, next)) = if next == length frame then Some a else None

-- what a whole frame is, where there is a reading of the fields for each tag
unfoldable pub frame_of : {A : Type 0} → (ℕ → Decoder A) → List ℕ → Option A
frame_of fields frame = ending frame (and_then (opened frame) (λ tag at. fields tag frame at))

-- ---- decoding and encoding are inverse

pub record IsFrameCodec {A : Type 0} (Fits : A → Type 0) (encoding : A → List ℕ) (read : List ℕ → Option A) : Type 0 where
  pub found : (frame : List ℕ) (a : A) → AreBytes frame → read frame ≡ Some a → (frame ≡ encoding a) × Fits a
  pub again : (a : A) → Fits a → read (encoding a) ≡ Some a
  -- of a stream that begins with an encoding, no other is a prefix
  pub none_begins_another : (a b : A) (x y : List ℕ) → Fits a → Fits b → encoding a ++ x ≡ encoding b ++ y → (a ≡ b) × (x ≡ y)

-- the rest of a frame is shorter than its length field can tell
pub record IsShort (fields : List ℕ) : Type 0 where
  pub short : length fields + 2 < 2 ^ 32
