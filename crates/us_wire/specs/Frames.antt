-- Frames of a stream.
use Rattle.std.specs.Prelude.{◌≡◌, ℕ, zero, suc, ◌+◌, ◌<◌, ◌≤◌, ◌⊎◌, List, [], ◌∷◌, ◌++◌, length, take, drop, Bool, true, false, ◌||◌, nat_lt}
use Rattle.std.specs.Prelude.{if◌then◌else◌}
use Rattle.std.specs.Int.{from_be_bytes, w32}

-- a reader: the greatest length of a whole frame, and the stream that wasn't given out yet
pub record Reader : Type 0 where
  pub limit : ℕ
  pub unread : List ℕ

-- the whole frames at the front of a stream, what stands behind them, and whether that begins with a bad length
pub record Frames : Type 0 where
  pub whole : List (List ℕ)
  pub rest : List ℕ
  pub bad : Bool

-- the length of the rest of the frame, in its first four bytes
abbrev pub length_field : List ℕ → ℕ
length_field stream = from_be_bytes w32 (take 4 stream)

-- a frame has a version and a tag at least, and isn't longer than the limit
abbrev pub is_bad_length : ℕ → ℕ → Bool
is_bad_length limit n = nat_lt n 2 || nat_lt limit (4 + n)

abbrev pub stops : List ℕ → Bool → Frames
stops rest bad = record { whole = []; rest = rest; bad = bad }

abbrev pub in_front : List ℕ → Frames → Frames
in_front frame fs = record { whole = frame ∷ fs.whole; rest = fs.rest; bad = fs.bad }

-- at most so many frames
abbrev pub frames_within : ℕ → ℕ → List ℕ → Frames
frames_within zero limit stream = stops stream false
frames_within (suc fuel) limit stream =
    if nat_lt (length stream) 4 then stops stream false
    else if is_bad_length limit (length_field stream) then stops stream true
    else if nat_lt (length stream) (4 + length_field stream) then stops stream false
    else in_front (take (4 + length_field stream) stream) (frames_within fuel limit (drop (4 + length_field stream) stream))

-- THE FRAMES OF A STREAM. Each takes six bytes at least, so that its length is fuel enough
unfoldable pub frames_of : ℕ → List ℕ → Frames
frames_of limit stream = frames_within (length stream) limit stream

-- more of the stream comes
abbrev pub fed : Reader → List ℕ → Reader
fed r piece = record { limit = r.limit; unread = r.unread ++ piece }

-- these bytes are one whole frame
pub record IsFrame (limit : ℕ) (frame : List ℕ) : Type 0 where
  pub field : 4 ≤ length frame
  pub good : is_bad_length limit (length_field frame) ≡ false
  pub whole : length frame ≡ 4 + length_field frame

-- a bad length field stands at the front
pub record HasBadLength (limit : ℕ) (stream : List ℕ) : Type 0 where
  pub field : 4 ≤ length stream
  pub bad : is_bad_length limit (length_field stream) ≡ true

-- a good length field stands at the front, and fewer bytes than it says
pub record IsCutOff (limit : ℕ) (stream : List ℕ) : Type 0 where
  pub good : is_bad_length limit (length_field stream) ≡ false
  pub cut : length stream < 4 + length_field stream

-- less than a length field, or less than the whole frame
abbrev pub IsPartial : ℕ → List ℕ → Type 0
IsPartial limit stream = (length stream < 4) ⊎ IsCutOff limit stream

-- the reader gave out the frame at the front
pub record GivesFrame (frame : List ℕ) (old new : Reader) : Type 0 where
  pub is_frame : IsFrame old.limit frame
  pub long : 6 ≤ length frame
  pub limit : new.limit ≡ old.limit
  pub unread : old.unread ≡ frame ++ new.unread
  pub frames : frames_of old.limit old.unread ≡ in_front frame (frames_of new.limit new.unread)

-- the reader waits for more of the stream
pub record Waits (old new : Reader) : Type 0 where
  pub partial : IsPartial old.limit old.unread
  pub same : new ≡ old
  pub frames : frames_of old.limit old.unread ≡ stops old.unread false

-- the reader met a bad length field
pub record Refuses (old new : Reader) : Type 0 where
  pub bad : HasBadLength old.limit old.unread
  pub same : new ≡ old
  pub frames : frames_of old.limit old.unread ≡ stops old.unread true
