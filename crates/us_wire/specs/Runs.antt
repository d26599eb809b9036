-- Feeding a reader of frames and asking it, in any order.
use Rattle.std.specs.Prelude.{◌≡◌, ℕ, List, [], ◌∷◌, ◌++◌, length, drop, Bool, true, false, ◌⊎◌}
use Rattle.std.specs.List.{AllByRecursion}
use Rattle.us_wire.specs.declared.frames.Next.{Next}
use Rattle.us_wire.specs.declared.frames.Next.TheVariants as next
use Rattle.us_wire.specs.Frames.{Reader, Frames, frames_of, fed, IsFrame, IsPartial, HasBadLength}

-- a piece of the stream comes, or the next frame is asked for
pub data Action : Type 0 where
  feeds : List ℕ → Action
  polls : Action

pub data Answer : Type 0 where
  frame : List ℕ → Answer
  not_yet : Answer
  bad_length : Answer

-- what a reader answers, without where it lies in memory
abbrev pub answer_of : Next → Answer
answer_of (next.Frame bytes) = frame bytes
answer_of next.NotYet = not_yet
answer_of next.BadLength = bad_length

abbrev pub first_of : List (List ℕ) → Bool → Answer
first_of [] false = not_yet
first_of [] true = bad_length
first_of (bytes ∷ others) bad = frame bytes

-- the first frame of the unread stream, or why there is none
abbrev pub next_of : Reader → Answer
next_of r = first_of (frames_of r.limit r.unread).whole (frames_of r.limit r.unread).bad

-- a frame that was given out is read
abbrev pub after : Answer → Reader → Reader
after (frame bytes) r = record { limit = r.limit; unread = drop (length bytes) r.unread }
after not_yet r = r
after bad_length r = r

-- the answers, in order
abbrev pub answers : Reader → List Action → List Answer
answers r [] = []
answers r (feeds piece ∷ actions) = answers (fed r piece) actions
answers r (polls ∷ actions) = next_of r ∷ answers (after (next_of r) r) actions

-- the reader behind the actions
abbrev pub reader_after : Reader → List Action → Reader
reader_after r [] = r
reader_after r (feeds piece ∷ actions) = reader_after (fed r piece) actions
reader_after r (polls ∷ actions) = reader_after (after (next_of r) r) actions

-- the frames among the answers
abbrev pub frames_in : List Answer → List (List ℕ)
frames_in [] = []
frames_in (frame bytes ∷ others) = bytes ∷ frames_in others
frames_in (not_yet ∷ others) = frames_in others
frames_in (bad_length ∷ others) = frames_in others

-- the whole stream
abbrev pub stream_of : List Action → List ℕ
stream_of [] = []
stream_of (feeds piece ∷ actions) = piece ++ stream_of actions
stream_of (polls ∷ actions) = stream_of actions

-- a reader that was fed nothing
abbrev pub fresh : ℕ → Reader
fresh limit = record { limit = limit; unread = [] }

-- texts, one behind the other
abbrev pub joined : List (List ℕ) → List ℕ
joined [] = []
joined (text ∷ texts) = text ++ joined texts

-- ---- laws

-- what stands behind the whole frames: less than a frame, or a bad length field
abbrev pub Ends : ℕ → List ℕ → Bool → Type 0
Ends limit rest false = IsPartial limit rest
Ends limit rest true = HasBadLength limit rest

-- these are the frames of the stream and what stands behind them
pub record AreFrames (limit : ℕ) (stream : List ℕ) (frames : Frames) : Type 0 where
  pub parts : stream ≡ joined frames.whole ++ frames.rest
  pub each : AllByRecursion (IsFrame limit) frames.whole
  pub ends : Ends limit frames.rest frames.bad

-- each stream has its frames and no others
pub record StreamsHaveFrames : Type 0 where
  pub found : (limit : ℕ) (stream : List ℕ) → AreFrames limit stream (frames_of limit stream)
  pub only : (limit : ℕ) (stream : List ℕ) (frames : Frames) → AreFrames limit stream frames → frames ≡ frames_of limit stream

-- the frames that came and the frames still to come
pub record AreFirstFrames (limit : ℕ) (actions : List Action) : Type 0 where
  pub others : List (List ℕ)
  pub whole : (frames_of limit (stream_of actions)).whole ≡ frames_in (answers (fresh limit) actions) ++ others

-- however the stream was cut, and whenever frames were asked for
pub record PiecesDoNotMatter : Type 0 where
  -- the frames that were given are the first of the stream
  pub front : (limit : ℕ) (actions : List Action) → AreFirstFrames limit actions
  -- and all of them where none is left to be given
  pub all : (limit : ℕ) (actions : List Action)
      → (next_of (reader_after (fresh limit) actions) ≡ not_yet) ⊎ (next_of (reader_after (fresh limit) actions) ≡ bad_length)
      → (frames_of limit (stream_of actions)).whole ≡ frames_in (answers (fresh limit) actions)
  -- a bad length field is answered for good
  pub for_good : (r : Reader) (actions : List Action) → next_of r ≡ bad_length
      → AllByRecursion (λ answer. answer ≡ bad_length) (answers r actions) × (next_of (reader_after r actions) ≡ bad_length)
