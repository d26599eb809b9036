-- Bytes that came over a socket.
use Rattle.std.specs.Prelude.{ℕ, ◌≤◌, List, length}
use Rattle.us_real.specs.declared.reading.Came.{Came}
use Rattle.us_real.specs.declared.reading.Came.TheVariants.{NotYet, Ended, Piece}

-- bytes that came are 1 to 65,536 at a time
abbrev pub IsPiece : Came → Type 0
IsPiece NotYet = Unit {0}
IsPiece Ended = Unit {0}
IsPiece (Piece bytes) = (1 ≤ length bytes) × (length bytes ≤ 65536)
