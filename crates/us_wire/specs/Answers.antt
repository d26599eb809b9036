-- What a reader of frames answers.
use Rattle.std.specs.Prelude.{ℕ, ◌≤◌, List, length, take}
use Rattle.us_wire.specs.declared.frames.Next.{Next}
use Rattle.us_wire.specs.declared.frames.Next.TheVariants.{Frame, NotYet, BadLength}
use Rattle.us_wire.specs.declared.frames.FirstFrame.{FirstFrame}
use Rattle.us_wire.specs.declared.frames.FirstFrame.TheVariants.{Partial, Bad, Whole}
use Rattle.us_wire.specs.Frames.{Reader, GivesFrame, Waits, Refuses, IsFrame, IsPartial, HasBadLength}

-- the answer, and the reader before and after it
abbrev pub Answers : Next → Reader → Reader → Type 0
Answers (Frame frame) old new = GivesFrame frame old new
Answers NotYet old new = Waits old new
Answers BadLength old new = Refuses old new

-- how a stream begins
abbrev pub Begins : FirstFrame → ℕ → List ℕ → Type 0
Begins Partial limit stream = IsPartial limit stream
Begins Bad limit stream = HasBadLength limit stream
Begins (Whole n) limit stream = (n ≤ length stream) × IsFrame limit (take n stream)
