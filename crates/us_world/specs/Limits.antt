-- The limits of a run, the events that lines stand for, and the world that they reach within the limits.
use Rattle.std.specs.Prelude.{◌≡◌, ⊤, ℕ, ◌+◌, nat_lt, Bool, true, false, if◌then◌else◌, List, [], ◌∷◌, ◌++◌, length, map, Option, Some, None}
use Rattle.us_schedule.specs.declared.line.Line.{Line}
use Rattle.us_schedule.specs.declared.line.Line.TheVariants as line
use Rattle.us_model.specs.declared.event.Note.{Note}
use Rattle.us_model.specs.declared.event.Note.TheVariants as note
use Rattle.us_model.specs.Worlds.{World, Flushes, nth, least_undelivered, world_step, run, start}
use Rattle.us_model.specs.Worlds.{WorldEvent, OpenSession, ClientBytes, CloseSession, DeliverPacket}
use Rattle.us_model.specs.declared.settings.Settings.{Settings}
use Rattle.us_peer_wire.specs.declared.message.Packet.{Packet}
use Rattle.us_world.specs.declared.fault.WorldFault.{WorldFault}
use Rattle.us_world.specs.declared.fault.WorldFault.TheVariants as fault
use Rattle.us_world.specs.declared.fault.Numbered.{Numbered}

-- ---- what is counted

abbrev pub is_opening : Note → Bool
is_opening (note.Opened coord session) = true
is_opening _ = false

abbrev pub is_beginning : Note → Bool
is_beginning (note.Begun tid session snapshot) = true
is_beginning _ = false

-- how many notes are such
abbrev pub how_many : (Note → Bool) → List Note → ℕ
how_many p [] = 0
how_many p (n ∷ ns) = if p n then how_many p ns + 1 else how_many p ns

-- the sessions that were opened
abbrev pub opened_in : List Note → ℕ
opened_in notes = how_many is_opening notes

-- the transactions that were begun
abbrev pub begun_in : List Note → ℕ
begun_in notes = how_many is_beginning notes

-- THE LIMITS: the first of the counts that is past its number
abbrev pub past_limits : (events sessions transactions : ℕ) → Option WorldFault
past_limits events sessions transactions =
    if nat_lt 1000000 events then Some fault.Events
    else if nat_lt 512 sessions then Some fault.Sessions
    else if nat_lt 20000 transactions then Some fault.Transactions
    else None

-- which count is past its number in a world, so many events having been
abbrev pub passed : ℕ → World → Option WorldFault
passed events w = past_limits events (opened_in w.notes) (begun_in w.notes)

-- THE LIMIT OF EVENTS from a world on, so many events having been before: the first count that passes its number
abbrev pub or_else : Option WorldFault → Option WorldFault → Option WorldFault
or_else None later = later
or_else (Some which) later = Some which

abbrev pub limit_of : ℕ → List WorldEvent → World → Option WorldFault
limit_of events [] w = None
limit_of events (h ∷ hs) w = or_else (passed (events + 1) (world_step w h)) (limit_of (events + 1) hs (world_step w h))

-- ---- what a line stands for

-- the packet of this number comes, where so many were sent
abbrev pub delivery_of : ℕ → Option Packet → List WorldEvent
delivery_of number None = []
delivery_of number (Some packet) = DeliverPacket number ∷ []

abbrev pub delivery : ℕ → World → List WorldEvent
delivery number w = delivery_of number (nth w.packets number)

-- the events that a line stands for in a world: the lines that this stage builds
abbrev pub Performs : Line → World → List WorldEvent → Type 0
Performs (line.Open site coord) w hs = hs ≡ OpenSession site coord ∷ []
Performs (line.Bytes site coord session piece) w hs = hs ≡ ClientBytes site coord session piece ∷ []
Performs (line.Close site coord session) w hs = hs ≡ CloseSession site coord session ∷ []
Performs (line.Deliver number) w hs = hs ≡ delivery number w
Performs (line.Flush from to) w hs = Flushes from to w hs
Performs (line.Tick site actor clock) w hs = ⊥
Performs (line.Lead site) w hs = ⊥
Performs (line.Forward site origin) w hs = ⊥
Performs (line.Crash site) w hs = ⊥
Performs (line.Settle clock rounds) w hs = ⊥

-- each time the least undelivered packet from one site to another comes
abbrev pub Delivers : ℕ → ℕ → World → List WorldEvent → Type 0
Delivers from to w [] = ⊤
Delivers from to w (h ∷ hs) = ((k : ℕ) × (least_undelivered w from to ≡ Some k) × (h ≡ DeliverPacket k)) × Delivers from to (world_step w h) hs

-- the first events of those that a line stands for: a flush may have more of them
abbrev pub Begins : Line → World → List WorldEvent → Type 0
Begins (line.Flush from to) w hs = Delivers from to w hs
Begins l w hs = Performs l w hs

-- ---- the events of lines

-- of this line its own events in the world, and then others
abbrev pub GoOn : Line → World → List WorldEvent → (World → List WorldEvent → Type 0) → Type 0
GoOn l w es Others = (own : List WorldEvent) × (others : List WorldEvent) × Performs l w own × (es ≡ own ++ others) × Others (run own w) others

-- THE EVENTS OF LINES from a world on: of each line those that it stands for in the world that the earlier ones reach
abbrev pub AreEventsOf : List Line → World → List WorldEvent → Type 0
AreEventsOf [] w es = es ≡ []
AreEventsOf (l ∷ ls) w es = GoOn l w es (λ v others. AreEventsOf ls v others)

-- THE WORLD OF LINES: the run over their events, none of which passes a limit
pub record IsWorldOf (settings : Settings) (lines : List Line) (w : World) : Type 0 where
  pub events : List WorldEvent
  pub are : AreEventsOf lines (start settings) events
  pub within : limit_of 0 events (start settings) ≡ None
  pub run : w ≡ run events (start settings)

-- THE LIMIT OF A LINE: those before it are within the limits, and the first of its own events pass this one
pub record IsPassedBy (settings : Settings) (before : List Line) (line : Line) (which : WorldFault) : Type 0 where
  pub events : List WorldEvent
  pub are : AreEventsOf before (start settings) events
  pub within : limit_of 0 events (start settings) ≡ None
  pub own : List WorldEvent
  pub first : Begins line (run events (start settings)) own
  pub passes : limit_of (length events) own (run events (start settings)) ≡ Some which

-- ---- numbered lines

abbrev pub line_of : Numbered → Line
line_of l = l.line

abbrev pub lines_of : List Numbered → List Line
lines_of ls = map line_of ls

-- THE LIMIT OF LINES: the one of this number passes this limit
pub record IsPassedAt (settings : Settings) (lines : List Numbered) (number : ℕ) (which : WorldFault) : Type 0 where
  pub before : List Numbered
  pub line : Numbered
  pub after : List Numbered
  pub split : lines ≡ before ++ line ∷ after
  pub at : line.number ≡ number
  pub passed : IsPassedBy settings (lines_of before) line.line which

-- the same lines have one world or one limit
pub record OutcomesAreOne : Type 0 where
  pub worlds : (settings : Settings) (lines : List Line) (w v : World) → IsWorldOf settings lines w → IsWorldOf settings lines v → w ≡ v
  pub limits : (settings : Settings) (lines : List Numbered) (n m : ℕ) (a b : WorldFault) → IsPassedAt settings lines n a
      → IsPassedAt settings lines m b → (n ≡ m) × (a ≡ b)
  pub apart : (settings : Settings) (lines : List Numbered) (w : World) (n : ℕ) (a : WorldFault) → IsWorldOf settings (lines_of lines) w
      → IsPassedAt settings lines n a → ⊥
