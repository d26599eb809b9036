-- What the lines of a schedule come to by code.
use Rattle.std.specs.Prelude.{◌≡◌, ⊤, ℕ, ◌+◌, List, [], ◌∷◌, ◌++◌, length, Bool, true, false, Some, None}
use Rattle.us_schedule.specs.declared.line.Line.{Line}
use Rattle.us_schedule.specs.declared.line.Line.TheVariants as line
use Rattle.us_model.specs.declared.settings.Settings.{Settings}
use Rattle.us_model.specs.Worlds.{World, WorldEvent, run, start}
use Rattle.us_world.specs.WorldState.{WorldState, Represents}
use Rattle.us_world.specs.Limits.{Performs, Begins, delivery, limit_of, AreEventsOf, IsWorldOf, IsPassedBy, IsPassedAt, lines_of}
use Rattle.us_world.specs.declared.fault.WorldFault.{WorldFault}
use Rattle.us_world.specs.declared.fault.WorldFault.TheVariants as fault
use Rattle.us_world.specs.declared.fault.LinesFault.{LinesFault}
use Rattle.us_world.specs.declared.fault.LinesFault.TheVariants as ends
use Rattle.us_world.specs.declared.fault.Numbered.{Numbered}

-- the lines that this stage builds
abbrev pub IsBuilt : Line → Type 0
IsBuilt (line.Open site coord) = ⊤
IsBuilt (line.Bytes site coord session piece) = ⊤
IsBuilt (line.Close site coord session) = ⊤
IsBuilt (line.Deliver number) = ⊤
IsBuilt (line.Flush from to) = ⊤
IsBuilt (line.Tick site actor clock) = ⊥
IsBuilt (line.Lead site) = ⊥
IsBuilt (line.Forward site origin) = ⊥
IsBuilt (line.Crash site) = ⊥
IsBuilt (line.Settle clock rounds) = ⊥

abbrev pub AllBuilt : List Numbered → Type 0
AllBuilt [] = ⊤
AllBuilt (l ∷ ls) = IsBuilt l.line × AllBuilt ls

-- what is kept goes from one to the other by events that are such for the world, within the limits
abbrev pub AdvancesBy : (World → List WorldEvent → Type 0) → WorldState → WorldState → Type 0
AdvancesBy Are old new =
    (w : World) → Represents old w
    → (hs : List WorldEvent) × Are w hs × (limit_of old.events hs w ≡ None) × Represents new (run hs w) × (new.events ≡ old.events + length hs)

-- such events pass a limit
abbrev pub ExceedsBy : (World → List WorldEvent → Type 0) → WorldState → WorldFault → Type 0
ExceedsBy Are old which = (w : World) → Represents old w → (hs : List WorldEvent) × Are w hs × (limit_of old.events hs w ≡ Some which)

-- a fault is a limit that such events pass, unless memory ran out
abbrev pub StoppedBy : (World → List WorldEvent → Type 0) → WorldState → WorldFault → Type 0
StoppedBy Are old fault.Memory = ⊤
StoppedBy Are old which = ExceedsBy Are old which

-- what is kept goes from one to the other by what the line stands for
abbrev pub IsPerformed : Line → WorldState → WorldState → Type 0
IsPerformed l old new = AdvancesBy (Performs l) old new

-- the first events of the line pass that limit, unless memory ran out
abbrev pub IsStopped : Line → WorldState → WorldFault → Type 0
IsStopped l old which = StoppedBy (Begins l) old which

-- the events are the coming of the packet of this number, where so many were sent
abbrev pub IsDelivery : ℕ → World → List WorldEvent → Type 0
IsDelivery number w hs = hs ≡ delivery number w

-- what is kept stands for the run over the events of the lines, none of which passes a limit
pub record HasReached (settings : Settings) (lines : List Line) (k : WorldState) : Type 0 where
  pub events : List WorldEvent
  pub are : AreEventsOf lines (start settings) events
  pub within : limit_of 0 events (start settings) ≡ None
  pub counts : k.events ≡ length events
  pub stands : Represents k (run events (start settings))

-- ---- a world, as its user sees it

-- how it was configured, the lines performed, whether a fault stopped it, and what is kept
pub record Performed : Type 0 where
  pub settings : Settings
  pub lines : List Line
  pub stopped : Bool
  pub kept : WorldState

-- unless it is stopped, what is kept stands for the run over the lines
abbrev pub StandsUnless : Bool → Settings → List Line → WorldState → Type 0
StandsUnless true settings lines k = ⊤
StandsUnless false settings lines k = HasReached settings lines k

-- THIS HOLDS OF THE WORLD OF THE LINES
pub record OfWorld (settings : Settings) (lines : List Line) (Is : World → Type 0) : Type 0 where
  pub world : World
  pub is : IsWorldOf settings lines world
  pub holds : Is world

-- the lines have a world
abbrev pub HasWorld : Settings → List Line → Type 0
HasWorld settings lines = OfWorld settings lines (λ w. ⊤)

-- the opening world, in which no line was performed
pub record IsOpening (settings : Settings) (world : Performed) : Type 0 where
  pub settings_are : world.settings ≡ settings
  pub lines : world.lines ≡ []
  pub runs : world.stopped ≡ false
  pub reached : HasWorld settings []

-- one more line was performed
pub record HasPerformed (line : Line) (old new : Performed) : Type 0 where
  pub settings : new.settings ≡ old.settings
  pub lines : new.lines ≡ old.lines ++ line ∷ []
  pub runs : new.stopped ≡ false
  pub reached : HasWorld old.settings (old.lines ++ line ∷ [])

-- a fault is the limit that the line passes behind the others, unless memory ran out
abbrev pub IsFaultOf : Settings → List Line → Line → WorldFault → Type 0
IsFaultOf settings lines line fault.Memory = ⊤
IsFaultOf settings lines line which = IsPassedBy settings lines line which

-- ---- numbered lines

-- the lines have a world
abbrev pub HaveWorld : Settings → List Numbered → Type 0
HaveWorld settings lines = HasWorld settings (lines_of lines)

-- the lines pass that limit at that line, unless memory ran out
abbrev pub IsLimitOf : Settings → List Numbered → LinesFault → Type 0
IsLimitOf settings lines (ends.Limit number which) = IsPassedAt settings lines number which
IsLimitOf settings lines ends.Memory = ⊤

-- the fault of a line
abbrev pub fault_at : ℕ → WorldFault → LinesFault
fault_at number fault.Memory = ends.Memory
fault_at number which = ends.Limit number which
