-- What the text of a schedule says.
use Rattle.std.specs.Prelude.{◌≡◌, ⊤, ℕ, ◌+◌, ◌==◌, ◌&&◌, Bool, true, false, if◌then◌else◌, List, [], ◌∷◌, ◌++◌, length, Option, Some, None, Result, Ok, Err}
use Rattle.us_base.specs.declared.shape.Shape.{Shape}
use Rattle.us_schedule.specs.declared.line.Line.{Line}
use Rattle.us_schedule.specs.declared.line.Line.TheVariants.{Open, Bytes, Close, Deliver, Flush}
use Rattle.us_schedule.specs.declared.fault.LineFault.{LineFault}
use Rattle.us_schedule.specs.declared.fault.LineFault.TheVariants as fault
use Rattle.us_schedule.specs.Lines.{Read, Skipped, Parsed, line_read}
use Rattle.us_schedule.specs.Lines.{Refused as Unread}
use Rattle.us_schedule.specs.Text.{text_lines, Parted, parted_text}
use Rattle.us_model.specs.declared.settings.Settings.{Settings}
use Rattle.us_config.specs.declared.config.Config.{Config}
use Rattle.us_config.specs.declared.fault.ReadFault.{ReadFault}
use Rattle.us_config.specs.declared.fault.ReadFault.TheVariants as read
use Rattle.us_config.specs.Whole.{config_said}
use Rattle.us_world.specs.declared.fault.Numbered.{Numbered}
use Rattle.unistore.specs.declared.status.Reason.{Reason}
use Rattle.unistore.specs.declared.status.Reason.TheVariants.{NoSeparator, Config as BadConfig, BadWord, BadNumber, BadHex, OutOfRange, NotBuilt}
use Rattle.unistore.specs.declared.schedule.Refusal.{Refusal}
use Rattle.unistore.specs.declared.schedule.Configured.{Configured}
use Rattle.unistore.specs.declared.schedule.Configured.TheVariants as configured
use Rattle.unistore.specs.declared.schedule.Schedule.{Schedule}
use Rattle.unistore.specs.declared.schedule.Schedule.TheVariants as schedule
use Rattle.unistore.specs.declared.schedule.LineStop.{LineStop}
use Rattle.unistore.specs.declared.schedule.LineStop.TheVariants as stop

-- what the actors of a store are configured with
abbrev pub settings_of : Config → Settings
settings_of config = record { shape = config.shape; catalog = config.catalog; conflicts = config.conflicts }

-- a line that this store performs
abbrev pub is_performed : Line → Bool
is_performed (Open site coord) = true
is_performed (Bytes site coord session bytes) = true
is_performed (Close site coord session) = true
is_performed (Deliver number) = true
is_performed (Flush from to) = true
is_performed _ = false

-- ---- one line

-- what a line behind the separator says: nothing, a line to be performed, or the reason why it is refused
pub data Said : Type 0 where
  Nothing : Said
  Performs : Line → Said
  Refuses : Reason → Said

-- the reason of the grammar; it gives out of memory for none
abbrev pub reason_of : LineFault → Reason
reason_of fault.BadWord = BadWord
reason_of fault.BadNumber = BadNumber
reason_of fault.BadHex = BadHex
reason_of fault.OutOfRange = OutOfRange
reason_of fault.Memory = NotBuilt

abbrev pub said_of : Read → Said
said_of Skipped = Nothing
said_of (Parsed line) = if is_performed line then Performs line else Refuses NotBuilt
said_of (Unread e) = Refuses (reason_of e)

abbrev pub said : Shape → List ℕ → Said
said shape text = said_of (line_read shape text)

-- the line of this number to be performed, if the text says one
abbrev pub line_in : ℕ → Said → List Numbered
line_in number (Performs line) = record { number = number; line = line } ∷ []
line_in number _ = []

-- the refusal of the line of this number, if it is refused
abbrev pub refusal_in : ℕ → Said → Option Refusal
refusal_in number (Refuses reason) = Some (record { line = number; reason = reason })
refusal_in number _ = None

-- ---- the lines behind the separator, of which the first has this number

-- the first refused line
abbrev pub or_refused : Option Refusal → Option Refusal → Option Refusal
or_refused (Some refusal) later = Some refusal
or_refused None later = later

abbrev pub refused_behind : Shape → ℕ → List (List ℕ) → Option Refusal
refused_behind shape number [] = None
refused_behind shape number (text ∷ texts) = or_refused (refusal_in number (said shape text)) (refused_behind shape (number + 1) texts)

-- the lines to be performed before it
abbrev pub unless_refused : Option Refusal → List Numbered → List Numbered
unless_refused (Some refusal) lines = []
unless_refused None lines = lines

abbrev pub lines_behind : Shape → ℕ → List (List ℕ) → List Numbered
lines_behind shape number [] = []
lines_behind shape number (text ∷ texts) =
    unless_refused (refusal_in number (said shape text)) (line_in number (said shape text) ++ lines_behind shape (number + 1) texts)

-- ---- the text before the separator

-- one site and one partition, which is all that is built; a refusal of the configuration has no line
abbrev pub store_of : Config → Configured
store_of config =
    if (config.shape.f == 0) && (config.shape.parts == 1)
    then configured.Store config
    else configured.Refused (record { line = 0; reason = NotBuilt })

-- what the configuration says; its meaning is never out of memory
abbrev pub configured_by : Result Config ReadFault → Configured
configured_by (Ok config) = store_of config
configured_by (Err (read.Refused key fault)) = configured.Refused (record { line = 0; reason = BadConfig key fault })
configured_by (Err read.Memory) = configured.Refused (record { line = 0; reason = NotBuilt })

-- ---- the whole text

abbrev pub schedule_behind : Config → ℕ → List (List ℕ) → Schedule
schedule_behind config number texts =
    schedule.Read (record { config = config; lines = lines_behind config.shape number texts }) (refused_behind config.shape number texts)

abbrev pub schedule_in : Configured → ℕ → List (List ℕ) → Schedule
schedule_in (configured.Store config) number texts = schedule_behind config number texts
schedule_in (configured.Refused refusal) number texts = schedule.Refused refusal

-- the parts of a text of so many lines
abbrev pub schedule_of_parts : ℕ → Option Parted → Schedule
schedule_of_parts count None = schedule.Refused (record { line = count + 1; reason = NoSeparator })
schedule_of_parts count (Some parted) = schedule_in (configured_by (config_said parted.before)) (parted.line + 1) (text_lines parted.behind)

-- WHAT A TEXT SAYS: refused before any line is performed, or what it asks for and the refusal of the line behind its
-- lines, if one is refused. Lines are numbered from 1, and all of them count
unfoldable pub schedule_of : List ℕ → Schedule
schedule_of text = schedule_of_parts (length (text_lines text)) (parted_text text)

-- ---- reading by code

-- what a line says was added, or it is refused, unless memory ran out
abbrev pub Takes : {A : Type 0} → Result A LineStop → ℕ → List Numbered → List Numbered → Said → Type 0
Takes (Ok u) number before after said = (refusal_in number said ≡ None) × (after ≡ before ++ line_in number said)
Takes (Err (stop.Refused reason)) number before after said = (said ≡ Refuses reason) × (after ≡ before)
Takes (Err stop.Memory) number before after said = ⊤
