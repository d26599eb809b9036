-- A load is a schedule.
use Rattle.std.specs.Prelude.{◌≡◌, ℕ, ◌≤◌, List, map, Some}
use Rattle.std.specs.List.{AllByRecursion}
use Rattle.us_base.specs.declared.shape.Shape.{Shape}
use Rattle.us_schedule.specs.declared.line.Line.{Line}
use Rattle.us_schedule.specs.Lines.{line_read, Parsed, IsAllowed}
use Rattle.us_schedule.specs.Text.{text_lines, parted_text}
use Rattle.us_load.specs.Transactions.{loaded}
use Rattle.us_load.specs.Load.{configuration, load_lines, load_text}

-- a text whose parts are the text before its separator, and behind it the text of lines, each of which the grammar allows for the shape
pub record IsScheduleOf (shape : Shape) (before : List ℕ) (lines : List Line) (text : List ℕ) : Type 0 where
  -- the number of the line that separates them
  pub separator : ℕ
  pub behind : List ℕ
  pub parted : parted_text text ≡ Some (record { before = before; line = separator; behind = behind })
  pub read : map (line_read shape) (text_lines behind) ≡ map (λ line. Parsed line) lines
  pub allowed : AllByRecursion (IsAllowed shape) lines

-- THE TEXT OF EACH LOAD IS IN THE SCHEDULE'S GRAMMAR, for three sites of four partitions
abbrev pub LoadsAreSchedules : Type 0
LoadsAreSchedules = (number count : ℕ) → count ≤ 5000 → IsScheduleOf loaded configuration (load_lines number count) (load_text number count)
