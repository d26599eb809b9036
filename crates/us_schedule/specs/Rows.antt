-- Worked lines and texts.
use Rattle.std.specs.Prelude.{◌≡◌, [], ◌∷◌, Some, None, codes}
use Rattle.us_base.specs.declared.shape.Shape.{Shape}
use Rattle.us_schedule.specs.declared.fault.LineFault.TheVariants as fault
use Rattle.us_schedule.specs.declared.line.Line.TheVariants.{Open, Bytes, Tick, Settle}
use Rattle.us_schedule.specs.Lines.{Skipped, Parsed, Refused, line_read, encoding_of}
use Rattle.us_schedule.specs.Text.{text_lines, parted_text}

-- three sites, two partitions
abbrev pub three : Shape
three = record { f = 1; parts = 2 }

pub record WorkedLines : Type 0 where
  pub open_line : line_read three (codes "open 3 2") ≡ Parsed (Open 3 2)
  pub bytes_line : line_read three (codes "bytes 1 1 18446744073709551615 0aFf") ≡ Parsed (Bytes 1 1 18446744073709551615 (10 ∷ 255 ∷ []))
  pub settle_line : line_read three (codes "settle 0 100000") ≡ Parsed (Settle 0 100000)
  pub blank : line_read three [] ≡ Skipped
  pub comment : line_read three (codes "#open 1 1") ≡ Skipped
  pub a_space : line_read three (codes " ") ≡ Refused fault.BadWord
  pub two_spaces : line_read three (codes "open  1") ≡ Refused fault.BadNumber
  pub leading_zero : line_read three (codes "deliver 01") ≡ Refused fault.BadNumber
  pub hex_first : line_read three (codes "bytes 9 1 1 0g") ≡ Refused fault.BadHex
  pub same_site : line_read three (codes "forward 2 2") ≡ Refused fault.OutOfRange
  pub empty_hex : line_read three (codes "bytes 1 1 1 ") ≡ Refused fault.OutOfRange
  pub encoded : encoding_of (Tick 3 0 100) ≡ codes "tick 3 0 100"
  pub lines_of_a_text : text_lines (97 ∷ 13 ∷ 10 ∷ 10 ∷ 98 ∷ 13 ∷ []) ≡ (97 ∷ []) ∷ [] ∷ (98 ∷ 13 ∷ []) ∷ []
  pub no_last_empty_line : text_lines (97 ∷ 10 ∷ []) ≡ (97 ∷ []) ∷ []
  pub no_line : text_lines [] ≡ []
  pub parted : parted_text (97 ∷ 13 ∷ 10 ∷ 45 ∷ 45 ∷ 45 ∷ 13 ∷ 10 ∷ 98 ∷ []) ≡ Some (record { before = 97 ∷ 13 ∷ 10 ∷ []; line = 2; behind = 98 ∷ [] })
  pub not_parted : parted_text (45 ∷ 45 ∷ 45 ∷ 13 ∷ []) ≡ None
