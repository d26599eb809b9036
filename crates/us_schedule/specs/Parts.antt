-- The parts of a text that code hands out.
use Rattle.us_schedule.specs.Text.{Parted}
use Rattle.us_schedule.specs.declared.text.Parts.{Parts}

abbrev pub parted_of : Parts → Parted
parted_of parts = record { before = parts.before.now; line = parts.line; behind = parts.behind.now }
