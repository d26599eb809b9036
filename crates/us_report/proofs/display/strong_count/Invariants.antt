use Rattle.std.proofs.Common.{◌≡◌, ◌≤◌, take}
use Rattle.us_report.specs.Text.{strong_count}
use Rattle.us_report.proofs.display.strong_count.Given as goal

abbrev pub invariant-loop-entry : goal.invariant-loop-entry
invariant-loop-entry l = (l.count ≡ strong_count (take l.entry-index l.entries)) × (l.count ≤ l.entry-index)
