use Rattle.std.proofs.Common.{◌≡◌, ◌≤◌, take}
use Rattle.us_report.specs.Text.{aborted_count}
use Rattle.us_report.proofs.display.aborted_count.Given as goal

abbrev pub invariant-loop-one : goal.invariant-loop-one
invariant-loop-one l = (l.count ≡ aborted_count (take l.one-index l.loose)) × (l.count ≤ l.one-index)
