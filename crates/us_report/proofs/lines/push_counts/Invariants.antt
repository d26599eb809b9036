use Rattle.std.proofs.Common.{◌≡◌, ◌++◌, string_bytes, take}
use Rattle.std.specs.List.{flat_map}
use Rattle.us_report.specs.Text.{count_text}
use Rattle.us_report.proofs.lines.push_counts.Given as goal

abbrev pub invariant-loop-count : goal.invariant-loop-count
invariant-loop-count l = string_bytes l.line ≡ string_bytes l.initial.line ++ flat_map count_text (take l.count-index l.past)
