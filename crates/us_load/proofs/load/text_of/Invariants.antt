use Rattle.std.proofs.Common.{◌≡◌, ◌++◌, take}
use Rattle.std.specs.List.{flat_map}
use Rattle.us_load.specs.Load.{front, line_text}
use Rattle.us_load.proofs.load.text_of.Given as goal

abbrev pub invariant-loop-line : goal.invariant-loop-line
invariant-loop-line l = l.out.items ≡ front ++ flat_map line_text (take l.line-index l.lines)
