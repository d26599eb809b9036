use Rattle.std.proofs.Common.{◌≡◌, map}
use Rattle.std.specs.List.{range_with_len}
use Rattle.us_load.specs.Load.{open_line}
use Rattle.us_load.proofs.load.opens.Given as goal

abbrev pub invariant-loop-session : goal.invariant-loop-session
invariant-loop-session l = l.lines ≡ map open_line (range_with_len 0 l.session)
