use Rattle.std.proofs.Common.{take}
use Rattle.std.specs.Fmt.{HasWritten, IsPlainFormatter}
use Rattle.us_report.specs.Text.{others_text}
use Rattle.us_report.proofs.display.OthersTextDisplay.fmt.Given as goal

abbrev pub invariant-loop-value : goal.invariant-loop-value
invariant-loop-value g l =
    IsPlainFormatter l.initial.f → HasWritten g.W.Write.write_str_gives l.initial.f (others_text (take l.value-index l.value-items)) l.f
