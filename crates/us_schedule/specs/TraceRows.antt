-- Worked lines of a trace.
use Rattle.std.specs.Prelude.{◌≡◌, [], ◌∷◌, codes}
use Rattle.us_schedule.specs.declared.fault.LineFault.TheVariants as fault
use Rattle.us_schedule.specs.declared.trace_line.TraceLine.TheVariants.{Node, Bytes, Tick, Take, Lead, NoPoll, End}
use Rattle.us_schedule.specs.Lines.{Skipped, Parsed, Refused}
use Rattle.us_schedule.specs.Trace.{trace_read, trace_encoding_of}
use Rattle.us_schedule.specs.Rows.{three}

pub record WorkedTraceLines : Type 0 where
  pub node_line : trace_read three (codes "node 3") ≡ Parsed (Node 3)
  pub bytes_line : trace_read three (codes "bytes 2 18446744073709551615 0aFf") ≡ Parsed (Bytes 2 18446744073709551615 (10 ∷ 255 ∷ []))
  pub take_line : trace_read three (codes "take 0A") ≡ Parsed (Take (10 ∷ []))
  pub no_frame : trace_read three (codes "take ") ≡ Parsed (Take [])
  pub no_poll : trace_read three (codes "nopoll") ≡ Parsed NoPoll
  pub all_turns : trace_read three (codes "end 18446744073709551615") ≡ Parsed (End 18446744073709551615)
  pub comment : trace_read three (codes "#lead") ≡ Skipped
  pub name_alone : trace_read three (codes "lead 1") ≡ Refused fault.BadWord
  pub a_space : trace_read three (codes "lead ") ≡ Refused fault.BadWord
  pub of_a_schedule : trace_read three (codes "deliver 1") ≡ Refused fault.BadWord
  pub leading_zero : trace_read three (codes "end 01") ≡ Refused fault.BadNumber
  pub hex_first : trace_read three (codes "bytes 9 1 0g") ≡ Refused fault.BadHex
  pub odd_frame : trace_read three (codes "take 0") ≡ Refused fault.BadHex
  pub no_part : trace_read three (codes "forward 3 1") ≡ Refused fault.OutOfRange
  pub empty_hex : trace_read three (codes "bytes 1 1 ") ≡ Refused fault.OutOfRange
  pub lead_encoded : trace_encoding_of Lead ≡ codes "lead"
  pub tick_encoded : trace_encoding_of (Tick 0 100) ≡ codes "tick 0 100"
