use Rattle.std.proofs.Common.{refl}
use Rattle.std.specs.Fmt.{digits}
use Rattle.hex.specs.Hex.{decode_pairs}
use Rattle.us_schedule.specs.Trace.{trace_said}
use Rattle.us_schedule.proofs.laws.worked_trace_lines.Goals as goal

pub returns : goal.returns
unfolding trace_said decode_pairs digits
returns c = record { node_line = refl; bytes_line = refl; take_line = refl; no_frame = refl; no_poll = refl; all_turns = refl; comment = refl; name_alone = refl; a_space = refl; of_a_schedule = refl; leading_zero = refl; hex_first = refl; odd_frame = refl; no_part = refl; empty_hex = refl; lead_encoded = refl; tick_encoded = refl }
