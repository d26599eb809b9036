use Rattle.std.proofs.Common.{refl}
use Rattle.std.specs.Fmt.{digits}
use Rattle.hex.specs.Hex.{decode_pairs}
use Rattle.us_schedule.specs.Lines.{said}
use Rattle.us_schedule.proofs.laws.worked_lines.Goals as goal

pub returns : goal.returns
unfolding said decode_pairs digits
returns c = record { open_line = refl; bytes_line = refl; settle_line = refl; blank = refl; comment = refl; a_space = refl; two_spaces = refl; leading_zero = refl; hex_first = refl; same_site = refl; empty_hex = refl; encoded = refl; lines_of_a_text = refl; no_last_empty_line = refl; no_line = refl; parted = refl; not_parted = refl }
