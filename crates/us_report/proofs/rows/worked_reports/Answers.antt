use Rattle.std.proofs.Common.{refl}
use Rattle.std.specs.Fmt.{digits}
use Rattle.hex.specs.Hex.{encode_with}
use Rattle.us_report.specs.Text.{tid_text, session_text, past_text, counts_text}
use Rattle.us_report.proofs.rows.worked_reports.Goals as goal

pub returns : goal.returns
unfolding digits encode_with tid_text session_text past_text counts_text
returns c = record { nothing = refl; two = refl; every_line = refl; short = refl }
