-- A load is a schedule.
use Rattle.std.proofs.Common.{◌≡◌, ℕ, ◌≤◌, List, [], ◌∷◌, ◌++◌, map, Some, refl, sym, ap, ◌∙◌, subst, arith}
use Rattle.std.specs.List.{AllByRecursion, concat, flat_map}
use Rattle.us_base.specs.Shape.{IsShape}
use Rattle.us_schedule.specs.declared.line.Line.{Line}
use Rattle.us_schedule.specs.Lines.{IsAllowed, encoding_of, line_read, Parsed}
use Rattle.us_schedule.specs.Text.{raw_lines, parted_text}
use Rattle.us_schedule.proofs.Parting.{concat_raw}
use Rattle.us_schedule.proofs.Again.{written_is_read}
use Rattle.us_load.specs.Transactions.{loaded}
use Rattle.us_load.specs.Load.{configuration, front, line_text, load_lines}
use Rattle.us_load.specs.Grammar.{IsScheduleOf, LoadsAreSchedules}
use Rattle.us_load.proofs.Printed.{IsPrinted, lines_again}
use Rattle.us_load.proofs.Allowed.{AreFine, load_fine}

shape : IsShape loaded
shape = record { few_sites = omega arith; some_partition = omega arith; few_partitions = omega arith }

are_allowed : (lines : List Line) → AreFine lines → AllByRecursion (IsAllowed loaded) lines
are_allowed [] f = tt
are_allowed (line ∷ lines) f = (f.0.allowed, are_allowed lines f.1)

are_printed : (lines : List Line) → AreFine lines → AllByRecursion (λ line. IsPrinted (encoding_of line)) lines
are_printed [] f = tt
are_printed (line ∷ lines) f = (f.0.printed, are_printed lines f.1)

are_read : (lines : List Line) → AreFine lines → map (line_read loaded) (map encoding_of lines) ≡ map (λ line. Parsed line) lines
are_read [] f = refl
are_read (line ∷ lines) f =
    let first = written_is_read loaded line shape f.0.allowed in
    λ i. first i ∷ are_read lines f.1 i

-- the first separator is the one behind the configuration, whatever follows
parted_behind : (behind : List ℕ) → parted_text (front ++ behind) ≡ Some (record { before = configuration; line = 19; behind = concat (raw_lines behind) })
parted_behind behind = refl

pub loads_are_schedules : LoadsAreSchedules
loads_are_schedules number count le =
    let lines = load_lines number count in
    let fine = load_fine number count le in
    let text = flat_map line_text lines in
    record {
      separator = 19;
      behind = text;
      parted = parted_behind text ∙ ap (λ (behind : List ℕ). Some (record { before = configuration; line = 19; behind = behind })) (concat_raw text);
      read = ap (map (line_read loaded)) (lines_again lines (are_printed lines fine)) ∙ are_read lines fine;
      allowed = are_allowed lines fine;
    }

-- the same of a text that is a load's
pub load_is_schedule : (number count : ℕ) (lines : List Line) (text : List ℕ) → count ≤ 5000 → lines ≡ load_lines number count
    → text ≡ front ++ flat_map line_text lines → IsScheduleOf loaded configuration (load_lines number count) text
load_is_schedule number count lines text le all is =
    let P : List ℕ → Type 0 = λ text. IsScheduleOf loaded configuration (load_lines number count) text in
    subst P (sym (is ∙ ap (λ (lines : List Line). front ++ flat_map line_text lines) all)) (loads_are_schedules number count le)
