-- The lines of a text, and the parts of a text around its separator.
use Rattle.std.specs.Prelude.{◌≡◌, ◌≢◌, ℕ, ◌+◌, ◌-◌, ◌==◌, if◌then◌else◌, List, [], ◌∷◌, ◌++◌, length, take, map, slice_index, codes, Option, Some, None}
use Rattle.std.specs.List.{onto_first, concat, AllByRecursion}
use Rattle.std.specs.Str.Lines.{strip_carriage_return}
use Rattle.std.specs.Str.{bytes_eq}

-- the text cut behind each LF: each line with its end
abbrev pub raw_lines : List ℕ → List (List ℕ)
raw_lines [] = []
raw_lines (b ∷ rest) = if b == 10 then (10 ∷ []) ∷ raw_lines rest else onto_first b (raw_lines rest)

-- a line without its end: the LF, and one CR before it
abbrev pub without_end : List ℕ → List ℕ
without_end raw = if slice_index raw (length raw - 1) == 10 then strip_carriage_return (take (length raw - 1) raw) else raw

-- the lines of a text. A last line may lack its LF, and then keeps its CR
abbrev pub text_lines : List ℕ → List (List ℕ)
text_lines text = map without_end (raw_lines text)

-- the first line of a text, and the text behind it
pub record IsFirstLine (text line rest : List ℕ) : Type 0 where
  pub raw : List ℕ
  pub whole : text ≡ raw ++ rest
  pub cut : raw_lines text ≡ raw ∷ raw_lines rest
  pub is : line ≡ without_end raw

-- the line that ends the first part of a text
abbrev pub separator : List ℕ
separator = codes "---"

-- a text around its first separator: the text before that line, the number of that line from 1, and the text behind it
pub record Parted : Type 0 where
  pub before : List ℕ
  pub line : ℕ
  pub behind : List ℕ

-- the same with more lines in front
abbrev pub after_lines : List ℕ → ℕ → Option Parted → Option Parted
after_lines front lines None = None
after_lines front lines (Some parted) = Some (record { before = front ++ parted.before; line = lines + parted.line; behind = parted.behind })

abbrev pub parted_lines : List (List ℕ) → Option Parted
parted_lines [] = None
parted_lines (raw ∷ more) =
    if bytes_eq (without_end raw) separator then Some (record { before = []; line = 1; behind = concat more }) else after_lines raw 1 (parted_lines more)

-- the parts of a text, where one of its lines is the separator
abbrev pub parted_text : List ℕ → Option Parted
parted_text text = parted_lines (raw_lines text)

-- the lines of the parts are those of the text, and the separator is the first
pub record IsParted (text : List ℕ) (parted : Parted) : Type 0 where
  pub lines : text_lines text ≡ text_lines parted.before ++ separator ∷ text_lines parted.behind
  pub number : parted.line ≡ length (text_lines parted.before) + 1
  pub first : AllByRecursion (λ line. line ≢ separator) (text_lines parted.before)
