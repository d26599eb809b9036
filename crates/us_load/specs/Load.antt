-- The text of a load.
use Rattle.std.specs.Prelude.{ℕ, ◌+◌, ◌*◌, List, [], ◌∷◌, ◌++◌, map, codes}
use Rattle.std.specs.List.{flat_map, range_with_len}
use Rattle.us_schedule.specs.declared.line.Line.{Line}
use Rattle.us_schedule.specs.declared.line.Line.TheVariants.{Open, Settle}
use Rattle.us_schedule.specs.Lines.{encoding_of}
use Rattle.us_schedule.specs.Text.{separator}
use Rattle.us_load.specs.Words.{seeded}
use Rattle.us_load.specs.Transactions.{sessions, site_of, coord_of, transactions}

-- ---- the configuration

-- a space, its number and its kind
abbrev pub space_lines : List ℕ → List ℕ → List (List ℕ)
space_lines number kind = codes "[[space]]" ∷ (codes "number = " ++ number) ∷ (codes "kind = \"" ++ kind ++ codes "\"") ∷ []

abbrev pub configuration_lines : List (List ℕ)
configuration_lines =
    codes "sites = 3" ∷ codes "partitions = 4" ∷ []
    ++ space_lines (codes "1") (codes "register")
    ++ space_lines (codes "2") (codes "counter") ++ codes "conflicts = [[\"take\",\"take\"]]" ∷ []
    ++ space_lines (codes "3") (codes "set")
    ++ space_lines (codes "4") (codes "flag")
    ++ space_lines (codes "5") (codes "multi")

-- lines, each with its end
abbrev pub ended : List ℕ → List ℕ
ended line = line ++ 10 ∷ []

abbrev pub text_of : List (List ℕ) → List ℕ
text_of lines = flat_map ended lines

abbrev pub configuration : List ℕ
configuration = text_of configuration_lines

-- ---- the lines behind it

abbrev pub open_line : ℕ → Line
open_line session = Open (site_of session) (coord_of session)

-- all sessions are opened, in order
abbrev pub opens : List Line
opens = map open_line (range_with_len 0 sessions)

abbrev pub load_lines : ℕ → ℕ → List Line
load_lines number count = opens ++ transactions count 1 (seeded number) ++ Settle (1000 * (count + 1)) 40 ∷ []

-- the text of a line, with its end
abbrev pub line_text : Line → List ℕ
line_text line = ended (encoding_of line)

-- the configuration, and the line behind it
abbrev pub front : List ℕ
front = configuration ++ ended separator

-- THE TEXT OF THE LOAD with this number, of so many transactions
abbrev pub load_text : ℕ → ℕ → List ℕ
load_text number count = front ++ flat_map line_text (load_lines number count)
