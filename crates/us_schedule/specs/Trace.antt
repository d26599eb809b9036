-- The lines of a node's trace: what each says, how it is encoded, and why a line is refused.
use Rattle.std.specs.Prelude.{◌≡◌, ℕ, ◌^◌, ◌==◌, nat_lt, not, Bool, true, false, ◌&&◌, if◌then◌else◌, List, [], ◌∷◌, length, map, take, drop, codes}
use Rattle.std.specs.Prelude.{IsTrue, Result, Ok, Err, is_ok}
use Rattle.std.specs.List.{slice_split, join_with_byte, list_any, list_all}
use Rattle.std.specs.Str.{bytes_eq}
use Rattle.std.specs.Fmt.{decimal}
use Rattle.hex.specs.Hex.{encode_lower, IsBytes}
use Rattle.us_base.specs.declared.shape.Shape.{Shape}
use Rattle.us_base.specs.Shape.{IsShape}
use Rattle.us_schedule.specs.Lines.{is_site, is_coord, is_actor, is_positive, is_clock, is_piece, number, hex, ◌>>=◌, within, one, two, Reading, Parsed}
use Rattle.us_schedule.specs.Lines.{Refused, text_read, lower_digit}
use Rattle.us_schedule.specs.declared.fault.LineFault.{LineFault}
use Rattle.us_schedule.specs.declared.fault.LineFault.TheVariants as fault
use Rattle.us_schedule.specs.declared.trace_line.TraceLine.{TraceLine}
use Rattle.us_schedule.specs.declared.trace_line.TraceLine.TheVariants.{Node, Open, Bytes, Close, Tick, Take, Lead, Forward, Lost, NoPoll, Bad, End}

-- ---- ranges

-- partitions are numbered as coordinators are
abbrev pub is_part : Shape → ℕ → Bool
is_part shape n = is_coord shape n

abbrev pub is_turns : ℕ → Bool
is_turns n = nat_lt n (2 ^ 64)

-- each value of the line is in its range; a frame may have any length
abbrev pub in_trace_range : Shape → TraceLine → Bool
in_trace_range shape (Node site) = is_site shape site
in_trace_range shape (Open coord) = is_coord shape coord
in_trace_range shape (Bytes coord session bytes) = is_coord shape coord && (is_positive session && is_piece bytes)
in_trace_range shape (Close coord session) = is_coord shape coord && is_positive session
in_trace_range shape (Tick actor clock) = is_actor shape actor && is_clock clock
in_trace_range shape (Take frame) = true
in_trace_range shape Lead = true
in_trace_range shape (Forward part origin) = is_part shape part && is_site shape origin
in_trace_range shape (Lost site) = is_site shape site
in_trace_range shape NoPoll = true
in_trace_range shape (Bad site) = is_site shape site
in_trace_range shape (End turns) = is_turns turns

-- the bytes that a line brings
abbrev pub trace_bytes_of : TraceLine → List ℕ
trace_bytes_of (Bytes coord session bytes) = bytes
trace_bytes_of (Take frame) = frame
trace_bytes_of _ = []

-- a line that the grammar allows for the shape
pub record IsAllowedTrace (shape : Shape) (line : TraceLine) : Type 0 where
  pub ranges : IsTrue (in_trace_range shape line)
  pub bytes : IsBytes (trace_bytes_of line)

-- ---- encoding

-- the words of a line
abbrev pub trace_words_of : TraceLine → List (List ℕ)
trace_words_of (Node site) = codes "node" ∷ decimal site ∷ []
trace_words_of (Open coord) = codes "open" ∷ decimal coord ∷ []
trace_words_of (Bytes coord session bytes) = codes "bytes" ∷ decimal coord ∷ decimal session ∷ encode_lower bytes ∷ []
trace_words_of (Close coord session) = codes "close" ∷ decimal coord ∷ decimal session ∷ []
trace_words_of (Tick actor clock) = codes "tick" ∷ decimal actor ∷ decimal clock ∷ []
trace_words_of (Take frame) = codes "take" ∷ encode_lower frame ∷ []
trace_words_of Lead = codes "lead" ∷ []
trace_words_of (Forward part origin) = codes "forward" ∷ decimal part ∷ decimal origin ∷ []
trace_words_of (Lost site) = codes "lost" ∷ decimal site ∷ []
trace_words_of NoPoll = codes "nopoll" ∷ []
trace_words_of (Bad site) = codes "bad" ∷ decimal site ∷ []
trace_words_of (End turns) = codes "end" ∷ decimal turns ∷ []

-- the words with one space between
abbrev pub trace_encoding_of : TraceLine → List ℕ
trace_encoding_of line = join_with_byte 32 (trace_words_of line)

-- ---- reading

-- the line of bytes in hex, behind no number and behind two
abbrev pub hex_alone : {L : Type 0} → (L → Bool) → (List ℕ → L) → List ℕ → Result L LineFault
hex_alone ranges line a = do
  bytes ← hex a
  within ranges (line bytes)

abbrev pub two_and_hex : {L : Type 0} → (L → Bool) → (ℕ → ℕ → List ℕ → L) → List ℕ → List ℕ → List ℕ → Result L LineFault
two_and_hex ranges line a b c = do
  x ← number a
  y ← number b
  bytes ← hex c
  within ranges (line x y bytes)

-- the line of a name and the words behind it
abbrev pub trace_by_none : List ℕ → Result TraceLine LineFault
trace_by_none name =
    if bytes_eq name (codes "lead") then Ok Lead
    else if bytes_eq name (codes "nopoll") then Ok NoPoll
    else Err fault.BadWord

abbrev pub trace_by_one : Shape → List ℕ → List ℕ → Result TraceLine LineFault
trace_by_one shape name a =
    if bytes_eq name (codes "node") then one (in_trace_range shape) Node a
    else if bytes_eq name (codes "open") then one (in_trace_range shape) Open a
    else if bytes_eq name (codes "take") then hex_alone (in_trace_range shape) Take a
    else if bytes_eq name (codes "lost") then one (in_trace_range shape) Lost a
    else if bytes_eq name (codes "bad") then one (in_trace_range shape) Bad a
    else if bytes_eq name (codes "end") then one (in_trace_range shape) End a
    else Err fault.BadWord

abbrev pub trace_by_two : Shape → List ℕ → List ℕ → List ℕ → Result TraceLine LineFault
trace_by_two shape name a b =
    if bytes_eq name (codes "close") then two (in_trace_range shape) Close a b
    else if bytes_eq name (codes "tick") then two (in_trace_range shape) Tick a b
    else if bytes_eq name (codes "forward") then two (in_trace_range shape) Forward a b
    else Err fault.BadWord

abbrev pub trace_by_three : Shape → List ℕ → List ℕ → List ℕ → List ℕ → Result TraceLine LineFault
trace_by_three shape name a b c = if bytes_eq name (codes "bytes") then two_and_hex (in_trace_range shape) Bytes a b c else Err fault.BadWord

-- the line of all its words
unfoldable pub trace_said : Shape → List (List ℕ) → Result TraceLine LineFault
trace_said shape (name ∷ []) = trace_by_none name
trace_said shape (name ∷ a ∷ []) = trace_by_one shape name a
trace_said shape (name ∷ a ∷ b ∷ []) = trace_by_two shape name a b
trace_said shape (name ∷ a ∷ b ∷ c ∷ []) = trace_by_three shape name a b c
trace_said shape _ = Err fault.BadWord

-- what a line of a trace says
abbrev pub trace_read : Shape → List ℕ → Reading TraceLine
trace_read shape text = text_read (trace_said shape) text

-- ---- what is written is read, and what is read is encoded so

-- a line that the grammar allows is read as itself
abbrev pub TraceWrittenIsRead : Type 0
TraceWrittenIsRead = (shape : Shape) (line : TraceLine) → IsShape shape → IsAllowedTrace shape line
    → trace_read shape (trace_encoding_of line) ≡ Parsed line

-- a line has no other text, but for the case of its hex digits, and is allowed
abbrev pub TraceReadIsWritten : Type 0
TraceReadIsWritten = (shape : Shape) (text : List ℕ) (line : TraceLine) → trace_read shape text ≡ Parsed line
    → (map lower_digit text ≡ trace_encoding_of line) × IsAllowedTrace shape line

-- the names of the lines, and how many words stand behind each
abbrev pub trace_forms : List (List ℕ × ℕ)
trace_forms = (codes "node", 1) ∷ (codes "open", 1) ∷ (codes "bytes", 3) ∷ (codes "close", 2) ∷ (codes "tick", 2) ∷ (codes "take", 1) ∷ (codes "lead", 0)
    ∷ (codes "forward", 2) ∷ (codes "lost", 1) ∷ (codes "nopoll", 0) ∷ (codes "bad", 1) ∷ (codes "end", 1) ∷ []

abbrev pub is_trace_form : List (List ℕ) → Bool
is_trace_form [] = false
is_trace_form (name ∷ words) = list_any (λ form. (length words == form.1) && bytes_eq name form.0) trace_forms

-- how many words behind the name are numbers, before the one that is hex
abbrev pub numbers_behind : List ℕ → ℕ
numbers_behind name = if bytes_eq name (codes "take") then 0 else 2

-- the first that holds: the words behind the name are numbers, and the last of `bytes` and of `take` is hex
abbrev pub first_trace_fault : List (List ℕ) → LineFault
first_trace_fault [] = fault.BadWord
first_trace_fault (name ∷ words) =
    if not (is_trace_form (name ∷ words)) then fault.BadWord
    else if not (list_all (λ word. is_ok (number word)) (take (numbers_behind name) words)) then fault.BadNumber
    else if not (list_all (λ word. is_ok (hex word)) (drop (numbers_behind name) words)) then fault.BadHex
    else fault.OutOfRange

-- a line is refused for the first that holds
abbrev pub TraceRefusedIsFirst : Type 0
TraceRefusedIsFirst = (shape : Shape) (text : List ℕ) (e : LineFault) → trace_read shape text ≡ Refused e
    → e ≡ first_trace_fault (slice_split (λ b. b == 32) text)
