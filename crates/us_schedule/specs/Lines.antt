-- The lines of a schedule: what each says, how it is encoded, and why a line is refused.
use Rattle.std.specs.Prelude.{◌≡◌, ℕ, ◌+◌, ◌^◌, ◌==◌, nat_lt, nat_le, not, Bool, false, ◌&&◌, ◌||◌, if◌then◌else◌, List, [], ◌∷◌, length, map, take, drop}
use Rattle.std.specs.Prelude.{slice_index, codes, IsTrue, Option, Some, None, Result, Ok, Err, is_ok}
use Rattle.std.specs.List.{slice_split, join_with_byte, list_any, list_all}
use Rattle.std.specs.Str.{all_ascii_digits, bytes_eq}
use Rattle.std.specs.Str.Parse.{digits_value}
use Rattle.std.specs.Fmt.{decimal}
use Rattle.hex.specs.Hex.{decode_of, encode_lower, IsBytes}
use Rattle.us_base.specs.declared.shape.Shape.{Shape}
use Rattle.us_base.specs.Shape.{sites_of, IsShape}
use Rattle.us_schedule.specs.declared.fault.LineFault.{LineFault}
use Rattle.us_schedule.specs.declared.fault.LineFault.TheVariants as fault
use Rattle.us_schedule.specs.declared.line.Line.{Line}
use Rattle.us_schedule.specs.declared.line.Line.TheVariants.{Open, Bytes, Close, Tick, Deliver, Flush, Lead, Forward, Crash, Settle}

-- ---- ranges

abbrev pub is_site : Shape → ℕ → Bool
is_site shape n = nat_le 1 n && nat_le n (sites_of shape)

abbrev pub is_coord : Shape → ℕ → Bool
is_coord shape n = nat_le 1 n && nat_le n shape.parts

-- a partition, or 0 for the certifier
abbrev pub is_actor : Shape → ℕ → Bool
is_actor shape n = nat_le n shape.parts

-- a session's number, or a packet's
abbrev pub is_positive : ℕ → Bool
is_positive n = nat_le 1 n && nat_lt n (2 ^ 64)

abbrev pub is_clock : ℕ → Bool
is_clock n = nat_le n (2 ^ 59)

abbrev pub is_rounds : ℕ → Bool
is_rounds n = nat_le n 100000

abbrev pub is_piece : List ℕ → Bool
is_piece bytes = nat_le 1 (length bytes) && nat_le (length bytes) 65536

-- each value of the line is in its range
abbrev pub in_range : Shape → Line → Bool
in_range shape (Open site coord) = is_site shape site && is_coord shape coord
in_range shape (Bytes site coord session bytes) = is_site shape site && (is_coord shape coord && (is_positive session && is_piece bytes))
in_range shape (Close site coord session) = is_site shape site && (is_coord shape coord && is_positive session)
in_range shape (Tick site actor clock) = is_site shape site && (is_actor shape actor && is_clock clock)
in_range shape (Deliver number) = is_positive number
in_range shape (Flush from to) = is_site shape from && is_site shape to
in_range shape (Lead site) = is_site shape site
in_range shape (Forward site origin) = is_site shape site && (is_site shape origin && not (site == origin))
in_range shape (Crash site) = is_site shape site
in_range shape (Settle clock rounds) = is_clock clock && is_rounds rounds

-- the bytes that a line brings
abbrev pub bytes_of : Line → List ℕ
bytes_of (Bytes site coord session bytes) = bytes
bytes_of _ = []

-- a line that the grammar allows for the shape
pub record IsAllowed (shape : Shape) (line : Line) : Type 0 where
  pub ranges : IsTrue (in_range shape line)
  pub bytes : IsBytes (bytes_of line)

-- ---- encoding

-- the words of a line
abbrev pub words_of : Line → List (List ℕ)
words_of (Open site coord) = codes "open" ∷ decimal site ∷ decimal coord ∷ []
words_of (Bytes site coord session bytes) = codes "bytes" ∷ decimal site ∷ decimal coord ∷ decimal session ∷ encode_lower bytes ∷ []
words_of (Close site coord session) = codes "close" ∷ decimal site ∷ decimal coord ∷ decimal session ∷ []
words_of (Tick site actor clock) = codes "tick" ∷ decimal site ∷ decimal actor ∷ decimal clock ∷ []
words_of (Deliver number) = codes "deliver" ∷ decimal number ∷ []
words_of (Flush from to) = codes "flush" ∷ decimal from ∷ decimal to ∷ []
words_of (Lead site) = codes "lead" ∷ decimal site ∷ []
words_of (Forward site origin) = codes "forward" ∷ decimal site ∷ decimal origin ∷ []
words_of (Crash site) = codes "crash" ∷ decimal site ∷ []
words_of (Settle clock rounds) = codes "settle" ∷ decimal clock ∷ decimal rounds ∷ []

-- the words with one space between
abbrev pub encoding_of : Line → List ℕ
encoding_of line = join_with_byte 32 (words_of line)

-- ---- reading

-- what a text says as a line of the kind L
pub data Reading (L : Type 0) : Type 0 where
  Skipped : Reading L
  Parsed : L → Reading L
  Refused : LineFault → Reading L

-- what a line of a schedule says
abbrev pub Read : Type 0
Read = Reading Line

infixl 10 ◌>>=◌
abbrev pub ◌>>=◌ : {A B : Type 0} → Result A LineFault → (A → Result B LineFault) → Result B LineFault
(Ok x) >>= f = f x
(Err e) >>= f = Err e

-- the number that decimal digits write, below 2^64
abbrev pub number_in : List ℕ → Option ℕ
number_in digits = if all_ascii_digits digits && nat_lt (digits_value 10 digits) (2 ^ 64) then Some (digits_value 10 digits) else None

abbrev pub has_leading_zero : List ℕ → Bool
has_leading_zero word = (slice_index word 0 == 48) && nat_lt 1 (length word)

abbrev pub or_bad_number : Option ℕ → Result ℕ LineFault
or_bad_number (Some n) = Ok n
or_bad_number None = Err fault.BadNumber

-- the number of a word: decimal digits without a leading zero, at most 2^64 - 1
abbrev pub number : List ℕ → Result ℕ LineFault
number word = if (length word == 0) || has_leading_zero word then Err fault.BadNumber else or_bad_number (number_in word)

abbrev pub hex_of : {E : Type 0} → Result (List ℕ) E → Result (List ℕ) LineFault
hex_of (Ok bytes) = Ok bytes
hex_of (Err e) = Err fault.BadHex

-- the bytes of a hex text, in either case
abbrev pub hex : List ℕ → Result (List ℕ) LineFault
hex word = hex_of (decode_of word)

-- the line, where it is in range
abbrev pub within : {L : Type 0} → (L → Bool) → L → Result L LineFault
within ranges line = if ranges line then Ok line else Err fault.OutOfRange

-- the line of so many numbers, and of bytes in hex
abbrev pub one : {L : Type 0} → (L → Bool) → (ℕ → L) → List ℕ → Result L LineFault
one ranges line a = do
  x ← number a
  within ranges (line x)

abbrev pub two : {L : Type 0} → (L → Bool) → (ℕ → ℕ → L) → List ℕ → List ℕ → Result L LineFault
two ranges line a b = do
  x ← number a
  y ← number b
  within ranges (line x y)

abbrev pub three : {L : Type 0} → (L → Bool) → (ℕ → ℕ → ℕ → L) → List ℕ → List ℕ → List ℕ → Result L LineFault
three ranges line a b c = do
  x ← number a
  y ← number b
  z ← number c
  within ranges (line x y z)

abbrev pub three_and_hex : {L : Type 0} → (L → Bool) → (ℕ → ℕ → ℕ → List ℕ → L) → List ℕ → List ℕ → List ℕ → List ℕ → Result L LineFault
three_and_hex ranges line a b c d = do
  x ← number a
  y ← number b
  z ← number c
  bytes ← hex d
  within ranges (line x y z bytes)

-- the line of a name and the words behind it
abbrev pub said_by_one : Shape → List ℕ → List ℕ → Result Line LineFault
said_by_one shape name a =
    if bytes_eq name (codes "deliver") then one (in_range shape) Deliver a
    else if bytes_eq name (codes "lead") then one (in_range shape) Lead a
    else if bytes_eq name (codes "crash") then one (in_range shape) Crash a
    else Err fault.BadWord

abbrev pub said_by_two : Shape → List ℕ → List ℕ → List ℕ → Result Line LineFault
said_by_two shape name a b =
    if bytes_eq name (codes "open") then two (in_range shape) Open a b
    else if bytes_eq name (codes "flush") then two (in_range shape) Flush a b
    else if bytes_eq name (codes "forward") then two (in_range shape) Forward a b
    else if bytes_eq name (codes "settle") then two (in_range shape) Settle a b
    else Err fault.BadWord

abbrev pub said_by_three : Shape → List ℕ → List ℕ → List ℕ → List ℕ → Result Line LineFault
said_by_three shape name a b c =
    if bytes_eq name (codes "close") then three (in_range shape) Close a b c
    else if bytes_eq name (codes "tick") then three (in_range shape) Tick a b c
    else Err fault.BadWord

abbrev pub said_by_four : Shape → List ℕ → List ℕ → List ℕ → List ℕ → List ℕ → Result Line LineFault
said_by_four shape name a b c d = if bytes_eq name (codes "bytes") then three_and_hex (in_range shape) Bytes a b c d else Err fault.BadWord

-- the line of all its words
unfoldable pub said : Shape → List (List ℕ) → Result Line LineFault
said shape (name ∷ a ∷ []) = said_by_one shape name a
said shape (name ∷ a ∷ b ∷ []) = said_by_two shape name a b
said shape (name ∷ a ∷ b ∷ c ∷ []) = said_by_three shape name a b c
said shape (name ∷ a ∷ b ∷ c ∷ d ∷ []) = said_by_four shape name a b c d
said shape _ = Err fault.BadWord

abbrev pub read_of : {L : Type 0} → Result L LineFault → Reading L
read_of (Ok line) = Parsed line
read_of (Err e) = Refused e

-- a blank line, or one that begins with #
abbrev pub is_skipped : List ℕ → Bool
is_skipped text = (length text == 0) || (slice_index text 0 == 35)

-- what a text says whose words say so: they stand between single spaces, so two spaces together make an empty word
abbrev pub text_read : {L : Type 0} → (List (List ℕ) → Result L LineFault) → List ℕ → Reading L
text_read said text = if is_skipped text then Skipped else read_of (said (slice_split (λ b. b == 32) text))

-- what a line of a schedule says
abbrev pub line_read : Shape → List ℕ → Read
line_read shape text = text_read (said shape) text

-- ---- what is written is read, and what is read is encoded so

-- a letter of a hex digit in lower case
abbrev pub lower_digit : ℕ → ℕ
lower_digit c = if nat_le 65 c && nat_le c 70 then c + 32 else c

-- a line that the grammar allows is read as itself
abbrev pub WrittenIsRead : Type 0
WrittenIsRead = (shape : Shape) (line : Line) → IsShape shape → IsAllowed shape line → line_read shape (encoding_of line) ≡ Parsed line

-- a line has no other text, but for the case of its hex digits, and is allowed
abbrev pub ReadIsWritten : Type 0
ReadIsWritten = (shape : Shape) (text : List ℕ) (line : Line) → line_read shape text ≡ Parsed line
    → (map lower_digit text ≡ encoding_of line) × IsAllowed shape line

-- the names of the lines, and how many words stand behind each
abbrev pub forms : List (List ℕ × ℕ)
forms = (codes "open", 2) ∷ (codes "bytes", 4) ∷ (codes "close", 3) ∷ (codes "tick", 3) ∷ (codes "deliver", 1) ∷ (codes "flush", 2) ∷ (codes "lead", 1)
    ∷ (codes "forward", 2) ∷ (codes "crash", 1) ∷ (codes "settle", 2) ∷ []

abbrev pub is_form : List (List ℕ) → Bool
is_form [] = false
is_form (name ∷ words) = list_any (λ form. (length words == form.1) && bytes_eq name form.0) forms

-- the first that holds: three words behind the name are numbers, and a fourth is hex
abbrev pub first_fault : List (List ℕ) → LineFault
first_fault words =
    if not (is_form words) then fault.BadWord
    else if not (list_all (λ word. is_ok (number word)) (take 3 (drop 1 words))) then fault.BadNumber
    else if not (list_all (λ word. is_ok (hex word)) (drop 4 words)) then fault.BadHex
    else fault.OutOfRange

-- a line is refused for the first that holds
abbrev pub RefusedIsFirst : Type 0
RefusedIsFirst = (shape : Shape) (text : List ℕ) (e : LineFault) → line_read shape text ≡ Refused e → e ≡ first_fault (slice_split (λ b. b == 32) text)

-- ---- reading by code

-- what a step of reading returned is what the text says, unless memory ran out
abbrev pub FailsAs : {A : Type 0} → LineFault → Result A LineFault → Type 0
FailsAs fault.Memory said = Unit {0}
FailsAs e said = said ≡ Err e

abbrev pub Says : {A : Type 0} → Result A LineFault → Result A LineFault → Type 0
Says (Ok value) said = said ≡ Ok value
Says (Err e) said = FailsAs e said

-- the same, of a whole line
abbrev pub Fails : {L : Type 0} → LineFault → Reading L → Type 0
Fails fault.Memory read = Unit {0}
Fails e read = read ≡ Refused e

abbrev pub Gives : {L : Type 0} → Result (Option L) LineFault → Reading L → Type 0
Gives (Ok None) read = read ≡ Skipped
Gives (Ok (Some line)) read = read ≡ Parsed line
Gives (Err e) read = Fails e read
