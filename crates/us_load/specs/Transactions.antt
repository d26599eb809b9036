-- The transactions of a load.
use Rattle.std.specs.Prelude.{ℕ, zero, suc, ◌+◌, ◌*◌, ◌/◌, ◌%◌, ◌==◌, if◌then◌else◌, List, [], ◌∷◌, ◌++◌}
use Rattle.std.specs.List.{flat_map}
use Rattle.rand_core.specs.Stream.{Stream}
use Rattle.us_base.specs.declared.shape.Shape.{Shape}
use Rattle.us_client_wire.specs.declared.frame.Request.{Request}
use Rattle.us_client_wire.specs.declared.frame.Request.TheVariants.{Begin, Perform, CommitCausal, CommitStrong}
use Rattle.us_client_wire.specs.Requests.{request_encoding}
use Rattle.us_schedule.specs.declared.line.Line.{Line}
use Rattle.us_schedule.specs.declared.line.Line.TheVariants.{Bytes, Flush, Settle}
use Rattle.us_load.specs.Words.{word, behind, skip}
use Rattle.us_load.specs.Operations.{item_of, op_of}

-- three sites of four partitions
abbrev pub loaded : Shape
loaded = record { f = 1; parts = 4 }

-- ---- sessions: number 0 to 11, one at each coordinator

abbrev pub sessions : ℕ
sessions = 12

abbrev pub site_of : ℕ → ℕ
site_of session = 1 + session / 4

abbrev pub coord_of : ℕ → ℕ
coord_of session = 1 + session % 4

-- ---- what a transaction asks for: its number i counts from 1, and its words are the next ones

abbrev pub session_of : ℕ → ℕ
session_of w = w % sessions

abbrev pub operation_count : ℕ → ℕ
operation_count w = 1 + w / 12 % 4

abbrev pub perform_of : ℕ → Request
perform_of w = Perform (item_of w) (op_of w)

-- so many operations, each of a word
abbrev pub performs : ℕ → Stream → List Request
performs zero s = []
performs (suc n) s = perform_of (word s) ∷ performs n (behind s)

-- each eighth transaction is strong
abbrev pub commit_of : ℕ → Request
commit_of i = if i % 8 == 0 then CommitStrong else CommitCausal

-- transaction i, with so many operations
abbrev pub requests : ℕ → ℕ → Stream → List Request
requests i n s = Begin ∷ (performs n s ++ commit_of i ∷ [])

-- its first word says at which session it is, and how many operations it has
abbrev pub requests_of : ℕ → Stream → List Request
requests_of i s = requests i (operation_count (word s)) (behind s)

-- the words behind a transaction's
abbrev pub behind_transaction : Stream → Stream
behind_transaction s = skip (operation_count (word s)) (behind s)

-- ---- its lines

-- the frames of requests
abbrev pub frames : List Request → List ℕ
frames asked = flat_map (request_encoding loaded) asked

-- the frames to a session's coordinator, where it is the first session, and what is sent at its site
abbrev pub session_lines : ℕ → List ℕ → List Line
session_lines session bytes = Bytes (site_of session) (coord_of session) 1 bytes ∷ Flush (site_of session) (site_of session) ∷ []

-- behind each sixteenth transaction all sites exchange what they know
abbrev pub settled : ℕ → List Line
settled i = if i % 16 == 0 then Settle (1000 * i) 6 ∷ [] else []

abbrev pub transaction : ℕ → Stream → List Line
transaction i s = session_lines (session_of (word s)) (frames (requests_of i s)) ++ settled i

-- so many transactions, from number i on
abbrev pub transactions : ℕ → ℕ → Stream → List Line
transactions zero i s = []
transactions (suc left) i s = transaction i s ++ transactions left (i + 1) (behind_transaction s)
