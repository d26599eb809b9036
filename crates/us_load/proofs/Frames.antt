-- The frames of a transaction are bytes, and few.
use Rattle.std.proofs.Common.{ℕ, zero, suc, ◌+◌, ◌*◌, ◌/◌, ◌%◌, ◌^◌, ◌<◌, ◌≤◌, Bool, true, false, cond, List, [], ◌∷◌, ◌++◌, length, get_or}
use Rattle.std.proofs.Common.{length-append, lit<, sym, subst, arith}
use Rattle.std.specs.Prelude.{ℤ, ◌==◌}
use Rattle.std.specs.Int.{bytes_high_first, byte_at, to_be_bytes, cast_unsigned, w16, w32, w64}
use Rattle.std.specs.List.{AllByRecursion}
use Rattle.std.proofs.lemmas.List.Concat.{flat_map-append}
use Rattle.hex.specs.Hex.{IsBytes}
use Rattle.rand_core.specs.Stream.{Stream}
use Rattle.us_value.specs.declared.operation.Kind.{Kind}
use Rattle.us_value.specs.declared.operation.Kind.TheVariants.{Register, Counter, Set, Flag, Multi}
use Rattle.us_value.specs.declared.operation.Op.{Op}
use Rattle.us_value.specs.declared.operation.Op.TheVariants.{RegisterRead}
use Rattle.us_fields.specs.Fields.{op_encoding}
use Rattle.us_client_wire.specs.declared.frame.Request.TheVariants.{Begin, CommitCausal, CommitStrong}
use Rattle.us_client_wire.specs.Requests.{request_encoding}
use Rattle.us_load.specs.Words.{word, behind}
use Rattle.us_load.specs.Operations.{operations, picked, op_of, kind_of, space_of, value_of, amount_of}
use Rattle.us_load.specs.Transactions.{loaded, performs, perform_of, commit_of, requests, requests_of, frames, operation_count}

-- ---- lists of which each item passes

pub all_append : {A : Type 0} (P : A → Type 0) (xs ys : List A) → AllByRecursion P xs → AllByRecursion P ys → AllByRecursion P (xs ++ ys)
all_append P [] ys f g = g
all_append P (x ∷ xs) ys f g = (f.0, all_append P xs ys f.1 g)

all_at : {A : Type 0} (P : A → Type 0) (xs : List A) (i : ℕ) (d : A) → i < length xs → AllByRecursion P xs → P (get_or xs i d)
all_at P [] i d lt f = absurd (omega arith)
all_at P (x ∷ xs) zero d lt f = f.0
all_at P (x ∷ xs) (suc i) d lt f = all_at P xs i d (omega arith) f.1

-- ---- bytes

abbrev pub AreBytes : List ℕ → Type 0
AreBytes bytes = AllByRecursion (λ b. b < 256) bytes

pub bytes_at : (bytes : List ℕ) → AreBytes bytes → IsBytes bytes
bytes_at [] f i = omega arith
bytes_at (b ∷ bytes) f zero = f.0
bytes_at (b ∷ bytes) f (suc i) = bytes_at bytes f.1 i

byte_at-byte : (i n : ℕ) → byte_at i n < 256
byte_at-byte zero n = omega arith
byte_at-byte (suc i) n = let m = n / 256 ^ suc i in omega arith

high_first-bytes : (k n : ℕ) → AreBytes (bytes_high_first k n)
high_first-bytes zero n = tt
high_first-bytes (suc k) n = (byte_at-byte k n, high_first-bytes k n)

-- bytes, and at most so many
pub record AreFew (most : ℕ) (bytes : List ℕ) : Type 0 where
  pub few : length bytes ≤ most
  pub each : AreBytes bytes

few_append : (m n k : ℕ) (xs ys : List ℕ) → m + n ≤ k → AreFew m xs → AreFew n ys → AreFew k (xs ++ ys)
few_append m n k xs ys le f g = record { few = omega (arith, length-append xs ys, f.few, g.few); each = all_append (λ b. b < 256) xs ys f.each g.each }

-- ---- operations

abbrev IsShortOp : Op → Type 0
IsShortOp op = AreFew 9 (op_encoding op)

bare : (code : ℕ) → code < 256 → AreFew 9 (code ∷ [])
bare code lt = record { few = omega arith; each = (lt, tt) }

letter : (w : ℕ) → 65 + w / 640 % 8 < 256
letter w = omega arith

valued : (code w : ℕ) → code < 256 → AreFew 9 (code ∷ (to_be_bytes w16 (length (value_of w)) ++ value_of w))
valued code w lt = record { few = omega arith; each = (lt, (byte_at-byte 1 1, (byte_at-byte 0 1, (letter w, tt)))) }

amount : (z : ℤ) → AreFew 9 (4 ∷ to_be_bytes w64 (cast_unsigned w64 z))
amount z = record { few = omega arith; each = (lit< tt, high_first-bytes 8 (cast_unsigned w64 z)) }

operations_short : (kind : Kind) (w : ℕ) → AllByRecursion IsShortOp (operations kind (value_of w) (amount_of w))
operations_short Register w = (bare 1 (lit< tt), (valued 2 w (lit< tt), tt))
operations_short Counter w = (bare 3 (lit< tt), (amount (amount_of w), tt))
operations_short Set w = (bare 5 (lit< tt), (valued 6 w (lit< tt), (valued 7 w (lit< tt), (valued 8 w (lit< tt), tt))))
operations_short Flag w = (bare 9 (lit< tt), (bare 10 (lit< tt), (bare 11 (lit< tt), tt)))
operations_short Multi w = (bare 12 (lit< tt), (valued 13 w (lit< tt), tt))

some_operation : (kind : Kind) (value : List ℕ) (amount : ℤ) → 0 < length (operations kind value amount)
some_operation Register value amount = lit< tt
some_operation Counter value amount = lit< tt
some_operation Set value amount = lit< tt
some_operation Flag value amount = lit< tt
some_operation Multi value amount = lit< tt

picked-all : (P : Op → Type 0) (ops : List Op) (n : ℕ) → 0 < length ops → AllByRecursion P ops → P (picked ops n)
picked-all P ops n some f = all_at P ops (n % length ops) RegisterRead (omega arith) f

op_short : (w : ℕ) → IsShortOp (op_of w)
op_short w =
    let kind = kind_of (space_of w) in
    picked-all IsShortOp (operations kind (value_of w) (amount_of w)) (w / 40) (some_operation kind (value_of w) (amount_of w)) (operations_short kind w)

-- ---- frames

bare_frame : (tag : ℕ) → tag < 256 → AreFew 6 (to_be_bytes w32 2 ++ 1 ∷ tag ∷ [])
bare_frame tag lt = record { few = omega arith; each = all_append (λ b. b < 256) (to_be_bytes w32 2) (1 ∷ tag ∷ []) (high_first-bytes 4 2) (lit< tt, (lt, tt)) }

begin_few : AreFew 6 (request_encoding loaded Begin)
unfolding request_encoding
begin_few = bare_frame 1 (lit< tt)

commit_few : (b : Bool) → AreFew 6 (request_encoding loaded (cond b CommitStrong CommitCausal))
unfolding request_encoding
commit_few true = bare_frame 4 (lit< tt)
commit_few false = bare_frame 3 (lit< tt)

perform_few : (w : ℕ) → AreFew 18 (request_encoding loaded (perform_of w))
unfolding request_encoding
perform_few w =
    let op = op_short w in
    let space : 1 + w % 5 < 256 = omega arith in
    let id : 97 + w / 5 % 8 < 256 = omega arith in
    let fields = (1 + w % 5) ∷ 1 ∷ (97 + w / 5 % 8) ∷ op_encoding (op_of w) in
    let length_field = to_be_bytes w32 (length fields + 2) in
    let rest : AreBytes (1 ∷ 2 ∷ fields) = (lit< tt, (lit< tt, (space, (lit< tt, (id, op.each))))) in
    record {
      few = omega (arith, op.few);
      each = all_append (λ b. b < 256) length_field (1 ∷ 2 ∷ fields) (high_first-bytes 4 (length fields + 2)) rest;
    }

performs_few : (n : ℕ) (s : Stream) → AreFew (18 * n) (frames (performs n s))
performs_few zero s = record { few = omega arith; each = tt }
performs_few (suc n) s =
    few_append 18 (18 * n) (18 * suc n) (request_encoding loaded (perform_of (word s))) (frames (performs n (behind s)))
    (omega arith) (perform_few (word s)) (performs_few n (behind s))

requests_few : (i n : ℕ) (s : Stream) → n ≤ 4 → AreFew 84 (frames (requests i n s))
requests_few i n s le =
    let none : AreFew 0 [] = record { few = omega arith; each = tt } in
    let last = frames (commit_of i ∷ []) in
    let commit : AreFew 6 last = few_append 6 0 6 (request_encoding loaded (commit_of i)) [] (omega arith) (commit_few (i % 8 == 0)) none in
    let rest : AreFew 78 (frames (performs n s) ++ last) = few_append (18 * n) 6 78 (frames (performs n s)) last (omega arith) (performs_few n s) commit in
    let whole = few_append 6 78 84 (request_encoding loaded Begin) (frames (performs n s) ++ last) (omega arith) begin_few rest in
    let P : List ℕ → Type 0 = λ bytes. AreFew 84 (request_encoding loaded Begin ++ bytes) in
    subst P (sym (flat_map-append (request_encoding loaded) (performs n s) (commit_of i ∷ []))) whole

pub transaction_few : (i : ℕ) (s : Stream) → AreFew 84 (frames (requests_of i s))
transaction_few i s = let w = word s in requests_few i (operation_count w) (behind s) (omega arith)

pub transaction_some : (i : ℕ) (s : Stream) → 1 ≤ length (frames (requests_of i s))
unfolding request_encoding
transaction_some i s = omega arith
