-- The lines of a load are those of a schedule.
use Rattle.std.proofs.Common.{◌≡◌, ℕ, zero, suc, ◌+◌, ◌*◌, ◌%◌, ◌^◌, ◌<◌, ◌≤◌, Bool, true, false, cond, leb, List, [], ◌∷◌, ◌++◌, map, length, lit<}
use Rattle.std.proofs.Common.{refl, arith}
use Rattle.std.specs.Prelude.{◌==◌, codes}
use Rattle.std.specs.List.{AllByRecursion, range_with_len}
use Rattle.std.proofs.lemmas.Bool.{and_from, le-leb}
use Rattle.hex.specs.Hex.{IsBytes}
use Rattle.rand_core.specs.Stream.{Stream}
use Rattle.us_schedule.specs.declared.line.Line.{Line}
use Rattle.us_schedule.specs.declared.line.Line.TheVariants.{Bytes, Flush, Settle}
use Rattle.us_schedule.specs.Lines.{IsAllowed, encoding_of, is_site, is_coord}
use Rattle.us_load.specs.Words.{word, seeded}
use Rattle.us_load.specs.Transactions.{loaded, site_of, coord_of, session_of, transaction, transactions, frames, requests_of, behind_transaction}
use Rattle.us_load.specs.Load.{open_line, opens, load_lines}
use Rattle.us_load.proofs.Frames.{all_append, bytes_at, AreFew, transaction_few, transaction_some}
use Rattle.us_load.proofs.Printed.{IsPrinted, decimal_printed, hex_printed, joined_printed}

-- a line that the grammar allows, and that holds what no line ends with
pub record IsFine (line : Line) : Type 0 where
  pub allowed : IsAllowed loaded line
  pub printed : IsPrinted (encoding_of line)

abbrev pub AreFine : List Line → Type 0
AreFine lines = AllByRecursion IsFine lines

no_byte : IsBytes []
no_byte i = omega arith

site_fits : (n : ℕ) → 1 ≤ n → n ≤ 3 → is_site loaded n ≡ true
site_fits n low high = and_from (leb 1 n) (leb n 3) (le-leb 1 n low) (le-leb n 3 high)

coord_fits : (n : ℕ) → 1 ≤ n → n ≤ 4 → is_coord loaded n ≡ true
coord_fits n low high = and_from (leb 1 n) (leb n 4) (le-leb 1 n low) (le-leb n 4 high)

-- ---- each kind of line

open_fine : (session : ℕ) → session < 12 → IsFine (open_line session)
open_fine session lt =
    let site : site_of session ≤ 3 = omega arith in
    let coord : coord_of session ≤ 4 = omega arith in
    let at_site = site_fits (site_of session) (omega arith) site in
    let at_coord = coord_fits (coord_of session) (omega arith) coord in
    let s = decimal_printed (site_of session) (omega arith) in
    let c = decimal_printed (coord_of session) (omega arith) in
    record {
      allowed = record { ranges = and_from _ _ at_site at_coord; bytes = no_byte };
      printed = joined_printed (codes "open" ∷ _ ∷ _ ∷ []) ((lit< tt, (lit< tt, (lit< tt, (lit< tt, tt)))), (s, (c, tt)));
    }

bytes_fine : (session : ℕ) (bytes : List ℕ) → session < 12 → 1 ≤ length bytes → AreFew 84 bytes → IsFine (Bytes (site_of session) (coord_of session) 1 bytes)
bytes_fine session bytes lt some few =
    let site : site_of session ≤ 3 = omega arith in
    let coord : coord_of session ≤ 4 = omega arith in
    let at_site = site_fits (site_of session) (omega arith) site in
    let at_coord = coord_fits (coord_of session) (omega arith) coord in
    let s = decimal_printed (site_of session) (omega arith) in
    let c = decimal_printed (coord_of session) (omega arith) in
    let n = decimal_printed 1 (lit< tt) in
    let are = bytes_at bytes few.each in
    let short = few.few in
    let piece = and_from (leb 1 (length bytes)) (leb (length bytes) 65536) (le-leb _ _ some) (le-leb _ _ (omega arith)) in
    record {
      allowed = record { ranges = and_from _ _ at_site (and_from _ _ at_coord (and_from _ _ refl piece)); bytes = are };
      printed = joined_printed (codes "bytes" ∷ _ ∷ _ ∷ _ ∷ _ ∷ [])
          ((lit< tt, (lit< tt, (lit< tt, (lit< tt, (lit< tt, tt))))), (s, (c, (n, (hex_printed bytes are, tt)))));
    }

flush_fine : (site : ℕ) → 1 ≤ site → site ≤ 3 → IsFine (Flush site site)
flush_fine site low high =
    let s = decimal_printed site (omega arith) in
    let fits = site_fits site low high in
    record {
      allowed = record { ranges = and_from _ _ fits fits; bytes = no_byte };
      printed = joined_printed (codes "flush" ∷ _ ∷ _ ∷ []) ((lit< tt, (lit< tt, (lit< tt, (lit< tt, (lit< tt, tt))))), (s, (s, tt)));
    }

settle_fine : (clock rounds : ℕ) → clock ≤ 2 ^ 59 → rounds ≤ 100000 → IsFine (Settle clock rounds)
settle_fine clock rounds early few =
    let c = decimal_printed clock (omega arith) in
    let r = decimal_printed rounds (omega arith) in
    record {
      allowed = record { ranges = and_from (leb clock (2 ^ 59)) (leb rounds 100000) (le-leb _ _ early) (le-leb _ _ few); bytes = no_byte };
      printed = joined_printed (codes "settle" ∷ _ ∷ _ ∷ []) ((lit< tt, (lit< tt, (lit< tt, (lit< tt, (lit< tt, (lit< tt, tt)))))), (c, (r, tt)));
    }

-- ---- all lines

opens_fine : (from n : ℕ) → from + n ≤ 12 → AreFine (map open_line (range_with_len from n))
opens_fine from zero le = tt
opens_fine from (suc n) le = (open_fine from (omega arith), opens_fine (from + 1) n (omega arith))

settled_fine : (b : Bool) (i : ℕ) → i ≤ 5000 → AreFine (cond b (Settle (1000 * i) 6 ∷ []) [])
settled_fine true i le = (settle_fine (1000 * i) 6 (omega arith) (omega arith), tt)
settled_fine false i le = tt

transaction_fine : (i : ℕ) (s : Stream) → i ≤ 5000 → AreFine (transaction i s)
transaction_fine i s le =
    let session = session_of (word s) in
    let w = word s in
    let lt : session < 12 = omega arith in
    let bytes = bytes_fine session (frames (requests_of i s)) lt (transaction_some i s) (transaction_few i s) in
    let flush = flush_fine (site_of session) (omega arith) (omega arith) in
    (bytes, (flush, settled_fine (i % 16 == 0) i le))

transactions_fine : (left i : ℕ) (s : Stream) → left + i ≤ 5001 → AreFine (transactions left i s)
transactions_fine zero i s le = tt
transactions_fine (suc left) i s le =
    all_append IsFine (transaction i s) (transactions left (i + 1) (behind_transaction s))
    (transaction_fine i s (omega arith)) (transactions_fine left (i + 1) (behind_transaction s) (omega arith))

pub load_fine : (number count : ℕ) → count ≤ 5000 → AreFine (load_lines number count)
load_fine number count le =
    let last = Settle (1000 * (count + 1)) 40 ∷ [] in
    all_append IsFine (opens ++ transactions count 1 (seeded number)) last
    (all_append IsFine opens (transactions count 1 (seeded number)) (opens_fine 0 12 (omega arith)) (transactions_fine count 1 (seeded number) (omega arith)))
    (settle_fine (1000 * (count + 1)) 40 (omega arith) (omega arith), tt)
