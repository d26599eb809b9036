-- A turn of a loop against the recursion of a definition.
use Rattle.std.proofs.Common.{◌≡◌, ℕ, zero, suc, ◌+◌, ◌-◌, ◌<◌, List, ◌∷◌, ◌++◌, append_assoc, refl, sym, ap, ◌∙◌, arith}
use Rattle.rand_core.specs.Stream.{Stream, next_u64}
use Rattle.us_client_wire.specs.Requests.{request_encoding}
use Rattle.us_schedule.specs.declared.line.Line.{Line}
use Rattle.us_load.specs.Words.{word, behind, skip}
use Rattle.us_load.specs.Transactions.{loaded, performs, perform_of, frames, transaction, transactions, behind_transaction}

performs_turn : (n : ℕ) (s : Stream) → 0 < n → performs n s ≡ perform_of (word s) ∷ performs (n - 1) (behind s)
performs_turn zero s h = absurd (omega arith)
performs_turn (suc n) s h = let e : suc n - 1 ≡ n = omega arith in rw e refl

skip_turn : (n : ℕ) (s : Stream) → 0 < n → skip n s ≡ skip (n - 1) (behind s)
skip_turn zero s h = absurd (omega arith)
skip_turn (suc n) s h = let e : suc n - 1 ≡ n = omega arith in rw e refl

-- the words behind the next one
pub next_skipped : (n w : ℕ) (s t : Stream) → 0 < n → (w, t) ≡ next_u64 s → skip (n - 1) t ≡ skip n s
next_skipped n w s t h e =
    let rest : t ≡ behind s = λ i. (e i).1 in
    ap (skip (n - 1)) rest ∙ sym (skip_turn n s h)

-- the operation of the next word, and those of the words behind it
pub next_performed : (n w : ℕ) (s t : Stream) (bytes more : List ℕ) → 0 < n → (w, t) ≡ next_u64 s → more ≡ bytes ++ request_encoding loaded (perform_of w)
    → more ++ frames (performs (n - 1) t) ≡ bytes ++ frames (performs n s)
next_performed n w s t bytes more h e put =
    let first : w ≡ word s = λ i. (e i).0 in
    let rest : t ≡ behind s = λ i. (e i).1 in
    let turn = ap frames (performs_turn n s h) in
    (λ i. put i ++ frames (performs (n - 1) (rest i)))
    ∙ append_assoc bytes (request_encoding loaded (perform_of w)) (frames (performs (n - 1) (behind s)))
    ∙ (λ i. bytes ++ (request_encoding loaded (perform_of (first i)) ++ frames (performs (n - 1) (behind s))))
    ∙ ap (λ (frames : List ℕ). bytes ++ frames) (sym turn)

transactions_turn : (left more i j : ℕ) (s : Stream) → left ≡ more + 1 → j ≡ i + 1
    → transactions left i s ≡ transaction i s ++ transactions more j (behind_transaction s)
transactions_turn zero more i j s e f = absurd (omega arith)
transactions_turn (suc n) more i j s e f = let k : n ≡ more = omega arith in rw (k, f) refl

-- the next transaction, and those behind it
pub next_transaction : (left more i j : ℕ) (s t : Stream) (lines put : List Line) → left ≡ more + 1 → j ≡ i + 1 → t ≡ behind_transaction s
    → put ≡ lines ++ transaction i s → put ++ transactions more j t ≡ lines ++ transactions left i s
next_transaction left more i j s t lines put e f words is =
    (λ k. is k ++ transactions more j (words k))
    ∙ append_assoc lines (transaction i s) (transactions more j (behind_transaction s))
    ∙ ap (λ (all : List Line). lines ++ all) (sym (transactions_turn left more i j s e f))
