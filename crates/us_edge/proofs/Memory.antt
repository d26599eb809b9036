-- Reading from a source in memory.
use Rattle.std.proofs.Common.{◌≡◌, ℕ, ◌+◌, ◌≤◌, List, ◌++◌, length, take, drop, Option, Some, sym, ap, ◌∙◌, arith}
use Rattle.std.proofs.lemmas.List.{take_at, take-append-drop, drop-drop, length-take-le, length-drop}

abbrev pub told : List ℕ → Option (List ℕ)
told bytes = Some bytes

-- the front of the buffer holds the next bytes
pub reads_front : (left bytes held copied rest : List ℕ) (at n k : ℕ) → drop at bytes ≡ left → held ≡ bytes → k ≡ n → copied ≡ take k (drop at held) → n + at ≤ length bytes → told left ≡ told (take n (copied ++ rest) ++ drop (at + n) bytes)
reads_front left bytes held copied rest at n k is_left is_held is_k is_copied fits =
    let piece : copied ≡ take n (drop at bytes) = is_copied ∙ ap (λ (m : ℕ). take m (drop at held)) is_k ∙ ap (λ (xs : List ℕ). take n (drop at xs)) is_held in
    let len : length copied ≡ n = ap length piece ∙ length-take-le n (drop at bytes) (omega (arith, length-drop at bytes, fits)) in
    let front : take n (copied ++ rest) ≡ take n (drop at bytes) = take_at copied rest n len ∙ piece in
    ap told (sym is_left ∙ sym (take-append-drop n (drop at bytes)) ∙ ap (λ (xs : List ℕ). take n (drop at bytes) ++ xs) (drop-drop n at bytes) ∙ ap (λ (xs : List ℕ). xs ++ drop (at + n) bytes) (sym front))
