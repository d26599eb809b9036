-- The entries of a vector, put in one by one.
use Rattle.std.proofs.Common.{◌≡◌, ℕ, zero as nought, suc, ◌+◌, ◌-◌, ◌<◌, ◌≤◌, List, map, refl, ap, arith}
use Rattle.std.specs.List.{range_with_len}
use Rattle.us_base.specs.Vector.{with_entry, zero}

-- n entries from i on
abbrev pub put_from : (ℕ → ℕ) → List ℕ → ℕ → ℕ → List ℕ
put_from e v i nought = v
put_from e v i (suc n) = put_from e (with_entry v i (e i)) (i + 1) n

-- all ten, put into zeros, are the vector of these entries
pub put_all : (e : ℕ → ℕ) → put_from e zero 0 10 ≡ map e (range_with_len 0 10)
unfolding with_entry
put_all e = refl

-- one entry is put, and one fewer is left
pub put_step : (e : ℕ → ℕ) (v : List ℕ) (i : ℕ) → i < 10 → put_from e (with_entry v i (e i)) (i + 1) (10 - (i + 1)) ≡ put_from e v i (10 - i)
put_step e v i h = let left : suc (10 - (i + 1)) ≡ 10 - i = omega arith in ap (put_from e v i) left

-- none is left
pub put_done : (e : ℕ → ℕ) (v : List ℕ) (i : ℕ) → 10 ≤ i → put_from e v i (10 - i) ≡ v
put_done e v i h = let left : 10 - i ≡ 0 = omega arith in ap (put_from e v i) left
