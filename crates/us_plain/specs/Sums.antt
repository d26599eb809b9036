-- What a counter's state is seen as.
use Rattle.std.specs.Prelude.{ℕ, ◌*◌, ◌^◌, ℤ, pos, ◌+ℤ◌, ◌≤ℤ◌}

-- a sum, and of how many amounts
pub record Sum : Type 0 where
  pub total : ℤ
  pub updates : ℕ

-- the sum of so many amounts of 64 bits
abbrev pub IsWithin : ℕ → ℤ → Type 0
IsWithin updates total = (pos 0 ≤ℤ (total +ℤ pos (updates * 2 ^ 63))) × (total ≤ℤ pos (updates * 2 ^ 63))
