-- Counts of faults.
use Rattle.std.specs.Prelude.{ℕ, ◌-◌, ◌^◌, ◌<◌, ◌≢◌}

-- a count of faults that rose; only at the end of its type it may stand still
abbrev pub Rose : ℕ → ℕ → Type 0
Rose before now = before ≢ 2 ^ 64 - 1 → before < now
