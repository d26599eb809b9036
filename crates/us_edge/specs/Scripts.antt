-- Objects in memory: their calls are counted, and those that are to fail are listed.
use Rattle.std.specs.Prelude.{ℕ, ◌+◌, ◌-◌, ◌^◌, min, ◌==◌, Bool, List}
use Rattle.std.specs.List.{list_any}

-- one more, up to the end of the type
abbrev pub saturating_suc : ℕ → ℕ
saturating_suc n = min (n + 1) (2 ^ 64 - 1)

-- the next call after so many is one that is to fail; calls are numbered from 1
abbrev pub is_to_fail : List ℕ → ℕ → Bool
is_to_fail fails calls = list_any (λ n. n == saturating_suc calls) fails

-- a source in memory: the bytes left, how many it gives at a time, which calls fail, and how many calls and faults there were
pub record Source : Type 0 where
  pub left : List ℕ
  pub per_call : ℕ
  pub fails : List ℕ
  pub calls : ℕ
  pub faults : ℕ

-- a sink in memory: the bytes written, how many it takes at a time, which calls fail, and how many calls and faults there were
pub record Sink : Type 0 where
  pub written : List ℕ
  pub per_call : ℕ
  pub fails : List ℕ
  pub calls : ℕ
  pub faults : ℕ
