-- What was worked by hand, and what ties the definitions to the generator's and the wire's.
use Rattle.std.specs.Prelude.{◌≡◌, ℕ, List, [], ◌∷◌, ◌++◌, map, ℤ}
use Rattle.rand_core.specs.Stream.{next_u64}
use Rattle.rand_xoshiro.specs.Xoshiro256.{plus_plus}
use Rattle.us_value.specs.declared.operation.Kind.TheVariants.{Register, Counter, Set, Flag, Multi}
use Rattle.us_fields.specs.Fields.{op_code}
use Rattle.us_schedule.specs.declared.line.Line.TheVariants.{Open, Bytes, Flush}
use Rattle.us_load.specs.Words.{stream, seeded, word, behind}
use Rattle.us_load.specs.Operations.{operations}
use Rattle.us_load.specs.Transactions.{transaction}
use Rattle.us_load.specs.Load.{opens}

-- the words are those of xoshiro256++: one step of the state gives each
abbrev pub IsStep : Type 0
IsStep = (state : List ℕ) → next_u64 (stream state) ≡ ((plus_plus state).0, stream (plus_plus state).1)

-- the codes of a kind's operations, which don't depend on the value and the amount
abbrev pub HasCodes : Type 0
HasCodes = (value : List ℕ) (amount : ℤ) →
    (map op_code (operations Register value amount) ≡ 1 ∷ 2 ∷ [])
    × (map op_code (operations Counter value amount) ≡ 3 ∷ 4 ∷ [])
    × (map op_code (operations Set value amount) ≡ 5 ∷ 6 ∷ 7 ∷ 8 ∷ [])
    × (map op_code (operations Flag value amount) ≡ 9 ∷ 10 ∷ 11 ∷ [])
    × (map op_code (operations Multi value amount) ≡ 12 ∷ 13 ∷ [])

-- begin; read counter h; disable flag d; add -83 to counter h; commit-causal
abbrev pub first_frames : List ℕ
first_frames =
    0 ∷ 0 ∷ 0 ∷ 2 ∷ 1 ∷ 1 ∷ []
    ++ (0 ∷ 0 ∷ 0 ∷ 6 ∷ 1 ∷ 2 ∷ 2 ∷ 1 ∷ 104 ∷ 3 ∷ [])
    ++ (0 ∷ 0 ∷ 0 ∷ 6 ∷ 1 ∷ 2 ∷ 4 ∷ 1 ∷ 100 ∷ 11 ∷ [])
    ++ (0 ∷ 0 ∷ 0 ∷ 14 ∷ 1 ∷ 2 ∷ 2 ∷ 1 ∷ 104 ∷ 4 ∷ 255 ∷ 255 ∷ 255 ∷ 255 ∷ 255 ∷ 255 ∷ 255 ∷ 173 ∷ [])
    ++ (0 ∷ 0 ∷ 0 ∷ 2 ∷ 1 ∷ 3 ∷ [])

pub record WorkedLoads : Type 0 where
  pub step : IsStep
  pub codes_ascend : HasCodes
  pub opened : opens ≡ Open 1 1 ∷ Open 1 2 ∷ Open 1 3 ∷ Open 1 4 ∷ Open 2 1 ∷ Open 2 2 ∷ Open 2 3 ∷ Open 2 4 ∷ Open 3 1 ∷ Open 3 2 ∷ Open 3 3 ∷ Open 3 4 ∷ []
  pub first_word : word (seeded 7) ≡ 1021219803524665661
  pub second_word : word (behind (seeded 7)) ≡ 3174977118032272916
  pub first_transaction : transaction 1 (seeded 7) ≡ Bytes 2 2 1 first_frames ∷ Flush 2 2 ∷ []
