-- The words that a load is made of.
use Rattle.std.specs.Prelude.{ℕ, zero, suc, List}
use Rattle.rand_core.specs.Stream.{Stream, next_u64}
use Rattle.rand_core.specs.Steps.{stream_of, steps_u64_high}
use Rattle.rand_xoshiro.specs.SplitMix64.{splitmix_seed}
use Rattle.rand_xoshiro.specs.Xoshiro256.{of_seed, plus_plus}

-- what a xoshiro256++ generator in this state answers from now on
abbrev pub stream : List ℕ → Stream
stream state = stream_of (steps_u64_high plus_plus) state

-- the generator that `seed_from_u64` makes of a number
abbrev pub seeded : ℕ → Stream
seeded number = stream (of_seed (splitmix_seed 32 number))

-- the next word, all 64 bits of it
abbrev pub word : Stream → ℕ
word s = (next_u64 s).0

-- the words behind it
abbrev pub behind : Stream → Stream
behind s = (next_u64 s).1

-- the words behind the next n
abbrev pub skip : ℕ → Stream → Stream
skip zero s = s
skip (suc n) s = skip n (behind s)
