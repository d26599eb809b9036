-- The counter.
use Rattle.std.specs.Prelude.{◌+◌, ℤ, pos, ◌+ℤ◌, List, [], ◌∷◌, Bool, true, false, Option, Some, None}
use Rattle.us_kind.specs.Updates.{Update}
use Rattle.us_kind.specs.declared.identity.Stamp.{Stamp}
use Rattle.us_kind.specs.declared.identity.Tag.{Tag}
use Rattle.us_plain.specs.Sums.{Sum}
use Rattle.us_plain.specs.declared.counter.CounterOp.{CounterOp}
use Rattle.us_plain.specs.declared.counter.CounterOp.TheVariants.{CounterRead, CounterAdd}
use Rattle.us_plain.specs.declared.counter.CounterEffect.{CounterEffect}
use Rattle.us_plain.specs.declared.counter.CounterEffect.TheVariants.{CounterAdd as Added}
use Rattle.us_plain.specs.declared.counter.CounterAnswer.{CounterAnswer}
use Rattle.us_plain.specs.declared.counter.CounterAnswer.TheVariants.{Done, Number}

-- nothing is added
abbrev pub counter_initial : Sum
counter_initial = record { total = pos 0; updates = 0 }

-- the state after an addition
abbrev pub counter_updated : Sum → CounterEffect → Stamp → Sum
counter_updated s (Added amount) stamp = record { total = s.total +ℤ amount; updates = s.updates + 1 }

-- what an operation answers at a state
abbrev pub counter_answered : CounterOp → Sum → CounterAnswer
counter_answered CounterRead s = Number s.total
counter_answered (CounterAdd amount) s = Done

-- the effect of an operation, where it adds
abbrev pub counter_prepared : Tag → CounterOp → Sum → Option CounterEffect
counter_prepared tag CounterRead s = None
counter_prepared tag (CounterAdd amount) s = Some (Added amount)

-- whether an operation only reads
abbrev pub counter_reads : CounterOp → Bool
counter_reads CounterRead = true
counter_reads (CounterAdd amount) = false

-- the amount that an operation adds
abbrev pub amount_of : CounterOp → ℤ
amount_of CounterRead = pos 0
amount_of (CounterAdd amount) = amount

-- the sum of all amounts
abbrev pub sum_of : List (Update CounterOp) → ℤ
sum_of [] = pos 0
sum_of (u ∷ us) = amount_of u.op +ℤ sum_of us

-- the definition: what an operation answers over the updates
abbrev pub counter_value : CounterOp → List (Update CounterOp) → (Tag → Tag → Bool) → CounterAnswer
counter_value CounterRead us after = Number (sum_of us)
counter_value (CounterAdd amount) us after = Done
