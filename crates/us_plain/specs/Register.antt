-- The register.
use Rattle.std.specs.Prelude.{ℕ, List, Bool, true, false, Option, Some, None, if◌then◌else◌, filter_map}
use Rattle.us_kind.specs.Comparison.{bytes_less, last_of, stamp_lex}
use Rattle.us_kind.specs.Updates.{Update}
use Rattle.us_kind.specs.declared.identity.Stamp.{Stamp}
use Rattle.us_kind.specs.declared.identity.Tag.{Tag}
use Rattle.us_plain.specs.declared.register.StampedValue.{StampedValue}
use Rattle.us_plain.specs.declared.register.RegisterState.{RegisterState}
use Rattle.us_plain.specs.declared.register.RegisterOp.{RegisterOp}
use Rattle.us_plain.specs.declared.register.RegisterOp.TheVariants.{RegisterRead, RegisterWrite}
use Rattle.us_plain.specs.declared.register.RegisterEffect.{RegisterEffect}
use Rattle.us_plain.specs.declared.register.RegisterEffect.TheVariants.{RegisterWrite as Written}
use Rattle.us_plain.specs.declared.register.RegisterAnswer.{RegisterAnswer}
use Rattle.us_plain.specs.declared.register.RegisterAnswer.TheVariants.{Done, Nothing, Value}

-- the first is the earlier write: by stamp, and of equal stamps by the bytes of the value
abbrev pub kept_less : StampedValue → StampedValue → Bool
kept_less a b = stamp_lex a.stamp b.stamp (bytes_less a.value b.value)

-- the later of what was kept and a write
abbrev pub keep_later : Option StampedValue → StampedValue → Option StampedValue
keep_later None new = Some new
keep_later (Some old) new = if kept_less old new then Some new else Some old

-- nothing is written
abbrev pub register_initial : RegisterState
register_initial = record { kept = None }

-- the state after a write
abbrev pub register_updated : RegisterState → RegisterEffect → Stamp → RegisterState
register_updated s (Written value) stamp = record { kept = keep_later s.kept (record { stamp = stamp; value = value }) }

-- what a read answers
abbrev pub kept_answer : Option StampedValue → RegisterAnswer
kept_answer None = Nothing
kept_answer (Some kept) = Value kept.value

-- what an operation answers at a state
abbrev pub register_answered : RegisterOp → RegisterState → RegisterAnswer
register_answered RegisterRead s = kept_answer s.kept
register_answered (RegisterWrite value) s = Done

-- the effect of an operation, where it writes
abbrev pub register_prepared : Tag → RegisterOp → RegisterState → Option RegisterEffect
register_prepared tag RegisterRead s = None
register_prepared tag (RegisterWrite value) s = Some (Written value)

-- whether an operation only reads
abbrev pub register_reads : RegisterOp → Bool
register_reads RegisterRead = true
register_reads (RegisterWrite value) = false

-- the value that an operation writes, if it writes
abbrev pub written : RegisterOp → Option (List ℕ)
written RegisterRead = None
written (RegisterWrite value) = Some value

-- a value, or that there is none
abbrev pub value_or_nothing : Option (List ℕ) → RegisterAnswer
value_or_nothing None = Nothing
value_or_nothing (Some value) = Value value

-- the definition: what an operation answers over the updates, in arbitration order
abbrev pub register_value : RegisterOp → List (Update RegisterOp) → (Tag → Tag → Bool) → RegisterAnswer
register_value RegisterRead us after = value_or_nothing (last_of (filter_map (λ u. written u.op) us))
register_value (RegisterWrite value) us after = Done
