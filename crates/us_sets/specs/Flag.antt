-- The flag: it is on where some enabling has no disabling after it.
use Rattle.std.specs.Prelude.{List, Bool, true, false, Option, Some, None}
use Rattle.std.specs.FinMap.{empty}
use Rattle.us_kind.specs.Updates.{Update}
use Rattle.us_kind.specs.Comparison.{tag_of}
use Rattle.us_kind.specs.declared.identity.Stamp.{Stamp}
use Rattle.us_kind.specs.declared.identity.Tag.{Tag}
use Rattle.us_sets.specs.Marks.{Counts, Move, Put, Take, moved, is_live, live_tags, is_there}
use Rattle.us_sets.specs.declared.flag.FlagOp.{FlagOp}
use Rattle.us_sets.specs.declared.flag.FlagOp.TheVariants.{FlagRead, FlagEnable, FlagDisable}
use Rattle.us_sets.specs.declared.flag.FlagEffect.{FlagEffect}
use Rattle.us_sets.specs.declared.flag.FlagEffect.TheVariants.{Enable, Disable}
use Rattle.us_sets.specs.declared.flag.FlagAnswer.{FlagAnswer}
use Rattle.us_sets.specs.declared.flag.FlagAnswer.TheVariants.{Done, Bit}

-- no enabling
abbrev pub flag_initial : Counts
flag_initial = empty

-- an enabling adds its tag; a disabling takes away those that it met
abbrev pub flag_move : FlagEffect → Move
flag_move Enable = Put
flag_move (Disable tags) = Take tags

-- the state after an effect
abbrev pub flag_updated : Counts → FlagEffect → Stamp → Counts
flag_updated m e stamp = moved m (flag_move e) (tag_of stamp)

-- what an operation answers at a state
abbrev pub flag_answered : FlagOp → Counts → FlagAnswer
flag_answered FlagRead m = Bit (is_live m)
flag_answered FlagEnable m = Done
flag_answered FlagDisable m = Done

-- the effect of an operation at a state, where it is an update
abbrev pub flag_prepared : Tag → FlagOp → Counts → Option FlagEffect
flag_prepared tag FlagRead m = None
flag_prepared tag FlagEnable m = Some Enable
flag_prepared tag FlagDisable m = Some (Disable (live_tags m))

-- whether an operation only reads
abbrev pub flag_reads : FlagOp → Bool
flag_reads FlagRead = true
flag_reads FlagEnable = false
flag_reads FlagDisable = false

abbrev pub enables : FlagOp → Bool
enables FlagRead = false
enables FlagEnable = true
enables FlagDisable = false

abbrev pub disables : FlagOp → Bool
disables FlagRead = false
disables FlagEnable = false
disables FlagDisable = true

-- the definition: what an operation answers over the updates
abbrev pub flag_value : FlagOp → List (Update FlagOp) → (Tag → Tag → Bool) → FlagAnswer
flag_value FlagRead us after = Bit (is_there enables disables us after)
flag_value FlagEnable us after = Done
flag_value FlagDisable us after = Done
