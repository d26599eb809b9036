-- The multi-value register: its values are those of the writes with no write after them.
use Rattle.std.specs.Prelude.{ℕ, List, Bool, true, false, Option, Some, None, filter_map, if◌then◌else◌, ◌&&◌}
use Rattle.std.specs.FinMap.{empty, entries}
use Rattle.std.specs.List.{list_any}
use Rattle.us_kind.specs.Updates.{Update}
use Rattle.us_kind.specs.Comparison.{ascending, tag_of}
use Rattle.us_kind.specs.declared.identity.Stamp.{Stamp}
use Rattle.us_kind.specs.declared.identity.Tag.{Tag}
use Rattle.us_multi.specs.Writes.{Writes, with_write, overwritten, live_tags}
use Rattle.us_multi.specs.declared.multi.MultiOp.{MultiOp}
use Rattle.us_multi.specs.declared.multi.MultiOp.TheVariants.{MultiRead, MultiWrite}
use Rattle.us_multi.specs.declared.multi.MultiEffect.{MultiEffect}
use Rattle.us_multi.specs.declared.multi.MultiEffect.TheVariants.{MultiWrite as Written}
use Rattle.us_multi.specs.declared.multi.MultiAnswer.{MultiAnswer}
use Rattle.us_multi.specs.declared.multi.MultiAnswer.TheVariants.{Done, Values}

-- nothing is written
abbrev pub multi_initial : Writes
multi_initial = empty

-- the state after a write: it overwrites those that it met
abbrev pub multi_updated : Writes → MultiEffect → Stamp → Writes
multi_updated m (Written v ts) stamp = with_write (overwritten m ts) (tag_of stamp) v

-- what an operation answers at a state
abbrev pub multi_answered : MultiOp → Writes → MultiAnswer
multi_answered MultiRead m = Values (ascending (filter_map (λ e. e.1) (entries m)))
multi_answered (MultiWrite v) m = Done

-- the effect of an operation at a state, where it writes
abbrev pub multi_prepared : Tag → MultiOp → Writes → Option MultiEffect
multi_prepared tag MultiRead m = None
multi_prepared tag (MultiWrite v) m = Some (Written v (live_tags m))

-- whether an operation only reads
abbrev pub multi_reads : MultiOp → Bool
multi_reads MultiRead = true
multi_reads (MultiWrite v) = false

abbrev pub writes : MultiOp → Bool
writes MultiRead = false
writes (MultiWrite v) = true

-- the value that an operation writes, if it writes
abbrev pub value_of : MultiOp → Option (List ℕ)
value_of MultiRead = None
value_of (MultiWrite v) = Some v

-- some write is after the update
abbrev pub is_overwritten : List (Update MultiOp) → (Tag → Tag → Bool) → Update MultiOp → Bool
is_overwritten us after u = list_any (λ v. writes v.op && after v.tag u.tag) us

-- the definition: what an operation answers over the updates
abbrev pub multi_value : MultiOp → List (Update MultiOp) → (Tag → Tag → Bool) → MultiAnswer
multi_value MultiRead us after = Values (ascending (filter_map (λ u. if is_overwritten us after u then None else value_of u.op) us))
multi_value (MultiWrite v) us after = Done
