-- The set: an element is in it where some addition of it has no removal of it after it.
use Rattle.std.specs.Prelude.{ℕ, List, Bool, true, false, Option, Some, None, filter, filter_map}
use Rattle.std.specs.FinMap.{empty, entries}
use Rattle.us_kind.specs.Updates.{Update}
use Rattle.us_kind.specs.Comparison.{bytes_eq, ascending, tag_of}
use Rattle.us_kind.specs.declared.identity.Stamp.{Stamp}
use Rattle.us_kind.specs.declared.identity.Tag.{Tag}
use Rattle.us_kind.specs.Defaults.{changed, value_at}
use Rattle.us_kind.specs.Keys.{keys_where}
use Rattle.us_sets.specs.Marks.{Counts, Move, Put, Take, is_nothing, moved, is_live, live_tags, is_there}
use Rattle.us_sets.specs.declared.set.SetOp.{SetOp}
use Rattle.us_sets.specs.declared.set.SetOp.TheVariants.{SetMembers, SetContains, SetAdd, SetRemove}
use Rattle.us_sets.specs.declared.set.SetEffect.{SetEffect}
use Rattle.us_sets.specs.declared.set.SetEffect.TheVariants.{SetAdd as Added, SetRemove as Removed}
use Rattle.us_sets.specs.declared.set.SetAnswer.{SetAnswer}
use Rattle.us_sets.specs.declared.set.SetAnswer.TheVariants.{Done, Values, Bit}
use Rattle.us_sets.specs.Elements.{Elements}

-- the marks of an element
abbrev pub marks_of : Elements → List ℕ → Counts
marks_of s x = value_at empty s x

-- no element
abbrev pub set_initial : Elements
set_initial = empty

-- the element that an effect is about
abbrev pub element_of : SetEffect → List ℕ
element_of (Added x) = x
element_of (Removed x tags) = x

-- an addition adds its tag; a removal takes away those that it met
abbrev pub move_of : SetEffect → Move
move_of (Added x) = Put
move_of (Removed x tags) = Take tags

-- the state after an effect: the marks of its element are moved, and no element without marks is kept
abbrev pub set_updated : Elements → SetEffect → Stamp → Elements
set_updated s e stamp = changed empty is_nothing s (element_of e) (λ m. moved m (move_of e) (tag_of stamp))

-- what an operation answers at a state
abbrev pub set_answered : SetOp → Elements → SetAnswer
set_answered SetMembers s = Values (keys_where is_live (entries s))
set_answered (SetContains x) s = Bit (is_live (marks_of s x))
set_answered (SetAdd x) s = Done
set_answered (SetRemove x) s = Done

-- the effect of an operation at a state, where it is an update
abbrev pub set_prepared : Tag → SetOp → Elements → Option SetEffect
set_prepared tag SetMembers s = None
set_prepared tag (SetContains x) s = None
set_prepared tag (SetAdd x) s = Some (Added x)
set_prepared tag (SetRemove x) s = Some (Removed x (live_tags (marks_of s x)))

-- whether an operation only reads
abbrev pub set_reads : SetOp → Bool
set_reads SetMembers = true
set_reads (SetContains x) = true
set_reads (SetAdd x) = false
set_reads (SetRemove x) = false

-- whether an operation adds the element
abbrev pub adds : List ℕ → SetOp → Bool
adds x SetMembers = false
adds x (SetContains y) = false
adds x (SetAdd y) = bytes_eq x y
adds x (SetRemove y) = false

-- whether an operation removes the element
abbrev pub removes : List ℕ → SetOp → Bool
removes x SetMembers = false
removes x (SetContains y) = false
removes x (SetAdd y) = false
removes x (SetRemove y) = bytes_eq x y

-- the element that an operation adds
abbrev pub added : SetOp → Option (List ℕ)
added SetMembers = None
added (SetContains x) = None
added (SetAdd x) = Some x
added (SetRemove x) = None

-- an element is in the set where some addition of it has no removal of it after it
abbrev pub is_member : List (Update SetOp) → (Tag → Tag → Bool) → List ℕ → Bool
is_member us after x = is_there (adds x) (removes x) us after

-- the definition: what an operation answers over the updates
abbrev pub set_value : SetOp → List (Update SetOp) → (Tag → Tag → Bool) → SetAnswer
set_value SetMembers us after = Values (ascending (filter (is_member us after) (filter_map (λ u. added u.op) us)))
set_value (SetContains x) us after = Bit (is_member us after x)
set_value (SetAdd x) us after = Done
set_value (SetRemove x) us after = Done
