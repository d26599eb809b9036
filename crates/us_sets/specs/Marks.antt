-- What is kept of the updates that add a thing and of those that take it away: at each update's tag, how often it was
-- added less how often it was taken away. A thing is there where some count is above 0. A count of 0 is not kept, so
-- an addition that was taken away leaves nothing behind; one below 0 waits for an addition that has not arrived yet.
use Rattle.std.specs.Prelude.{◌==◌, ℤ, pos, negsuc, ◌+ℤ◌, int_lt, List, [], ◌∷◌, Bool, ◌&&◌, not}
use Rattle.std.specs.Coded.{Coded, coded_ℤ}
use Rattle.std.specs.FinMap as finite
use Rattle.std.specs.FinMap.{FinMap, entries}
use Rattle.std.specs.List.{list_any}
use Rattle.std.specs.Ordering.{int_eq}
use Rattle.us_kind.specs.Tags.{tag_cmp, tag_code}
use Rattle.us_kind.specs.Updates.{Update, Stamped}
use Rattle.us_kind.specs.Comparison.{tag_of}
use Rattle.us_kind.specs.declared.identity.Tag.{Tag}
use Rattle.us_kind.specs.Defaults.{changed, value_at}
use Rattle.us_kind.specs.Keys.{keys_where}

-- the count at each tag
abbrev pub Counts : Type 0
Counts = FinMap tag_cmp ℤ

-- counts as data
abbrev pub counts_code : Coded Counts
counts_code = finite.code tag_code coded_ℤ

-- nothing is counted
abbrev pub is_nothing : Counts → Bool
is_nothing m = finite.len m == 0

abbrev pub is_zero : ℤ → Bool
is_zero n = int_eq n (pos 0)

abbrev pub is_positive : ℤ → Bool
is_positive n = int_lt (pos 0) n

-- the count at a tag
abbrev pub count_at : Counts → Tag → ℤ
count_at m t = value_at (pos 0) m t

-- one more or one less at a tag
abbrev pub shifted : Counts → Tag → ℤ → Counts
shifted m t by = changed (pos 0) is_zero m t (λ n. n +ℤ by)

-- one less at each of these
abbrev pub taken : Counts → List Tag → Counts
taken m [] = m
taken m (t ∷ ts) = taken (shifted m t (negsuc 0)) ts

-- the tags of the additions that are there
abbrev pub live_tags : Counts → List Tag
live_tags m = keys_where is_positive (entries m)

-- whether some addition is there
abbrev pub is_live : Counts → Bool
is_live m = list_any (λ e. is_positive e.1) (entries m)

-- what an effect does: it adds, takes these away, or does nothing here
pub data Move : Type 0 where
  Put : Move
  Take : List Tag → Move
  Still : Move

-- the counts after an effect of the update with this tag
abbrev pub moved : Counts → Move → Tag → Counts
moved m Put t = shifted m t (pos 1)
moved m (Take ts) t = taken m ts
moved m Still t = m

-- the counts after the effects
abbrev pub marks_after : {O E : Type 0} → (E → Move) → Counts → List (Stamped O E) → Counts
marks_after move m [] = m
marks_after move m (u ∷ us) = marks_after move (moved m (move u.effect) (tag_of u.stamp)) us

-- THE DEFINITION: a thing is there where some update that adds it has no update that removes it after it
abbrev pub is_there : {O : Type 0} → (O → Bool) → (O → Bool) → List (Update O) → (Tag → Tag → Bool) → Bool
is_there adds removes us after = list_any (λ u. adds u.op && not (list_any (λ v. removes v.op && after v.tag u.tag) us)) us
