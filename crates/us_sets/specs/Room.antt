-- Room for the counts that a removal lowers, so that the removal itself can't fail.
use Rattle.std.specs.Prelude.{◌≡◌, ◌^◌, ◌-◌, ℤ, pos, negsuc, ◌+ℤ◌, ◌≤ℤ◌, List, [], ◌∷◌, true, false, filter, not, if◌then◌else◌}
use Rattle.std.specs.FinMap.{contains_key, insert, remove}
use Rattle.us_kind.specs.Comparison.{In}
use Rattle.us_kind.specs.declared.identity.Tag.{Tag}
use Rattle.us_sets.specs.Marks.{Counts, count_at, is_zero}

-- those of the tags at which no count is kept
abbrev pub missing : Counts → List Tag → List Tag
missing m ts = filter (λ t. not (contains_key m t)) ts

-- at none of the tags is a count kept
abbrev pub AreMissing : Counts → List Tag → Type 0
AreMissing m ts = (t : Tag) → In t ts → contains_key m t ≡ false

-- at each of the tags a count is kept
abbrev pub AreKept : Counts → List Tag → Type 0
AreKept m ts = (t : Tag) → In t ts → contains_key m t ≡ true

-- far above the least number of 64 bits
abbrev pub IsHigh : ℤ → Type 0
IsHigh n = negsuc (2 ^ 62 - 1) ≤ℤ n

abbrev pub AreHigh : Counts → List Tag → Type 0
AreHigh m ts = (t : Tag) → In t ts → IsHigh (count_at m t)

-- the counts without those at these tags
abbrev pub forgotten : Counts → List Tag → Counts
forgotten m [] = m
forgotten m (t ∷ ts) = forgotten (remove m t) ts

-- with a count of 0 kept at each of these tags
abbrev pub opened : Counts → List Tag → Counts
opened m [] = m
opened m (t ∷ ts) = opened (insert m t (pos 0)) ts

-- one less at each of these, where a 0 is kept
abbrev pub lowered : Counts → List Tag → Counts
lowered m [] = m
lowered m (t ∷ ts) = lowered (insert m t (count_at m t +ℤ negsuc 0)) ts

-- with no 0 kept at these
abbrev pub swept : Counts → List Tag → Counts
swept m [] = m
swept m (t ∷ ts) = swept (if is_zero (count_at m t) then remove m t else m) ts
