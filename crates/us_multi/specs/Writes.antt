-- What a multi-value register keeps: at the tag of each write its value, or that it was overwritten. That a write was
-- overwritten is kept for good: of two effects with one tag, each undone by a third, nothing else could be the same
-- in every order.
use Rattle.std.specs.Prelude.{ℕ, List, [], ◌∷◌, Option, Some, None, is_some, if◌then◌else◌}
use Rattle.std.specs.Coded.{Coded, coded_list, coded_ℕ, coded_option}
use Rattle.std.specs.FinMap as finite
use Rattle.std.specs.FinMap.{FinMap, get, insert, entries}
use Rattle.us_kind.specs.Keys.{keys_where}
use Rattle.us_kind.specs.Tags.{tag_cmp, tag_code}
use Rattle.us_kind.specs.Comparison.{bytes_less}
use Rattle.us_kind.specs.declared.identity.Tag.{Tag}

-- the value of each write, or none where it was overwritten
abbrev pub Writes : Type 0
Writes = FinMap tag_cmp (Option (List ℕ))

-- writes as data
abbrev pub writes_code : Coded Writes
writes_code = finite.code tag_code (coded_option (coded_list coded_ℕ))

-- the greater by bytes
abbrev pub greater : List ℕ → List ℕ → List ℕ
greater v w = if bytes_less v w then w else v

-- what is kept of a write that arrives: an overwritten one stays so, and of two with one tag the greater value stays
abbrev pub written : List ℕ → Option (Option (List ℕ)) → Option (List ℕ)
written v None = Some v
written v (Some None) = None
written v (Some (Some w)) = Some (greater v w)

-- the writes with a write at its tag
abbrev pub with_write : Writes → Tag → List ℕ → Writes
with_write m t v = insert m t (written v (get m t))

-- the writes with these overwritten
abbrev pub overwritten : Writes → List Tag → Writes
overwritten m [] = m
overwritten m (t ∷ ts) = overwritten (insert m t None) ts

-- the tags of the writes that are not overwritten
abbrev pub live_tags : Writes → List Tag
live_tags m = keys_where is_some (entries m)
