-- What is found at places.
use Rattle.std.specs.Prelude.{◌≡◌, ℕ, ◌≤◌, List, [], ◌∷◌, map, Bool, true, false, not, ◌&&◌, if◌then◌else◌, nat_lt, max, Option, Some, None, slice_get}
use Rattle.us_kind.specs.Updates.{AllLater}
use Rattle.us_base.specs.Vector.{at_most}
use Rattle.us_exec.specs.declared.SessionName.{SessionName}
use Rattle.us_exec.specs.declared.Done.{Done}
use Rattle.us_exec.specs.declared.Count.{Count}
use Rattle.us_exec.specs.Past.{session_eq}
use Rattle.us_history.specs.Histories.{Begun, Performed, Committed, has_own_vector}
use Rattle.us_history.specs.Pasts.{is_step, sessions_of, counts_of}
use Rattle.us_history.specs.Histories.{AreNumbered}
use Rattle.us_snapshots.specs.Ascending.{SessionsAscend, IsNotInItsOwn}
use Rattle.us_extract.specs.declared.commits.Group.{Group}

-- the operation found, before these
abbrev pub done_before : Option Performed → List Done → List Done
done_before None ds = ds
done_before (Some p) ds = p.done ∷ ds

-- the operations at these places
abbrev pub done_at : List Performed → List ℕ → List Done
done_at ps [] = []
done_at ps (i ∷ is) = done_before (slice_get ps i) (done_at ps is)

-- the group of a transaction
abbrev pub group_of : Committed → Group
group_of c = record { session = c.begun.session; updates = has_own_vector c }

-- the keys are the groups of the transactions, which are numbered
pub record IsIndexed (cs : List Committed) (keys : List Group) : Type 0 where
  pub groups : keys ≡ map group_of cs
  pub numbers : AreNumbered cs

-- with a vector of its own, or not
abbrev pub updates_so : Bool → Committed → Bool
updates_so true c = has_own_vector c
updates_so false c = not (has_own_vector c)

-- of the session, and updating or not
abbrev pub is_in_group : SessionName → Bool → Committed → Bool
is_in_group s updates c = session_eq c.begun.session s && updates_so updates c

-- ---- the greatest number that passes a test

abbrev pub greatest : (Committed → Bool) → List Committed → ℕ
greatest test [] = 0
greatest test (c ∷ cs) = if test c then max c.number (greatest test cs) else greatest test cs

-- begun before this number
abbrev pub is_earlier : ℕ → Committed → Bool
is_earlier seq c = nat_lt c.begun.tid.seq seq

-- in the snapshot
abbrev pub is_shown : List ℕ → Committed → Bool
is_shown snapshot c = at_most c.vector snapshot

-- of the session, and earlier
abbrev pub is_earlier_of : SessionName → ℕ → Committed → Bool
is_earlier_of s seq c = session_eq c.begun.session s && is_earlier seq c

-- of the session, updating, and in the snapshot
abbrev pub is_shown_of : SessionName → List ℕ → Committed → Bool
is_shown_of s snapshot c = is_in_group s true c && is_shown snapshot c

-- leads to the transaction in one step, where no session goes on from another one
abbrev pub steps_to : Begun → Committed → Bool
steps_to t c = is_step [] c t

-- and so its past
abbrev pub unlinked_past : List Committed → Begun → List Count
unlinked_past cs t = counts_of (steps_to t) cs (sessions_of cs)

-- what leads to the transaction can be found by binary search
pub record IsSearchable (cs : List Committed) (t : Begun) : Type 0 where
  pub sessions : SessionsAscend cs
  pub others : IsNotInItsOwn cs t

-- ---- at places

-- the transactions at these places
abbrev pub found_at : List Committed → List ℕ → List (Option Committed)
found_at cs is = map (λ i. slice_get cs i) is

-- whether the transaction found passes
abbrev pub passes : (Committed → Bool) → Option Committed → Bool
passes test None = false
passes test (Some c) = test c

-- its number
abbrev pub number_of : Option Committed → ℕ
number_of None = 0
number_of (Some c) = c.number

-- the greatest of those that pass
abbrev pub greatest_found : (Committed → Bool) → List (Option Committed) → ℕ
greatest_found test [] = 0
greatest_found test (o ∷ os) = if passes test o then max (number_of o) (greatest_found test os) else greatest_found test os

-- where the later one passes so does the earlier one, whose number is not greater
pub record StandsFirst (test : Committed → Bool) (o p : Option Committed) : Type 0 where
  pub passing : passes test p ≡ true → passes test o ≡ true
  pub numbers : number_of o ≤ number_of p

-- those that pass come first, and their numbers ascend
abbrev pub PassFirst : (Committed → Bool) → List (Option Committed) → Type 0
PassFirst test os = AllLater (StandsFirst test) os
