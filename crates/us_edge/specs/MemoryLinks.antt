-- Links in memory.
use Rattle.std.specs.Prelude.{◌≡◌, ℕ, ◌≤◌, ◌⊎◌, IsTrue, List, [], ◌∷◌, ◌++◌, All, Option, None, Some, length}
use Rattle.us_edge.specs.Links.{Connections, AreDropsOfOpened, HasPiece}
use Rattle.us_edge.specs.Scripts.{is_to_fail}
use Rattle.us_edge.specs.declared.links.LinkInput.{LinkInput}
use Rattle.us_edge.specs.declared.links.LinkInput.TheVariants.{Nothing}
use Rattle.us_edge.specs.declared.links.Offer.{Offer}
use Rattle.us_edge.specs.declared.links.Outcome.{Outcome}
use Rattle.us_edge.specs.declared.links.Plan.{Plan}

-- what was offered, and how the polls and the sends ended
pub record Recording : Type 0 where
  pub offers : List Offer
  pub outcomes : List Outcome

-- links in memory: the inputs to come, the plan, what they keep, which calls fail, and how many calls and faults there were
pub record MemoryLinks : Type 0 where
  pub coming : List LinkInput
  pub planned : Option Plan
  pub kept : Option Recording
  pub connections : Connections
  pub fails : List ℕ
  pub calls : ℕ
  pub faults : ℕ

-- what was offered, where it is kept
abbrev pub offers_of : Option Recording → Option (List Offer)
offers_of None = None
offers_of (Some kept) = Some kept.offers

-- how the polls and the sends ended, where it is kept
abbrev pub outcomes_of : Option Recording → Option (List Outcome)
outcomes_of None = None
outcomes_of (Some kept) = Some kept.outcomes

-- what is kept with one more outcome
abbrev pub with_outcome : Option Recording → Outcome → Option Recording
with_outcome None outcome = None
with_outcome (Some kept) outcome = Some (record { offers = kept.offers; outcomes = kept.outcomes ++ outcome ∷ [] })

-- what is kept with one more send
abbrev pub with_send : Option Recording → Offer → Outcome → Option Recording
with_send None offer outcome = None
with_send (Some kept) offer outcome = Some (record { offers = kept.offers ++ offer ∷ []; outcomes = kept.outcomes ++ outcome ∷ [] })

-- a send that failed as it was told is kept; one that found no memory leaves nothing that is kept
abbrev pub RecordsFailed : MemoryLinks → MemoryLinks → Offer → Outcome → Type 0
RecordsFailed before after offer outcome = (IsTrue (is_to_fail before.fails before.calls)
    × (after.kept ≡ with_send before.kept offer outcome)) ⊎ (after.kept ≡ None)

-- the next input; after the last there is nothing
abbrev pub next_of : List LinkInput → LinkInput
next_of [] = Nothing
next_of (next ∷ others) = next

-- what holds of links in memory: inputs come in pieces, there is room for each drop, and only what is open was dropped
pub record IsInOrder (coming : List LinkInput) (connections : Connections) (room : ℕ) : Type 0 where
  pub pieces : All HasPiece coming
  pub enough : length connections.opened ≤ room
  pub drops : AreDropsOfOpened (Some connections)
