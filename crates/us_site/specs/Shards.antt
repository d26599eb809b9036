-- The actors of a site, each with its partition at its place.
use Rattle.std.specs.Prelude.{◌≡◌, ℕ, suc, List, [], ◌∷◌}
use Rattle.us_base.specs.declared.shape.Shape.{Shape}
use Rattle.us_peer_wire.specs.declared.message.Actor.{Actor}
use Rattle.us_model.specs.State.{Shard, Coordinator}
use Rattle.us_part.specs.Placed.{Placed}

-- a partition where it stands, and the coordinator of the same number
pub record Kept : Type 0 where
  pub part : Placed
  pub coordinator : Coordinator

-- the machine's actor
abbrev pub shard_of : Kept → Shard
shard_of k = record { partition = k.part.partition; coordinator = k.coordinator }

-- the same place with another of the machine's actors
abbrev pub with_shard : Kept → Shard → Kept
with_shard k s = record { part = record k.part { partition = s.partition }; coordinator = s.coordinator }

-- it stands at this actor, in a store of this shape
pub record IsAt (shape : Shape) (me : Actor) (k : Kept) : Type 0 where
  pub store : k.part.shape ≡ shape
  pub actor : k.part.me ≡ me

-- the actors stand at their site in order, from this number
abbrev pub AreAt : Shape → (site actor : ℕ) → List Kept → Type 0
AreAt shape site actor [] = Unit {0}
AreAt shape site actor (k ∷ ks) = IsAt shape (record { site = site; actor = actor }) k × AreAt shape site (suc actor) ks
