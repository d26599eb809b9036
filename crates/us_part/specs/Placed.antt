-- A partition and where it stands: the shape of its store, its own actor, and what it holds.
use Rattle.std.specs.Prelude.{ℕ, ◌<◌, ◌≤◌, List}
use Rattle.us_kind.specs.Comparison.{In}
use Rattle.us_base.specs.Vector.{entry}
use Rattle.us_base.specs.Shape.{IsShape}
use Rattle.us_base.specs.declared.shape.Shape.{Shape}
use Rattle.us_peer_wire.specs.declared.message.Actor.{Actor}
use Rattle.us_model.specs.declared.partition.PreparedTx.{PreparedTx}
use Rattle.us_model.specs.State.{Partition}

pub record Placed : Type 0 where
  pub shape : Shape
  pub me : Actor
  pub partition : Partition

-- a partition's actor in a store of this shape
pub record IsPlace (shape : Shape) (me : Actor) : Type 0 where
  pub store : IsShape shape
  pub site : me.site < 10
  pub some : 1 ≤ me.actor
  pub few : me.actor ≤ shape.parts

-- each timestamp that is prepared is positive, and the clock has reached it
abbrev pub AreClocked : ℕ → List PreparedTx → Type 0
AreClocked clock qs = (q : PreparedTx) → In q qs → (0 < q.ts) × (q.ts ≤ clock)

-- the vector's entry for the site is below each timestamp that is prepared
abbrev pub IsBelow : ℕ → List ℕ → List PreparedTx → Type 0
IsBelow site v qs = (q : PreparedTx) → In q qs → entry v site < q.ts
