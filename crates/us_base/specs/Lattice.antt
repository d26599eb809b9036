-- Vectors of one length are a lattice.
use Rattle.std.specs.Prelude.{◌≡◌, ◌≢◌, ℕ, List, length}
use Rattle.us_base.specs.Vector.{entry, AtMost, join, meet, with_entry}

pub record IsLattice : Type 0 where
  pub itself : (v : List ℕ) → AtMost v v
  pub onward : (u v w : List ℕ) → AtMost u v → AtMost v w → AtMost u w
  pub same : (v w : List ℕ) → length v ≡ length w → AtMost v w → AtMost w v → v ≡ w
  -- a join is above both, and the least such vector
  pub join_left : (v w : List ℕ) → AtMost v (join v w)
  pub join_right : (v w : List ℕ) → AtMost w (join v w)
  pub join_least : (u v w : List ℕ) → AtMost u w → AtMost v w → AtMost (join u v) w
  -- a meet is below both, and the greatest such vector
  pub meet_left : (v w : List ℕ) → AtMost (meet v w) v
  pub meet_right : (v w : List ℕ) → AtMost (meet v w) w
  pub meet_greatest : (u v w : List ℕ) → AtMost u v → AtMost u w → AtMost u (meet v w)

-- one entry is changed and no other
pub record ChangesOneEntry : Type 0 where
  pub changed : (v : List ℕ) (i x : ℕ) → entry (with_entry v i x) i ≡ x
  pub others : (v : List ℕ) (i x j : ℕ) → i ≢ j → entry (with_entry v i x) j ≡ entry v j
