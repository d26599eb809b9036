-- Links that never fail.
use Rattle.std.specs.Prelude.{List, Option}
use Rattle.us_edge.specs.declared.links.LinkInput.{LinkInput}
use Rattle.us_edge.specs.declared.links.Plan.{Plan}

-- the inputs still to come, and the plan with which they were started
pub record SureLinks : Type 0 where
  pub coming : List LinkInput
  pub planned : Option Plan
