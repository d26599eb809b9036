-- Real links, of which the plan and the count of faults are told.
use Rattle.std.specs.Prelude.{ℕ, Option}
use Rattle.us_edge.specs.declared.links.Plan.{Plan}

-- the plan with which they were started, and how many of their calls failed
pub record TcpLinks : Type 0 where
  pub planned : Option Plan
  pub faults : ℕ
