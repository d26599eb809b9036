-- A site as it is served: the machine's site, how many events it has taken, and whether it has stopped.
use Rattle.std.specs.Prelude.{ℕ, Bool}
use Rattle.us_model.specs.State.{Site}

pub record Served : Type 0 where
  pub site : Site
  pub taken : ℕ
  pub stopped : Bool
