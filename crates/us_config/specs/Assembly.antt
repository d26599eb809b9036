-- The catalogue and the conflicts that the spaces of a configuration make.
use Rattle.std.specs.Prelude.{ℕ, List, map}
use Rattle.std.specs.List.{flat_map}
use Rattle.us_base.specs.declared.shape.Shape.{Shape}
use Rattle.us_value.specs.declared.operation.Kind.{Kind}
use Rattle.us_value.specs.declared.operation.Class.{Class}
use Rattle.us_config.specs.declared.config.Config.{Config}
use Rattle.us_config.specs.declared.node.NodePlan.{NodePlan}
use Rattle.us_config.specs.declared.space.Space.{Space}

-- each space with its kind
abbrev pub kinds_of : List Space → List (ℕ × Kind)
kinds_of spaces = map (λ space. (space.number, space.kind)) spaces

-- the conflicts of one space
abbrev pub pairs_in : Space → List (ℕ × Class × Class)
pairs_in space = map (λ pair. (space.number, pair.0, pair.1)) space.conflicts

-- the conflicts of all spaces
abbrev pub pairs_of : List Space → List (ℕ × Class × Class)
pairs_of spaces = flat_map pairs_in spaces

abbrev pub assembled : Shape → List Space → NodePlan → Config
assembled shape spaces plan = record { shape = shape; catalog = kinds_of spaces; conflicts = pairs_of spaces; plan = plan }
