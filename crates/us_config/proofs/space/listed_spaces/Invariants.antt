use Rattle.std.proofs.Common.{◌≡◌, []}
use Rattle.toml.specs.View.{array_view}
use Rattle.us_value.specs.Catalogs.{EachSpaceOnce}
use Rattle.us_config.specs.Assembly.{kinds_of}
use Rattle.us_config.specs.Values.{gathered}
use Rattle.us_config.specs.Spaces.{space_step}
use Rattle.us_config.proofs.Lists.{left}
use Rattle.us_config.proofs.space.listed_spaces.Given as goal

abbrev pub invariant-loop-value : goal.invariant-loop-value
invariant-loop-value l = record {
  said : gathered space_step l.spaces (left l.value-items l.value-index) ≡ gathered space_step [] (array_view l.array);
  once : EachSpaceOnce (kinds_of l.spaces);
}
