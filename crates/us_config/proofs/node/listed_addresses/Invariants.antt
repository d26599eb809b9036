use Rattle.std.proofs.Common.{◌≡◌, []}
use Rattle.toml.specs.View.{array_view}
use Rattle.us_config.specs.Values.{gathered, each_by}
use Rattle.us_config.specs.Meaning.{address_for}
use Rattle.us_config.proofs.Lists.{left}
use Rattle.us_config.proofs.node.listed_addresses.Given as goal

abbrev pub invariant-loop-value : goal.invariant-loop-value
invariant-loop-value l = gathered (each_by l.key address_for) l.addresses (left l.value-items l.value-index) ≡ gathered (each_by l.key address_for) [] (array_view l.array)
