use Rattle.std.proofs.Common.{◌≡◌, ◌+◌, ◌-◌, ◌++◌}
use Rattle.us_config.specs.Meaning.{default_addresses}
use Rattle.us_config.proofs.node.local_addresses.Given as goal

abbrev pub invariant-loop-site : goal.invariant-loop-site
invariant-loop-site l = l.addresses ++ default_addresses (l.port + l.site) (l.sites - l.site) ≡ default_addresses l.port l.sites
