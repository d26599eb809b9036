use Rattle.std.proofs.Common.{◌≡◌, ◌++◌, drop, map}
use Rattle.us_model.specs.Worlds.{waits_of}
use Rattle.us_world.specs.WorldState.{site_of}
use Rattle.us_world.proofs.run.waits_of.Given as goal

-- those so far and those of the sites that are left are all
abbrev pub invariant-loop-site : goal.invariant-loop-site
invariant-loop-site l = l.waits.items ++ waits_of (map site_of (drop l.site-index l.sites)) ≡ waits_of (map site_of l.sites)
