use Rattle.std.proofs.Common.{◌≡◌, map}
use Rattle.std.specs.List.{range_with_len}
use Rattle.us_model.specs.Sites.{new_site}
use Rattle.us_world.specs.WorldState.{site_of}
use Rattle.us_world.proofs.run.new_sites.Given as goal

-- so many are made
abbrev pub invariant-loop-before : goal.invariant-loop-before
invariant-loop-before l = map site_of l.sites.items ≡ map (new_site l.settings) (range_with_len 1 l.before)
