use Rattle.std.proofs.Common.{◌≡◌, ◌+◌, ◌++◌, drop, map}
use Rattle.us_model.specs.Worlds.{waits_at}
use Rattle.us_site.specs.Shards.{shard_of}
use Rattle.us_site.proofs.site.put_waits_at.Given as goal

-- those so far and those of the actors that are left are all
abbrev pub invariant-loop-place : goal.invariant-loop-place
invariant-loop-place l =
    l.waits.items ++ waits_at l.site (l.place + 1) (map shard_of (drop l.place l.shards))
    ≡ l.fn.waits.items ++ waits_at l.site 1 (map shard_of l.shards)
