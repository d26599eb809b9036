use Rattle.std.proofs.Common.{◌≡◌, ◌+◌, ◌<◌, drop, map}
use Rattle.us_model.specs.Sites.{open_at}
use Rattle.us_site.specs.Shards.{shard_of}
use Rattle.us_site.proofs.site.is_full.Given as goal

-- those so far, which are few, and those of the actors that are left are all
abbrev pub invariant-loop-shard : goal.invariant-loop-shard
invariant-loop-shard l = record {
  counted : l.open + open_at (map shard_of (drop l.shard-index l.shards)) ≡ open_at (map shard_of l.shards);
  few : l.open < 4096;
}
