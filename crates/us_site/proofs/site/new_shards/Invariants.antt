use Rattle.std.proofs.Common.{◌≡◌, length, map}
use Rattle.us_model.specs.Sites.{new_shards}
use Rattle.us_site.specs.Shards.{shard_of, AreAt}
use Rattle.us_site.proofs.site.new_shards.Given as goal

-- so many are made, and stand in order
abbrev pub invariant-loop-before : goal.invariant-loop-before
invariant-loop-before l = record {
  shards : map shard_of l.shards.items ≡ new_shards l.before;
  count : length l.shards.items ≡ l.before;
  places : AreAt l.shape l.site 1 l.shards.items;
}
