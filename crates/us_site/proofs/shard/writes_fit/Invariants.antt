use Rattle.std.proofs.Common.{◌≡◌, drop}
use Rattle.us_model.specs.Sites.{writes_fit}
use Rattle.us_site.proofs.shard.writes_fit.Given as goal

-- all fit where the rest do
abbrev pub invariant-loop-write : goal.invariant-loop-write
invariant-loop-write l = writes_fit l.catalog (drop l.write-index l.writes) ≡ writes_fit l.catalog l.writes
