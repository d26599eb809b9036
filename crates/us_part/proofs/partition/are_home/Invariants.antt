use Rattle.std.proofs.Common.{◌≡◌, drop}
use Rattle.us_model.specs.Partitions.{are_home}
use Rattle.us_part.proofs.partition.are_home.Given as goal

-- all are here where the rest are
abbrev pub invariant-loop-write : goal.invariant-loop-write
invariant-loop-write l = are_home l.shape.parts l.me (drop l.write-index l.writes) ≡ are_home l.shape.parts l.me l.writes
