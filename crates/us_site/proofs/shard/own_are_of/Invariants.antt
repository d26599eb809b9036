use Rattle.std.proofs.Common.{◌≡◌, drop}
use Rattle.us_model.specs.Sites.{own_are_of}
use Rattle.us_site.proofs.shard.own_are_of.Given as goal

-- all are so where the rest are
abbrev pub invariant-loop-effect : goal.invariant-loop-effect
invariant-loop-effect l = own_are_of l.kind (drop l.effect-index l.own) ≡ own_are_of l.kind l.own
