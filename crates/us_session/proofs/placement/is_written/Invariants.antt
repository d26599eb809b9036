use Rattle.std.proofs.Common.{◌≡◌, drop}
use Rattle.us_model.specs.Sessions.{is_written}
use Rattle.us_session.proofs.placement.is_written.Given as goal

-- some is so where one of the rest is
abbrev pub invariant-loop-write : goal.invariant-loop-write
invariant-loop-write l = is_written l.shape (drop l.write-index l.writes) l.part ≡ is_written l.shape l.writes l.part
