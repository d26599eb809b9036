use Rattle.std.proofs.Common.{◌≡◌, drop}
use Rattle.us_history.specs.States.{after_writes}
use Rattle.us_oplog.proofs.reading.apply_writes.Given as goal

-- the rest of the writes go on from the state so far
abbrev pub invariant-loop-write : goal.invariant-loop-write
invariant-loop-write l =
    after_writes l.item l.sum l.tid l.state (drop l.write-index l.writes) ≡ after_writes l.item l.sum l.tid l.fn.state l.writes
