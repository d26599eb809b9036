use Rattle.std.proofs.Common.{◌≡◌, filter}
use Rattle.std.specs.List.{range_with_len}
use Rattle.us_model.specs.Sessions.{is_written}
use Rattle.us_session.proofs.placement.partitions_written.Given as goal

-- those of the first partitions
abbrev pub invariant-loop-before : goal.invariant-loop-before
invariant-loop-before l = l.parts ≡ filter (λ p. is_written l.shape l.writes p) (range_with_len 1 l.before)
