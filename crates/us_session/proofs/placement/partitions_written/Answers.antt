use Rattle.std.proofs.Common.{rules}
use Rattle.us_model.specs.Sessions.{is_written}
use Rattle.us_session.proofs.Written.{filter_more}
use Rattle.us_session.proofs.placement.partitions_written.Goals as goal

pub loop-before-preserved : goal.loop-before-preserved
loop-before-preserved c =
    let more = filter_more (λ p. is_written c.args.shape c.args.writes.now p) 1 c.loop-before.before in
    search rules
