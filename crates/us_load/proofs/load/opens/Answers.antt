use Rattle.std.proofs.Common.{arith}
use Rattle.std.proofs.lemmas.List.FromFn.{map-range_with_len_more}
use Rattle.us_load.specs.Load.{open_line}
use Rattle.us_load.proofs.load.opens.Goals as goal

pub loop-session-preserved : goal.loop-session-preserved
loop-session-preserved c =
    let more = map-range_with_len_more open_line 0 c.loop-session.session c.loop-session.session (omega arith) in
    cc (more, c.in_ok-push.ensures.ok, c.loop-session.invariant, c.site_of.ensures, c.coord_of.ensures)
