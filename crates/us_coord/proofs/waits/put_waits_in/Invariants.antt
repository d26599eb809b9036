use Rattle.std.proofs.Common.{◌≡◌, ◌++◌, drop}
use Rattle.us_model.specs.Coordinators.{waits_in}
use Rattle.us_coord.proofs.waits.put_waits_in.Given as goal

-- those so far and of what is left are all
abbrev pub invariant-loop-session : goal.invariant-loop-session
invariant-loop-session l = l.waits.items ++ waits_in l.me.site l.me.actor (drop l.session-index l.sessions) ≡ l.fn.waits.items
    ++ waits_in l.me.site l.me.actor l.sessions
