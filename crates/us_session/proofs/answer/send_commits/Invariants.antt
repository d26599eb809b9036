use Rattle.std.proofs.Common.{◌≡◌, drop}
use Rattle.us_model.specs.Sessions.{with_packets, commits}
use Rattle.us_session.proofs.answer.send_commits.Given as goal

-- what was sent and what is left to be sent are all
abbrev pub invariant-loop-part : goal.invariant-loop-part
invariant-loop-part l = with_packets l.context (commits l.context l.tid l.vector (drop l.part-index l.parts))
    ≡ with_packets l.fn.context (commits l.fn.context l.tid l.vector l.parts)
