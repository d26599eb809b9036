use Rattle.std.proofs.Common.{◌≡◌, drop}
use Rattle.us_model.specs.Sessions.{with_packets, prepares}
use Rattle.us_session.proofs.session.send_prepares.Given as goal

-- what was sent and what is left to be sent are all, in a store of the same shape
abbrev pub invariant-loop-part : goal.invariant-loop-part
invariant-loop-part l = record {
  sent : with_packets l.context (prepares l.context l.transaction (drop l.part-index l.parts))
      ≡ with_packets l.fn.context (prepares l.fn.context l.transaction l.parts);
  shape : l.context.shape ≡ l.fn.context.shape;
}
