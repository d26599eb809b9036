use Rattle.std.proofs.Common.{◌≡◌, ◌+◌, ◌≤◌, drop}
use Rattle.us_model.specs.Coordinators.{open_in}
use Rattle.us_coord.proofs.coordinator.open_count.Given as goal

-- those so far and those of what is left are all
abbrev pub invariant-loop-session : goal.invariant-loop-session
invariant-loop-session l = record {
  counted : l.open + open_in (drop l.session-index l.sessions) ≡ open_in l.sessions;
  few : l.open ≤ l.session-index;
}
