use Rattle.std.proofs.Common.{◌≡◌, ◌++◌, take, drop}
use Rattle.us_model.specs.Coordinators.{each_session}
use Rattle.us_coord.specs.Steps.{acts}
use Rattle.us_coord.specs.Table.{AreFound, Ascends, found_in}
use Rattle.us_session.proofs.Posts.{post}
use Rattle.us_coord.proofs.turn.each.Given as goal

-- the sessions that had their turn, and what the turns of the rest make, are what all turns make, in one context; each session is found
abbrev pub invariant-loop-i : goal.invariant-loop-i
invariant-loop-i l = record {
  post : post l.context ≡ post l.fn.context;
  context : (each_session (acts l.turn) l.context (drop l.i l.sessions)).context ≡ (each_session (acts l.turn) l.fn.context l.fn.sessions).context;
  sessions : take l.i l.sessions ++ (each_session (acts l.turn) l.context (drop l.i l.sessions)).sessions
      ≡ (each_session (acts l.turn) l.fn.context l.fn.sessions).sessions;
  ascend : Ascends 0 l.sessions;
  found : AreFound (found_in l.table) l.context.seq l.sessions;
}
