use Rattle.std.proofs.Common.{◌≡◌, length}
use Rattle.us_model.specs.Sessions.{run_session}
use Rattle.us_session.proofs.Posts.{post}
use Rattle.us_session.proofs.running.run.Given as goal

-- the run of what is now is the run of the beginning, in one context
abbrev pub invariant-requests : goal.invariant-requests
invariant-requests l = record {
  run : run_session l.catalog l.context l.session ≡ run_session l.catalog l.initial.context l.initial.session;
  post : post l.context ≡ post l.initial.context;
}

abbrev pub decreases-requests : goal.decreases-requests
decreases-requests l = length l.session.requests
