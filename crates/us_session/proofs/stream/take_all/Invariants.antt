use Rattle.std.proofs.Common.{◌≡◌, drop}
use Rattle.us_model.specs.Sessions.{take_frames}
use Rattle.us_session.proofs.Posts.{post}
use Rattle.us_session.proofs.stream.take_all.Given as goal

-- the rest of the frames go on from what is now, in one context
abbrev pub invariant-loop-frame : goal.invariant-loop-frame
invariant-loop-frame l = record {
  frames : take_frames l.catalog l.context l.session (drop l.frame-index l.frames) l.bad ≡ take_frames l.catalog l.fn.context l.fn.session l.frames l.bad;
  post : post l.context ≡ post l.fn.context;
}
