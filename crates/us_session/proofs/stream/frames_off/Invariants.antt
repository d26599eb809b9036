use Rattle.std.proofs.Common.{◌≡◌, ◌++◌, length}
use Rattle.us_wire.specs.Frames.{frames_of}
use Rattle.us_session.proofs.stream.frames_off.Given as goal

-- what came off and what is left are the frames of the stream as it was
abbrev pub invariant-frames : goal.invariant-frames
invariant-frames l = record {
  limit : l.stream.limit ≡ l.initial.stream.limit;
  whole : l.whole.items ++ (frames_of l.stream.limit l.stream.unread).whole ≡ (frames_of l.initial.stream.limit l.initial.stream.unread).whole;
  bad : (frames_of l.stream.limit l.stream.unread).bad ≡ (frames_of l.initial.stream.limit l.initial.stream.unread).bad;
  rest : (frames_of l.stream.limit l.stream.unread).rest ≡ (frames_of l.initial.stream.limit l.initial.stream.unread).rest;
}

abbrev pub decreases-frames : goal.decreases-frames
decreases-frames l = length l.stream.unread
