use Rattle.us_wire.proofs.Pieces as pieces
use Rattle.us_wire.proofs.laws.streams_have_frames.Goals as goal

pub returns : goal.returns
returns c = pieces.streams_have_frames
