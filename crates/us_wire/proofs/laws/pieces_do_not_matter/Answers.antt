use Rattle.us_wire.proofs.Pieces as pieces
use Rattle.us_wire.proofs.laws.pieces_do_not_matter.Goals as goal

pub returns : goal.returns
returns c = pieces.pieces_do_not_matter
