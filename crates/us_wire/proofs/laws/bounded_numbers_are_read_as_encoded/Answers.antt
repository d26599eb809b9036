use Rattle.std.specs.Int.{w8, w64}
use Rattle.us_wire.proofs.Encoded.{wide8, wide64}
use Rattle.us_wire.proofs.Combined.{reads_between}
use Rattle.us_wire.proofs.laws.bounded_numbers_are_read_as_encoded.Goals as goal

pub returns : goal.returns
returns c = record { bytes = reads_between w8 wide8; eights = reads_between w64 wide64 }
