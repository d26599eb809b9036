use Rattle.std.proofs.Common.{refl}
use Rattle.std.specs.Int.{w8, w16, w32, w64, w128}
use Rattle.us_wire.proofs.Encoded.{wide8, wide16, wide32, wide64, wide128, reads_numbers, reads_integers, reads_values}
use Rattle.us_wire.proofs.laws.fields_are_read_as_encoded.Goals as goal

pub returns : goal.returns
returns c = record {
  bytes = reads_numbers w8 wide8;
  pairs = reads_numbers w16 wide16;
  fours = reads_numbers w32 wide32;
  eights = reads_numbers w64 wide64;
  signed_eights = reads_integers w64 wide64 refl;
  signed_sixteens = reads_integers w128 wide128 refl;
  values = reads_values;
}
