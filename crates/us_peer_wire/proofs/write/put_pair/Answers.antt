use Rattle.std.specs.Int.{w64, to_be_bytes}
use Rattle.us_peer_wire.proofs.WriteLemmas.{ok_joined}
use Rattle.us_peer_wire.proofs.write.put_pair.Goals as goal

pub returns : goal.returns
returns c = ok_joined (λ new. new.items) c.put_number-2.result c.args.out.items (to_be_bytes w64 c.args.first) c.in_ok-put_number.field-0.items (to_be_bytes w64 c.args.second) (c.in_ok-put_number.ensures {u = tt}) c.put_number-2.ensures
