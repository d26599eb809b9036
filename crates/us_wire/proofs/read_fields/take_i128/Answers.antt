use Rattle.std.specs.Int.{w128}
use Rattle.us_wire.proofs.Encoded.{integer_taken}
use Rattle.us_wire.proofs.read_fields.take_i128.Goals as goal

pub returns : goal.returns
returns c =
    let part = (c.in_ok-get.ensures {u = tt}).lookup.0 in
    let chunk = (c.in_ok-field.ensures {u = tt}).cases in
    integer_taken w128 c.args.input.now c.in_ok-get.field-0.now c.in_ok-field.field.now c.args.at c.from_be_bytes.result part.0 part.2 chunk.enough chunk.same c.from_be_bytes.ensures (record { sfits = c.from_be_bytes.type_inv })
