use Rattle.std.proofs.Common.{sym, arith}
use Rattle.us_fields.proofs.Loops.{byte_within, id_taken}
use Rattle.us_fields.proofs.read.id_in.Goals as goal

pub overflow_sub-input : goal.overflow_sub-input
overflow_sub-input c = byte_within 1 64 c.args.input.now c.args.at c.in_ok-size.size c.in_ok-size.start (omega arith) (λ i. (c.type_inv.input i).fits) (sym (c.in_ok-size.ensures {u = tt}))

pub slice_bounds-result-end : goal.slice_bounds-result-end
slice_bounds-result-end c =
    let within = byte_within 1 64 c.args.input.now c.args.at c.in_ok-size.size c.in_ok-size.start (omega arith) (λ i. (c.type_inv.input i).fits) (sym (c.in_ok-size.ensures {u = tt})) in
    let room = c.if-input-start.false in
    omega arith

pub returns : goal.returns
returns c =
    let within = byte_within 1 64 c.args.input.now c.args.at c.in_ok-size.size c.in_ok-size.start (omega arith) (λ i. (c.type_inv.input i).fits) (sym (c.in_ok-size.ensures {u = tt})) in
    id_taken c.args.input.now c.args.at c.in_ok-size.size c.in_ok-size.start c.from-size.result (sym (c.in_ok-size.ensures {u = tt})) c.from-size.ensures within c.if-input-start.false
