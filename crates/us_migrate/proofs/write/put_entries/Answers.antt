use Rattle.std.proofs.Common.{◌≡◌, ◌+◌, ◌++◌, suc, take, length, List, ℕ, arith, ap, ◌∙◌}
use Rattle.std.specs.Int.{w64, to_be_bytes}
use Rattle.std.proofs.lemmas.List.{take_at}
use Rattle.us_base.specs.Shape.{sites_of}
use Rattle.us_wire.specs.Decoders.{many_encoding}
use Rattle.us_migrate.proofs.Writing.{none_written, one_more_written, holds_on_err}
use Rattle.us_migrate.proofs.write.put_entries.Goals as goal

pub loop-i-init : goal.loop-i-init
loop-i-init c = none_written c.args.vector.now c.args.out.now.items

pub loop-i-preserved : goal.loop-i-preserved
loop-i-preserved c =
    let lt = c.loop-i-test.true in
    let e = c.sites-i-end.ensures in
    let few = c.requires.shape.few_sites in
    one_more_written c.args.vector.now c.loop-i.i c.get.result c.args.out.now.items c.loop-i.out.items c.put_u64.new.out.items (omega (arith, c.requires.ten)) c.get.ensures c.loop-i.invariant (c.in_ok-put_u64.ensures {u = tt}).ok

pub returns-in_err-put_u64-clause-err : goal.returns-in_err-put_u64-clause-err
returns-in_err-put_u64-clause-err c =
    holds_on_err c.from_residual.result _
    (ap (λ (xs : List ℕ). take (length c.args.out.now.items) xs) ((c.in_err-put_u64.ensures {u = tt}).err ∙ c.loop-i.invariant)
    ∙ take_at c.args.out.now.items (many_encoding (to_be_bytes w64) (take c.loop-i.i c.args.vector.now)) (length c.args.out.now.items) (λ i. length c.args.out.now.items))

pub returns : goal.returns
returns c =
    let e = c.sites-i-end.ensures in
    let end : c.loop-i.i ≡ suc (sites_of c.args.shape) = omega (arith, c.loop-i-test.false, c.loop-i.auto.i-end) in
    record {
      ok = c.loop-i.invariant ∙ ap (λ (k : ℕ). c.args.out.now.items ++ many_encoding (to_be_bytes w64) (take k c.args.vector.now)) end;
      err = tt;
    }
