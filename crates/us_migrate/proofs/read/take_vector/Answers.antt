use Rattle.std.proofs.Common.{◌≡◌, ◌+◌, ◌<◌, ◌≤◌, suc, ℕ, List, sym, subst, ◌∙◌, arith}
use Rattle.us_base.specs.Shape.{sites_of}
use Rattle.us_migrate.proofs.Loops.{IsReadSoFar, nothing_read, one_more_read, none_read, all_read}
use Rattle.us_migrate.proofs.read.take_vector.Goals as goal

pub loop-i-init : goal.loop-i-init
loop-i-init c = subst (λ (v : List ℕ). IsReadSoFar c.args.shape c.args.input.now c.args.at 0 c.args.at v) (sym c.zero-vector.ensures) (nothing_read c.args.shape c.args.input.now c.args.at)

pub loop-i-preserved : goal.loop-i-preserved
loop-i-preserved c =
    let few : sites_of c.args.shape ≤ 9 = omega (arith, c.requires.few_sites) in
    let lt : c.loop-i.i < suc (sites_of c.args.shape) = omega (arith, c.loop-i-test.true, c.sites-i-end.ensures) in
    subst (λ (v : List ℕ). IsReadSoFar c.args.shape c.args.input.now c.args.at (c.loop-i.i + 1) c.in_ok-number.behind v) (sym c.with_entry-vector.ensures)
    (one_more_read c.args.shape c.args.input.now c.args.at c.loop-i.i c.loop-i.next c.in_ok-number.behind c.in_ok-number.number c.loop-i.vector few lt c.loop-i.invariant (sym (c.in_ok-number.ensures {u = tt})))

pub returns-in_err-number : goal.returns-in_err-number
returns-in_err-number c =
    let lt : c.loop-i.i < suc (sites_of c.args.shape) = omega (arith, c.loop-i-test.true, c.sites-i-end.ensures) in
    c.from_residual.ensures ∙ none_read c.args.shape c.args.input.now c.args.at c.loop-i.i c.loop-i.next c.loop-i.vector lt c.loop-i.invariant (sym (c.in_err-number.ensures {u = tt}))

pub returns : goal.returns
returns c =
    let few : sites_of c.args.shape ≤ 9 = omega (arith, c.requires.few_sites) in
    let end : c.loop-i.i ≡ suc (sites_of c.args.shape) = omega (arith, c.loop-i-test.false, c.loop-i.auto.i-end, c.sites-i-end.ensures) in
    all_read c.args.shape c.args.input.now c.args.at c.loop-i.i c.loop-i.next c.loop-i.vector end few c.loop-i.invariant
