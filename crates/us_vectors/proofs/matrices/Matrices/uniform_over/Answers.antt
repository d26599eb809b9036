use Rattle.std.proofs.Common.{◌∙◌, ◌+◌, ◌-◌, ap, sym}
use Rattle.us_base.specs.Vector.{with_entry}
use Rattle.us_vectors.specs.Matrices.{uniform_entry, uniform_over}
use Rattle.us_vectors.proofs.Entries.{put_from, put_step, put_done, put_all}
use Rattle.us_vectors.proofs.matrices.Matrices.uniform_over.Goals as goal

pub loop-i-preserved : goal.loop-i-preserved
loop-i-preserved c =
    let e = uniform_entry c.args.self.now c.args.stable.now in
    let i = c.loop-i.i in
    ap (λ v. put_from e v (i + 1) (10 - (i + 1))) (c.with_entry-uniform.ensures ∙ ap (with_entry c.loop-i.uniform i) c.uniform_entry.ensures)
    ∙ put_step e c.loop-i.uniform i c.loop-i-test.true
    ∙ c.loop-i.invariant

pub returns : goal.returns
unfolding uniform_over
returns c =
    let e = uniform_entry c.args.self.now c.args.stable.now in
    sym (put_done e c.loop-i.uniform c.loop-i.i c.loop-i-test.false) ∙ c.loop-i.invariant ∙ put_all e
