use Rattle.std.proofs.Common.{List, ℕ, refl, sym, subst}
use Rattle.us_schedule.specs.Text.{raw_lines}
use Rattle.us_schedule.proofs.Parting.{IsPast, past_here, past_more, past_end, is_parted, none_is}
use Rattle.us_schedule.proofs.text.split_text.Goals as goal

pub loop-content-preserved : goal.loop-content-preserved
loop-content-preserved c =
    past_more c.args.text.now c.loop-content.rest.now c.in-Some.content.now c.in-Some.behind.now c.loop-content.line c.loop-content.invariant c.in-Some.ensures.first c.in-Some.ensures.shorter (sym c.if-eq.ensures)

pub returns-then-eq-clause-parted : goal.returns-then-eq-clause-parted
returns-then-eq-clause-parted c =
    past_here c.args.text.now c.loop-content.rest.now c.in-Some.content.now c.in-Some.behind.now c.loop-content.line c.loop-content.invariant c.in-Some.ensures.first (sym c.if-eq.ensures)

pub returns-then-eq-clause-lines : goal.returns-then-eq-clause-lines
returns-then-eq-clause-lines c = is_parted c.args.text.now _ (returns-then-eq-clause-parted c)

pub returns-clause-nowhere : goal.returns-clause-nowhere
returns-clause-nowhere c =
    let P : List ℕ → Type 0 = λ rest. IsPast c.args.text.now rest c.loop-content.line in
    none_is (raw_lines c.args.text.now) (past_end c.args.text.now c.loop-content.line (subst P (c.in_default.ensures.none.0 refl) c.loop-content.invariant)).0
