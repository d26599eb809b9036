use Rattle.std.proofs.Common.{◌≡◌, List, sym, subst}
use Rattle.us_exec.specs.declared.RefusedRequest.{RefusedRequest}
use Rattle.us_model.specs.Executions.{refusals_of}
use Rattle.us_world.specs.Lines.{OfWorld}
use Rattle.unistore.proofs.LinesInTurn.{report_is}
use Rattle.unistore.proofs.performing.report_of.Goals as goal

pub returns-clause-is : goal.returns-clause-is
returns-clause-is c =
    let world = c.args.world.now in
    let refused : OfWorld world.settings world.lines (λ w. c.in_ok-copies.field-0 ≡ refusals_of w.notes) =
    subst (λ (rs : List RefusedRequest). OfWorld world.settings world.lines (λ w. rs ≡ refusals_of w.notes)) (sym c.in_ok-copies.ensures)
    (c.refusals.ensures c.requires.runs)
    in
    report_is world.settings world.lines c.in_ok-execution.field-0 c.in_ok-copies.field-0 c.in_ok-waiting.field-0 c.outcomes_are_one.ensures
    c.in_ok-execution.ensures.is refused c.in_ok-waiting.ensures
