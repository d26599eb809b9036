use Rattle.std.proofs.Common.{◌≡◌, sym, subst}
use Rattle.std.proofs.lemmas.Bool.{cond-true, cond-false}
use Rattle.us_exec.specs.declared.LooseEnd.TheVariants as end
use Rattle.us_history.specs.Histories.{History}
use Rattle.us_history.specs.Executions.{end_of}
use Rattle.us_extract.proofs.history.History.end_of.Goals as goal

-- none is aborted yet
pub returns-then-contains : goal.returns-then-contains
returns-then-contains c =
    subst (λ (h : History). end.Left ≡ end_of c.args.tid.now h.aborted h.left) c.self.view_is (sym (cond-true _ _ _ (sym c.if-contains.ensures)))

pub returns-else-contains : goal.returns-else-contains
returns-else-contains c =
    subst (λ (h : History). end.Open ≡ end_of c.args.tid.now h.aborted h.left) c.self.view_is (sym (cond-false _ _ _ (sym c.if-contains.ensures)))
