use Rattle.std.proofs.Common.{◌≡◌, ◌∙◌, ap}
use Rattle.std.proofs.lemmas.Result.{IfOk-weaker}
use Rattle.us_history.specs.Histories.{ops_of}
use Rattle.us_extract.specs.PastSearch.{done_at}
use Rattle.us_extract.proofs.Places.{ops_found}
use Rattle.us_extract.proofs.performances.Performances.of.Goals as goal

pub returns : goal.returns
returns c =
    let tid = c.args.tid.now in
    let list = c.self.inside.list.items in
    let places = c.of.result.now in
    IfOk-weaker c.operations_at.result (λ ops. ops ≡ done_at c.as_slice.result.now places) (λ ops. ops ≡ ops_of tid c.args.self.now)
    (λ ops e. e ∙ ap (λ ps. done_at ps places) c.as_slice.ensures.value ∙ ops_found tid list c.self.inside.tids places c.self.invariant c.of.ensures
    ∙ ap (ops_of tid) c.self.view_is)
    c.operations_at.ensures
