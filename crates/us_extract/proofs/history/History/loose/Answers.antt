use Rattle.std.proofs.Common.{subst}
use Rattle.std.specs.Prelude.{List}
use Rattle.us_kind.specs.Comparison.{In}
use Rattle.us_history.specs.Histories.{Begun}
use Rattle.us_extract.proofs.Searched.{in_turn, begun_searchable}
use Rattle.us_extract.proofs.history.History.loose.Goals as goal

pub loose_one-requires-clause-searchable : goal.loose_one-requires-clause-searchable
loose_one-requires-clause-searchable c =
    let history = c.args.self.now in
    let beginning = c.beginning-item.result in
    let here = in_turn c.begun-beginning-items.result.now c.loop-beginning.beginning-index beginning c.loop-beginning-test.true c.beginning-item.is in
    begun_searchable history c.requires.ascends beginning
    (subst (λ (bs : List Begun). In beginning bs) c.begun-beginning-items.ensures here)
