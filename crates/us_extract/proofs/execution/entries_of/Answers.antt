use Rattle.std.proofs.Common.{sym, subst}
use Rattle.us_history.specs.Histories.{Committed}
use Rattle.us_extract.specs.PastSearch.{IsSearchable}
use Rattle.us_extract.proofs.Searched.{in_turn}
use Rattle.us_extract.proofs.execution.entries_of.Goals as goal

pub entry_of-requires-clause-searchable : goal.entry_of-requires-clause-searchable
entry_of-requires-clause-searchable c =
    let ranked = c.ranked-item.result in
    let here = in_turn c.args.order.now c.loop-ranked.ranked-index ranked c.loop-ranked-test.true c.ranked-item.is in
    subst (λ (d : Committed). IsSearchable c.args.committed.now d.begun) (sym c.commit.ensures) (c.requires.searchable ranked here)
