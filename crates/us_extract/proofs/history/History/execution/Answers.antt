use Rattle.std.proofs.Common.{◌≡◌, ◌∙◌, ap, subst}
use Rattle.std.specs.Prelude.{List}
use Rattle.us_kind.specs.Comparison.{In}
use Rattle.us_history.specs.Histories.{Committed}
use Rattle.us_history.specs.Arbitration.{arbitrated}
use Rattle.us_history.specs.Executions.{entries_of}
use Rattle.us_snapshots.proofs.Entries.{in_arbitrated}
use Rattle.us_extract.specs.PastSearch.{unlinked_past}
use Rattle.us_extract.proofs.Searched.{committed_searchable}
use Rattle.us_extract.proofs.Unlinked.{execution_unlinked}
use Rattle.us_extract.proofs.history.History.execution.Goals as goal

pub entries_of-requires-clause-searchable : goal.entries_of-requires-clause-searchable
entries_of-requires-clause-searchable c commit i =
    let history = c.args.self.now in
    let is : c.as_slice-2.result.now ≡ arbitrated history.committed =
    c.as_slice-2.ensures.value ∙ c.in_ok-order.ensures ∙ ap arbitrated c.committed-2.ensures
    in
    committed_searchable history c.requires c.commits.result.now commit c.commits.ensures
    (in_arbitrated commit history.committed (subst (λ (ds : List Committed). In commit ds) is i))

pub returns : goal.returns
returns c =
    let history = c.args.self.now in
    let order : c.as_slice-2.result.now ≡ arbitrated history.committed =
    c.as_slice-2.ensures.value ∙ c.in_ok-order.ensures ∙ ap arbitrated c.committed-2.ensures
    in
    execution_unlinked history _ _ _ c.requires.unlinked
    (c.in_ok-entries_of.ensures ∙ (λ i. entries_of (unlinked_past (c.commits.ensures i)) (order i)))
    c.in_ok-loose.ensures c.new.ensures
