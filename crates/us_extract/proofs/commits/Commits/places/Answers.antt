use Rattle.std.proofs.Common.{◌≡◌, rules, subst}
use Rattle.std.specs.Prelude.{Some, List, map, filter}
use Rattle.us_history.specs.Histories.{Committed}
use Rattle.us_extract.specs.PastSearch.{is_in_group, found_at}
use Rattle.us_extract.proofs.Searched.{group_found}
use Rattle.us_extract.proofs.commits.Commits.places.Goals as goal

pub returns : goal.returns
returns c =
    let session = c.args.session.now in
    let updates = c.args.updates in
    let is = c.of.result.now in
    subst (λ (cs : List Committed). found_at cs is ≡ map (λ x. Some x) (filter (is_in_group session updates) cs)) c.self.view_is
    (group_found _ session updates c.self.inside.list.items c.self.inside.groups is (λ a b. search rules) c.self.invariant c.of.ensures)
