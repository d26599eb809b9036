use Rattle.std.proofs.Common.{◌∙◌, true, ap, sym, subst}
use Rattle.std.specs.Prelude.{List}
use Rattle.us_history.specs.Histories.{Committed}
use Rattle.us_extract.specs.PastSearch.{IsIndexed, is_shown, found_at, greatest_found, PassFirst}
use Rattle.us_extract.proofs.Searched.{group_first, group_greatest, shown_falls}
use Rattle.us_extract.proofs.commits.Commits.last_shown.Goals as goal

pub shown_at-requires : goal.shown_at-requires
shown_at-requires c =
    let cs = c.args.self.now in
    let is = c.places.result.now in
    let test = is_shown c.args.snapshot.now in
    let numbered : IsIndexed cs c.self.inside.groups = subst (λ (xs : List Committed). IsIndexed xs c.self.inside.groups) c.self.view_is c.self.invariant in
    let first = group_first c.args.session.now true test cs c.self.inside.groups is numbered (shown_falls c.args.snapshot.now cs c.requires) c.places.ensures in
    subst (λ (xs : List Committed). PassFirst test (found_at xs is)) (sym (c.as_slice.ensures.value ∙ c.self.view_is)) first

pub returns : goal.returns
returns c =
    let is = c.places.result.now in
    let test = is_shown c.args.snapshot.now in
    c.shown_at.ensures
    ∙ ap (λ (xs : List Committed). greatest_found test (found_at xs is)) (c.as_slice.ensures.value ∙ c.self.view_is)
    ∙ group_greatest c.args.session.now true test c.args.self.now is c.places.ensures
