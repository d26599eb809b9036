use Rattle.std.proofs.Common.{◌≡◌, ◌+◌, ◌∙◌, ◌++◌, ◌∷◌, [], ap, sym}
use Rattle.us_history.specs.Histories.{committed_in}
use Rattle.us_extract.proofs.Places.{numbered_more}
use Rattle.us_extract.proofs.commits.Commits.push.Goals as goal

pub invariant_of-self-in-Ok : goal.invariant_of-self-in-Ok
invariant_of-self-in-Ok c =
    let new = c.args.commit in
    let number : new.number ≡ committed_in new.begun.session c.self.inside.list.items + 1 =
    c.requires ∙ ap (λ cs. committed_in new.begun.session cs + 1) (sym c.self.view_is)
    in
    numbered_more c.self.inside.list.items c.push.new.self.items c.self.inside.groups c.push-2.new.self new c.self.invariant number c.in_ok-push.ensures.items
    (c.in-Ok.ensures.ok ∙ ap (λ g. c.self.inside.groups ++ g ∷ []) c.group_of-group.ensures)
