use Rattle.std.proofs.Common.{ap, sym, ◌∙◌}
use Rattle.std.specs.FinMap.{empty}
use Rattle.us_sets.specs.Defaults.{with_value}
use Rattle.us_sets.specs.Marks.{is_nothing}
use Rattle.us_sets.proofs.Views.{keep-remove, keep-insert}
use Rattle.us_sets.proofs.set.SetState.keep.Goals as goal
use Rattle.us_sets.proofs.set.SetState.keep.Goals.{in-Some-2, in-None-2}

pub returns-then-is_empty-clause-ok : goal.returns-then-is_empty-clause-ok
returns-then-is_empty-clause-ok c =
    keep-remove c.self.inside.elements.entries c.remove.new.self.entries c.args.value.now c.args.marks (sym c.is_empty.ensures ∙ c.if-is_empty.true) c.remove.ensures.updates.0
    ∙ ap (λ s. with_value empty is_nothing s c.args.value.now c.args.marks) c.self.view_is

pub returns-in_ok-insert-clause-ok : goal.returns-in_ok-insert-clause-ok
returns-in_ok-insert-clause-ok c =
    let kept =
    keep-insert c.self.inside.elements.entries c.insert.new.self.entries c.args.value.now _ c.args.marks c.in_ok-copy.ensures (sym c.is_empty.ensures ∙ c.if-is_empty.false) c.in_ok-insert.ensures.updates.0
    ∙ ap (λ s. with_value empty is_nothing s c.args.value.now c.args.marks) c.self.view_is in
    elim c.match-branch-3.branch [ in-Some-2 w ↦ w.self-is ∙ kept | in-None-2 w ↦ w.self-is ∙ kept ]
