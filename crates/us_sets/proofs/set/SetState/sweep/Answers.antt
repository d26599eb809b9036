use Rattle.std.proofs.Common.{◌≡◌, ap, sym, ◌∙◌, true, cond}
use Rattle.std.specs.FinMap.{remove}
use Rattle.us_sets.specs.Marks.{is_nothing}
use Rattle.us_sets.specs.Set.{marks_of}
use Rattle.us_sets.proofs.Views.{element_removed}
use Rattle.us_sets.proofs.set.SetState.sweep.Goals as goal
use Rattle.us_sets.proofs.set.SetState.sweep.Goals.{in-Some-1, in-None-1}

pub returns-then-is_bare : goal.returns-then-is_bare
returns-then-is_bare c =
    let bare : is_nothing (marks_of c.args.self.now c.args.value.now) ≡ true = sym c.is_bare.ensures ∙ c.if-is_bare.true in
    let gone =
    element_removed c.self.inside.elements.entries c.remove.new.self.entries c.args.value.now c.remove.ensures.updates.0 ∙ ap (λ s. remove s c.args.value.now) c.self.view_is
    ∙ sym (ap (λ b. cond b (remove c.args.self.now c.args.value.now) c.args.self.now) bare) in
    elim c.match-remove.branch [ in-Some-1 w ↦ w.self-is ∙ gone | in-None-1 w ↦ w.self-is ∙ gone ]
