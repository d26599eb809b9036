use Rattle.std.proofs.Common.{ap, sym, ◌∙◌}
use Rattle.std.specs.Option.{option_copied}
use Rattle.us_sets.specs.Marks.{is_nothing}
use Rattle.us_sets.specs.Set.{marks_of}
use Rattle.us_sets.proofs.Views.{found, missing, is_nothing-empty}
use Rattle.us_sets.proofs.set.SetState.is_bare.Goals as goal

pub returns-in-Some : goal.returns-in-Some
returns-in-Some c = c.is_empty.ensures ∙ ap is_nothing (found c.self.inside.elements.entries c.args.value.now c.in-Some.marks.now (sym c.get.ensures.value ∙ ap option_copied c.in-Some.is) ∙ ap (λ s. marks_of s c.args.value.now) c.self.view_is)

pub returns-in-None : goal.returns-in-None
returns-in-None c = sym is_nothing-empty ∙ ap is_nothing (missing c.self.inside.elements.entries c.args.value.now (sym c.get.ensures.value ∙ ap option_copied c.in-None.is) ∙ ap (λ s. marks_of s c.args.value.now) c.self.view_is)
