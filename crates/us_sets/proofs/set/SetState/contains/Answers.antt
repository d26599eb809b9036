use Rattle.std.proofs.Common.{ap, sym, ◌∙◌}
use Rattle.std.specs.Option.{option_copied}
use Rattle.us_sets.specs.Marks.{is_live}
use Rattle.us_sets.specs.MarksLaws.{is_live-empty}
use Rattle.us_sets.specs.Set.{marks_of}
use Rattle.us_sets.proofs.Views.{found, missing}
use Rattle.us_sets.proofs.set.SetState.contains.Goals as goal

pub returns-in-Some : goal.returns-in-Some
returns-in-Some c = c.is_live.ensures ∙ ap is_live (found c.self.inside.elements.entries c.args.value.now c.in-Some.marks.now (sym c.get.ensures.value ∙ ap option_copied c.in-Some.is) ∙ ap (λ s. marks_of s c.args.value.now) c.self.view_is)

pub returns-in-None : goal.returns-in-None
returns-in-None c = sym is_live-empty ∙ ap is_live (missing c.self.inside.elements.entries c.args.value.now (sym c.get.ensures.value ∙ ap option_copied c.in-None.is) ∙ ap (λ s. marks_of s c.args.value.now) c.self.view_is)
