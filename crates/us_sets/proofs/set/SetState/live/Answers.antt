use Rattle.std.proofs.Common.{◌≡◌, ap, sym, subst, ◌∙◌, IfOk}
use Rattle.std.specs.Option.{option_copied}
use Rattle.us_sets.specs.Marks.{live_tags}
use Rattle.us_sets.specs.Set.{marks_of}
use Rattle.us_sets.proofs.Views.{found, missing, live_tags-empty}
use Rattle.us_sets.proofs.set.SetState.live.Goals as goal

pub returns-in-Some : goal.returns-in-Some
returns-in-Some c = subst (λ m. IfOk c.live.result (λ tags. tags ≡ live_tags m)) (found c.self.inside.elements.entries c.args.value.now c.in-Some.marks.now (sym c.get.ensures.value ∙ ap option_copied c.in-Some.is) ∙ ap (λ s. marks_of s c.args.value.now) c.self.view_is) c.live.ensures

pub returns-in-None : goal.returns-in-None
returns-in-None c = c.new.ensures ∙ live_tags-empty ∙ ap live_tags (missing c.self.inside.elements.entries c.args.value.now (sym c.get.ensures.value ∙ ap option_copied c.in-None.is) ∙ ap (λ s. marks_of s c.args.value.now) c.self.view_is)
