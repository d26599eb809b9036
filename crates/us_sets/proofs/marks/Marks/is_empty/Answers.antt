use Rattle.std.proofs.Common.{ap, ◌∙◌}
use Rattle.us_sets.specs.Marks.{is_nothing}
use Rattle.us_sets.proofs.Views.{is_nothing-view}
use Rattle.us_sets.proofs.marks.Marks.is_empty.Goals as goal

pub returns : goal.returns
returns c = is_nothing-view c.self.inside.counts.entries c.is_empty.result c.is_empty.ensures ∙ ap is_nothing c.self.view_is
