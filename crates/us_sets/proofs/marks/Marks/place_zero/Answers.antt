use Rattle.std.proofs.Common.{ap, ◌∙◌, pos}
use Rattle.std.specs.FinMap.{insert}
use Rattle.us_sets.proofs.Views.{inserted}
use Rattle.us_sets.proofs.marks.Marks.place_zero.Goals as goal

pub returns-clause-ok : goal.returns-clause-ok
returns-clause-ok c =
    inserted c.self.inside.counts.entries c.insert.new.self.entries c.args.tag (pos 0) c.in_ok-insert.ensures.updates.0
    ∙ ap (λ s. insert s c.args.tag (pos 0)) c.self.view_is
