use Rattle.std.proofs.Common.{◌∙◌, ap}
use Rattle.std.specs.List.{list_any}
use Rattle.us_kind.specs.Comparison.{tid_eq}
use Rattle.us_extract.proofs.Places.{committed_tid}
use Rattle.us_extract.proofs.history.History.is_committed.Goals as goal

pub returns : goal.returns
returns c =
    c.contains.ensures
    ∙ ap (list_any (λ t. tid_eq t c.args.tid.now)) c.requires
    ∙ committed_tid c.args.tid.now c.args.self.now.committed
