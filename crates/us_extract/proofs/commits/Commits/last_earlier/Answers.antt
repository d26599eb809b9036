use Rattle.std.proofs.Common.{◌∙◌, max}
use Rattle.us_extract.proofs.Searched.{earlier_both}
use Rattle.us_extract.proofs.commits.Commits.last_earlier.Goals as goal

pub returns : goal.returns
returns c =
    let first = c.last_earlier_in-updating.ensures in
    let second = c.last_earlier_in-reading.ensures in
    c.max.ensures ∙ (λ i. max (first i) (second i)) ∙ earlier_both c.args.session.now c.args.seq c.args.self.now
