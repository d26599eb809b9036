use Rattle.std.proofs.Common.{◌≡◌, ◌+◌, ◌∙◌, subst}
use Rattle.std.specs.Prelude.{IfOk}
use Rattle.us_extract.proofs.Searched.{both_groups}
use Rattle.us_extract.proofs.commits.Commits.next_number.Goals as goal

pub returns : goal.returns
returns c =
    let all = both_groups c.args.session.now c.args.self.now c.places.result.now c.places-2.result.now c.places.ensures c.places-2.ensures in
    subst (λ n. IfOk c.checked_sum-2.result (λ number. number ≡ n + 1)) (c.in_ok-checked_sum.ensures ∙ all) c.checked_sum-2.ensures
