use Rattle.us_kind.proofs.Permutations.{answers_in_any_order}
use Rattle.us_kind.proofs.laws.answers_in_any_order.Goals as goal

pub returns : goal.returns
returns g c =
    answers_in_any_order g.R.Replicated.initially g.R.Replicated.updated g.R.Replicated.answered g.R.Replicated.prepared g.R.Replicated.value
    g.met.R.Replicated.commutes g.met.R.Replicated.in_order
