use Rattle.us_kind.proofs.Permutations.{state_after-permutation}
use Rattle.us_kind.proofs.laws.order_is_free.Goals as goal

pub returns : goal.returns
returns g c = state_after-permutation g.R.Replicated.updated g.met.R.Replicated.commutes
