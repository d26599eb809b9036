use Rattle.us_agreement.proofs.Owners.{owner_next, next_above, next_least}
use Rattle.us_agreement.proofs.next_ballots_are_least.Goals as goal

pub returns : goal.returns
returns c = λ f s b first last. record {
  owned = owner_next f s b first last;
  above = next_above f s b;
  least = λ k above below own. next_least f s b k first last above below own;
}
