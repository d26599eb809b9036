use Rattle.us_agreement.proofs.Heads.{loses_heads}
use Rattle.us_agreement.proofs.tails_lose_heads.Goals as goal

pub returns : goal.returns
returns g c = loses_heads g.E.PartialEq.eq
