use Rattle.std.proofs.Common.{refl}
use Rattle.us_base.specs.Vector.{at_most, with_entry}
use Rattle.us_certify.proofs.example.worked_pages.Goals as goal

pub returns-clause-pages : goal.returns-clause-pages
unfolding at_most with_entry
returns-clause-pages c = refl
