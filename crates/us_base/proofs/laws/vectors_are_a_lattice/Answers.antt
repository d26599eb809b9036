use Rattle.us_base.proofs.Lattice.{lattice}
use Rattle.us_base.proofs.laws.vectors_are_a_lattice.Goals as goal

pub returns : goal.returns
returns c = lattice
