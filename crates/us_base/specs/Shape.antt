-- How many sites and partitions there are.
use Rattle.std.specs.Prelude.{ℕ, ◌+◌, ◌*◌, ◌≤◌}
use Rattle.us_base.specs.declared.shape.Shape.{Shape}

-- the number of sites
abbrev pub sites_of : Shape → ℕ
sites_of shape = 2 * shape.f + 1

-- a shape that calls take: 1 to 9 sites and 1 to 16 partitions. A configuration asks for 7 sites at most
pub record IsShape (shape : Shape) : Type 0 where
  pub few_sites : shape.f ≤ 4
  pub some_partition : 1 ≤ shape.parts
  pub few_partitions : shape.parts ≤ 16
