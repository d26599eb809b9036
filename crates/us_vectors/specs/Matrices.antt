-- What a partition was told of others: of the other partitions of its site, and of the same partition at the other sites.
use Rattle.std.specs.Prelude.{◌≡◌, ◌≤◌, ℕ, List, length, map, replicate}
use Rattle.std.specs.List.{range_with_len}
use Rattle.us_base.specs.Shape.{IsShape, sites_of}
use Rattle.us_base.specs.Vector.{entry, with_entry, zero}
use Rattle.us_base.specs.declared.shape.Shape.{Shape}
use Rattle.us_vectors.specs.Tables.{others, joined, meet_all}
use Rattle.us_vectors.specs.Groups.{uniform_number}
use Rattle.us_vectors.specs.Counts.{column}

-- whose it is, and a vector for each partition or site, the own one among them: what partitions know; below which their
-- transactions under way don't fall; what is stable at sites; what sites know
pub record Matrices : Type 0 where
  pub shape : Shape
  pub site : ℕ
  pub part : ℕ
  pub local : List (List ℕ)
  pub horizons : List (List ℕ)
  pub rows : List (List ℕ)
  pub global : List (List ℕ)

-- a table has a place for each partition or site, and the own one among them
pub record IsWhole (m : Matrices) : Type 0 where
  pub shape : IsShape m.shape
  pub first_site : 1 ≤ m.site
  pub last_site : m.site ≤ sites_of m.shape
  pub first_part : 1 ≤ m.part
  pub last_part : m.part ≤ m.shape.parts
  pub local : length m.local ≡ m.shape.parts
  pub horizons : length m.horizons ≡ m.shape.parts
  pub rows : length m.rows ≡ sites_of m.shape
  pub global : length m.global ≡ sites_of m.shape

-- of nobody anything is known
abbrev pub no_matrices : Shape → ℕ → ℕ → Matrices
no_matrices shape site part =
    record {
      shape = shape;
      site = site;
      part = part;
      local = replicate shape.parts zero;
      horizons = replicate shape.parts zero;
      rows = replicate (sites_of shape) zero;
      global = replicate (sites_of shape) zero;
    }

-- a partition of the own site tells what it knows, and its horizon
abbrev pub with_local : Matrices → ℕ → List ℕ → List ℕ → Matrices
with_local m part known horizon = record m { local = joined m.local part known; horizons = joined m.horizons part horizon }

-- a site tells what is stable there
abbrev pub with_stable : Matrices → ℕ → List ℕ → Matrices
with_stable m site v = record m { rows = joined m.rows site v }

-- a site tells what it knows
abbrev pub with_global : Matrices → ℕ → List ℕ → Matrices
with_global m site v = record m { global = joined m.global site v }

-- STABLE: what all partitions of the site know
abbrev pub stable : Matrices → List ℕ → List ℕ
stable m known = meet_all known (others m.part m.local)

-- what no transaction under way at the site falls below
abbrev pub floor : Matrices → List ℕ → List ℕ
floor m horizon = meet_all horizon (others m.part m.horizons)

-- what all sites know
abbrev pub all_know : Matrices → List ℕ → List ℕ
all_know m known = meet_all known (others m.site m.global)

-- UNIFORM: what is stable at f + 1 sites, the own one among them
abbrev pub uniform_entry : Matrices → List ℕ → ℕ → ℕ
uniform_entry m stable i = uniform_number m.shape.f (entry stable i) (column i (others m.site m.rows))

unfoldable pub uniform_over : Matrices → List ℕ → List ℕ
uniform_over m stable = map (uniform_entry m stable) (range_with_len 0 10)

abbrev pub uniform : Matrices → List ℕ → List ℕ
uniform m known = uniform_over m (stable m known)

-- BASE, with which snapshots begin: uniform, with the own site's entry and the strong one as they are stable
abbrev pub base : Matrices → List ℕ → List ℕ
base m known =
    with_entry (with_entry (uniform m known) m.site (entry (stable m known) m.site)) 0 (entry (stable m known) 0)
