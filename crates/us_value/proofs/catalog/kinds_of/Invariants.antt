use Rattle.std.proofs.Common.{◌≡◌, ◌≤◌, ℕ, drop, length}
use Rattle.std.specs.BTreeMap.{get}
use Rattle.std.specs.Ordering.{nat_cmp}
use Rattle.us_value.specs.Catalogs.{kind_in}
use Rattle.us_value.proofs.catalog.kinds_of.Given as goal

abbrev pub invariant-loop-left : goal.invariant-loop-left
invariant-loop-left l = (l.left ≤ length l.spaces) × ((n : ℕ) → get nat_cmp l.kinds n ≡ kind_in (drop l.left l.spaces) n)

abbrev pub decreases-loop-left : goal.decreases-loop-left
decreases-loop-left l = l.left
