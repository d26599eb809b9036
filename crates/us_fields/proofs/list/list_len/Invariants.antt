use Rattle.std.proofs.Common.{◌≡◌, ◌+◌, ◌-◌, ◌^◌, ◌≤◌, drop}
use Rattle.us_value.specs.Lengths.{capped}
use Rattle.us_fields.specs.Lengths.{sum_of_sizes}
use Rattle.us_fields.proofs.list.list_len.Given as goal

-- what was counted and what is left are all
abbrev pub invariant-loop-item : goal.invariant-loop-item
invariant-loop-item g l = (capped (l.total + sum_of_sizes (g.T.Field.size l.shape) (drop l.item-index l.items)) ≡ capped (sum_of_sizes (g.T.Field.size l.shape) l.items)) × (l.total ≤ 2 ^ 64 - 1)
