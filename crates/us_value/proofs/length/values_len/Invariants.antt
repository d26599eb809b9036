use Rattle.std.proofs.Common.{◌≡◌, ◌+◌, ◌-◌, ◌^◌, ◌≤◌, drop}
use Rattle.us_value.specs.Lengths.{all_lengths, capped}
use Rattle.us_value.proofs.length.values_len.Given as goal

abbrev pub invariant-loop-value : goal.invariant-loop-value
invariant-loop-value l = (capped (l.total + all_lengths (drop l.value-index l.values)) ≡ capped (all_lengths l.values)) × (l.total ≤ 2 ^ 64 - 1)
