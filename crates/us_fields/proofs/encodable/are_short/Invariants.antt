use Rattle.std.proofs.Common.{◌≡◌, drop}
use Rattle.us_fields.specs.Lengths.{all_short}
use Rattle.us_fields.proofs.encodable.are_short.Given as goal

-- all are short where the rest are
abbrev pub invariant-loop-value : goal.invariant-loop-value
invariant-loop-value l = all_short (drop l.value-index l.values) ≡ all_short l.values
