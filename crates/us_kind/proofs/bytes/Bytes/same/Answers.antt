use Rattle.std.proofs.Common.{◌∙◌}
use Rattle.us_kind.specs.Comparison.{bytes_eq}
use Rattle.us_kind.proofs.SameBytes.{same_bytes}
use Rattle.us_kind.proofs.bytes.Bytes.same.Goals as goal

pub returns : goal.returns
returns c =
    c.eq.ensures ∙ same_bytes c.as_slice.result.now c.as_slice-2.result.now
    ∙ (λ i. bytes_eq (c.as_slice.ensures i) (c.as_slice-2.ensures i))
