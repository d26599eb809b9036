-- Comparing slices of bytes.
use Rattle.std.proofs.Common.{◌≡◌, ℕ, List, eqb, rules}
use Rattle.std.specs.Cmp.Lexicographic.{pointwise}
use Rattle.std.proofs.lemmas.Bool.Decides.{same_from_decides, Decides-eqb}
use Rattle.std.proofs.lemmas.Slice.Eq.{slice_eq-Decides, compares_Decides}
use Rattle.us_kind.specs.Comparison.{bytes_eq}

-- what a comparison of slices answers: both tests decide that the two lists are one
pub same_bytes : (xs ys : List ℕ) → pointwise eqb xs ys ≡ bytes_eq xs ys
same_bytes xs ys =
    same_from_decides _ _ (slice_eq-Decides Decides-eqb xs ys (pointwise eqb xs ys) (λ _. pointwise eqb xs ys)) (compares_Decides bytes_eq (search rules) xs ys)
