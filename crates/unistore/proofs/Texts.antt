-- The texts of refusals.
use Rattle.std.proofs.Common.{◌≡◌, [], ◌∷◌, refl}
use Rattle.std.specs.Fmt.{decimal, digits}

pub decimal_zero : decimal 0 ≡ 48 ∷ []
unfolding digits
decimal_zero = refl
