-- How long writes are.
use Rattle.std.proofs.Common.{◌≡◌, ◌+◌, List, [], ◌∷◌, ◌++◌, refl, ap, arith}
use Rattle.us_value.specs.declared.item.Write.{Write}
use Rattle.us_value.specs.Lengths.{write_length}
use Rattle.us_model.specs.Sessions.{writes_length}

pub length_none : (ws : List Write) → writes_length (ws ++ []) ≡ writes_length ws
length_none [] = refl
length_none (x ∷ ws) = ap (λ n. write_length x + n) (length_none ws)

pub length_push : (ws : List Write) (w : Write) → writes_length (ws ++ w ∷ []) ≡ writes_length ws + write_length w
length_push [] w = omega arith
length_push (x ∷ ws) w = let rest = length_push ws w in omega arith
