-- The kind of a space, from the last pair to the first.
use Rattle.std.proofs.Common.{◌≡◌, ◌-◌, ◌<◌, ◌≤◌, ℕ, suc, Bool, List, Option, Some, refl, ap, sym, ◌∙◌, arith, cond, drop, drop-cons, get_or, length}
use Rattle.std.proofs.lemmas.Bool.Decides.{nat_tests}
use Rattle.std.specs.Ordering.{is_eq, nat_cmp}
use Rattle.std.specs.Prelude.{◌==◌}
use Rattle.us_value.specs.Catalogs.{kind_in}
use Rattle.us_value.specs.declared.operation.Kind.{Kind}

pub same_number : (a b : ℕ) → is_eq (nat_cmp a b) ≡ (a == b)
same_number a b = grind (arith, nat_tests)

-- one more pair in front
pub kind_in-turn : (spaces : List (ℕ × Kind)) (i : ℕ) (d : ℕ × Kind) (n : ℕ) → 0 < i → i ≤ length spaces
    → kind_in (drop (i - 1) spaces) n ≡ cond ((get_or spaces (i - 1) d).0 == n) (Some (get_or spaces (i - 1) d).1) (kind_in (drop i spaces) n)
kind_in-turn spaces i d n some within =
    let next : suc (i - 1) ≡ i = omega arith in
    ap (λ (xs : List (ℕ × Kind)). kind_in xs n) (drop-cons spaces (i - 1) d (omega arith))
    ∙ ap (λ j. cond ((get_or spaces (i - 1) d).0 == n) (Some (get_or spaces (i - 1) d).1) (kind_in (drop j spaces) n)) next

-- what a map gives after such a pair was put in
pub after_put : (spaces : List (ℕ × Kind)) (i : ℕ) (d : ℕ × Kind) (n : ℕ) (new old : Option Kind) → 0 < i → i ≤ length spaces
    → new ≡ cond (is_eq (nat_cmp (get_or spaces (i - 1) d).0 n)) (Some (get_or spaces (i - 1) d).1) old
    → old ≡ kind_in (drop i spaces) n → new ≡ kind_in (drop (i - 1) spaces) n
after_put spaces i d n new old some within put kept =
    put ∙ (λ j. cond (same_number (get_or spaces (i - 1) d).0 n j) (Some (get_or spaces (i - 1) d).1) (kept j))
    ∙ sym (kind_in-turn spaces i d n some within)
