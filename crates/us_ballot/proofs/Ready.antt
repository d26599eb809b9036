-- The greatest number that passes, from above.
use Rattle.std.proofs.Common.{◌≡◌, ℕ, zero, suc, ◌+◌, ◌-◌, ◌<◌, ◌≤◌, List, Option, true, false, refl, sym, ap, ◌∙◌, arith}
use Rattle.std.specs.Prelude.{nat_le}
use Rattle.std.proofs.lemmas.Bool.Decides.{nat_tests}
use Rattle.us_ballot_model.specs.Ballots.{backers, most}

test_false : (f g : ℕ) → g < f → nat_le f g ≡ false
test_false f g h = grind (arith, nat_tests)

test_true : (f g : ℕ) → f ≤ g → nat_le f g ≡ true
test_true f g h = grind (arith, nat_tests)

pub ready_less : (f : ℕ) (acks : List (Option ℕ)) (n k : ℕ) → 0 < k → backers acks (n + k) < f → most (λ k. nat_le f (backers acks (n + k))) (k - 1) ≡ most (λ k. nat_le f (backers acks (n + k))) k
ready_less f acks n zero h l = absurd (omega arith)
ready_less f acks n (suc k) h l =
    let e : suc k - 1 ≡ k = omega arith in
    ap (most (λ k. nat_le f (backers acks (n + k)))) e ∙ sym (rw (test_false f (backers acks (n + suc k)) l) refl)

pub ready_here : (f : ℕ) (acks : List (Option ℕ)) (n k : ℕ) → 0 < k → f ≤ backers acks (n + k) → most (λ k. nat_le f (backers acks (n + k))) k ≡ k
ready_here f acks n zero h l = refl
ready_here f acks n (suc k) h l = rw (test_true f (backers acks (n + suc k)) l) refl
