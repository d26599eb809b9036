-- Vectors of one length are a lattice.
use Rattle.std.proofs.Common.{◌≡◌, ℕ, zero, suc, ◌≤◌, List, [], ◌∷◌, length, Bool, true, refl, sym, ◌∙◌, arith}
use Rattle.std.specs.Prelude.{◌↔◌, IsTrue}
use Rattle.us_base.specs.Vector.{entry, at_most, AtMost, join, meet}
use Rattle.us_base.specs.Lattice.{IsLattice}
use Rattle.us_base.proofs.Vectors.{at_most-fact, fact-at_most, entry-join, entry-meet}

-- lists of one length with the same entries are the same
pub same_entries : (v w : List ℕ) → length v ≡ length w → ((i : ℕ) → entry v i ≡ entry w i) → v ≡ w
same_entries [] [] e h = refl
same_entries [] (y ∷ w) e h = absurd (omega arith)
same_entries (x ∷ v) [] e h = absurd (omega arith)
same_entries (x ∷ v) (y ∷ w) e h =
    let rest : v ≡ w = same_entries v w (omega arith) (λ i. h (suc i)) in
    λ i. h zero i ∷ rest i

-- the test tells the fact
pub at_most-tells : (b : Bool) (v w : List ℕ) → b ≡ at_most v w → IsTrue b ↔ AtMost v w
at_most-tells b v w e = (λ holds. at_most-fact v w (sym e ∙ holds), λ fact. e ∙ fact-at_most v w fact)

pub lattice : IsLattice
lattice = record {
  itself = λ v. record { below = λ i. omega arith };
  onward = λ u v w a b. record { below = λ i. omega (arith, a.below i, b.below i) };
  same = λ v w e a b. same_entries v w e (λ i. omega (arith, a.below i, b.below i));
  join_left = λ v w. record { below = λ i. omega (arith, entry-join v w i) };
  join_right = λ v w. record { below = λ i. omega (arith, entry-join v w i) };
  join_least = λ u v w a b. record { below = λ i. omega (arith, entry-join u v i, a.below i, b.below i) };
  meet_left = λ v w. record { below = λ i. omega (arith, entry-meet v w i) };
  meet_right = λ v w. record { below = λ i. omega (arith, entry-meet v w i) };
  meet_greatest = λ u v w a b. record { below = λ i. omega (arith, entry-meet v w i, a.below i, b.below i) };
}
