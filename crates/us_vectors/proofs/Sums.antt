-- Counts, met vectors and greatest numbers of lists that are put together.
use Rattle.std.proofs.Common.{◌≡◌, ◌∙◌, ℕ, suc, ◌+◌, ◌-◌, ◌≤◌, List, [], ◌∷◌, ◌++◌, length, take, drop, refl, ap, arith, add-one}
use Rattle.std.proofs.lemmas.Slice.{between_to_end}
use Rattle.us_base.specs.Vector.{meet}
use Rattle.us_vectors.specs.Tables.{others, meet_all}
use Rattle.us_vectors.specs.Counts.{reaching, better, most_reached}

pub meet_all_append : (v : List ℕ) (xs ys : List (List ℕ)) → meet_all v (xs ++ ys) ≡ meet_all (meet_all v xs) ys
meet_all_append v [] ys = refl
meet_all_append v (x ∷ xs) ys = meet_all_append (meet v x) xs ys

pub reaching_append : (n : ℕ) (xs ys : List ℕ) → reaching n (xs ++ ys) ≡ reaching n xs + reaching n ys
reaching_append n [] ys = omega arith
reaching_append n (x ∷ xs) ys = let e = reaching_append n xs ys in omega arith

pub most_reached_append : (f : ℕ) (all : List ℕ) (best : ℕ) (xs ys : List ℕ)
    → most_reached f all best (xs ++ ys) ≡ most_reached f all (most_reached f all best xs) ys
most_reached_append f all best [] ys = refl
most_reached_append f all best (x ∷ xs) ys = most_reached_append f all (better f all best x) xs ys

-- what stands before a place and what stands after it are the others
pub split_others : {A : Type 0} (xs : List A) (m n : ℕ) → m ≡ n → 1 ≤ n → n ≤ length xs
    → take (m - 1) xs ++ take (length xs - (m - 1 + 1)) (drop (m - 1 + 1) xs) ≡ others n xs
split_others xs m n e some within =
    ap (λ l. take (m - 1) xs ++ l) (between_to_end xs (m - 1 + 1) (length xs) (omega (arith, e)))
    ∙ ap (λ k. take (m - 1) xs ++ drop k xs) (add-one (m - 1))
    ∙ ap (λ k. take (k - 1) xs ++ drop (suc (k - 1)) xs) e
