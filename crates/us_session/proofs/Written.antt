-- The partitions that are written, one after another.
use Rattle.std.proofs.Common.{◌≡◌, ℕ, ◌+◌, List, [], ◌∷◌, ◌++◌, Bool, filter, map, refl, ap, sym, ◌∙◌, cond}
use Rattle.std.specs.List.{range_with_len}
use Rattle.std.proofs.lemmas.List.FromFn.{filter_of_map_range_with_len_more}

same_map : (xs : List ℕ) → map (λ x. x) xs ≡ xs
same_map [] = refl
same_map (x ∷ xs) = ap (λ ys. x ∷ ys) (same_map xs)

-- those of one more number that pass
pub filter_more : (p : ℕ → Bool) (a n : ℕ) → filter p (range_with_len a (n + 1)) ≡ filter p (range_with_len a n) ++ cond (p (a + n)) ((a + n) ∷ []) []
filter_more p a n =
    ap (filter p) (sym (same_map (range_with_len a (n + 1))))
    ∙ filter_of_map_range_with_len_more p (λ x. x) a n (a + n) refl
    ∙ ap (λ xs. filter p xs ++ cond (p (a + n)) ((a + n) ∷ []) []) (same_map (range_with_len a n))
