-- A message to each other site, one after another.
use Rattle.std.proofs.Common.{◌≡◌, ℕ, suc, ◌+◌, ◌-◌, ◌<◌, List, [], ◌∷◌, ◌++◌, append_assoc, map, filter, refl, sym, ap, ◌∙◌, arith}
use Rattle.std.specs.Prelude.{◌==◌, not}
use Rattle.std.proofs.lemmas.Bool.{eq-eqb, ne_eqb}
use Rattle.us_ballot_model.specs.Ballots.{sites_from}

-- the messages to the sites from j on and below n, other than s
abbrev pub rest_of : {M : Type 0} → ℕ → M → ℕ → ℕ → List (ℕ × M)
rest_of s m j n = map (λ i. (i, m)) (filter (λ i. not (i == s)) (sites_from j (n - j)))

pub sites_turn : (j n : ℕ) → j < n → sites_from j (n - j) ≡ j ∷ sites_from (j + 1) (n - (j + 1))
sites_turn j n h = let e : n - j ≡ suc (n - (j + 1)) = omega arith in ap (sites_from j) e

-- the own site gets none
pub skip_own : {M : Type 0} (s : ℕ) (m : M) (j n : ℕ) → j < n → j ≡ s → rest_of s m (j + 1) n ≡ rest_of s m j n
skip_own s m j n h e = sym (ap (λ l. map (λ i. (i, m)) (filter (λ i. not (i == s)) l)) (sites_turn j n h) ∙ rw (eq-eqb j s e) refl)

-- another one is next
pub send_next : {M : Type 0} (xs : List (ℕ × M)) (s : ℕ) (m : M) (j n : ℕ) → j < n → (j ≡ s → ⊥) → (xs ++ (j, m) ∷ []) ++ rest_of s m (j + 1) n ≡ xs ++ rest_of s m j n
send_next xs s m j n h e =
    append_assoc xs ((j, m) ∷ []) (rest_of s m (j + 1) n) ∙ ap (λ l. xs ++ l) (sym (ap (λ l. map (λ i. (i, m)) (filter (λ i. not (i == s)) l)) (sites_turn j n h) ∙ rw (ne_eqb j s e) refl))
