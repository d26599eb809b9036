-- What is told to one other site after another.
use Rattle.std.proofs.Common.{◌≡◌, ℕ, ◌+◌, ◌-◌, ◌<◌, List, [], ◌∷◌, ◌++◌, append_assoc, map, filter, Bool, true, false, refl, sym, ap, ◌∙◌}
use Rattle.std.specs.Prelude.{◌==◌, not, if◌then◌else◌}
use Rattle.std.specs.List.{flat_map}
use Rattle.std.proofs.lemmas.Bool.{eq-eqb, ne_eqb}
use Rattle.us_ballot_model.specs.Ballots.{sites_from}
use Rattle.us_ballot.proofs.Sending.{sites_turn}

-- what the sites from j on and below n, other than s, are told
abbrev pub all_of : {M : Type 0} → (ℕ → List M) → ℕ → ℕ → ℕ → List M
all_of g s j n = flat_map g (filter (λ i. not (i == s)) (sites_from j (n - j)))

pub all_own : {M : Type 0} (g : ℕ → List M) (s j n : ℕ) → j < n → j ≡ s → all_of g s (j + 1) n ≡ all_of g s j n
all_own g s j n h e = sym (ap (λ l. flat_map g (filter (λ i. not (i == s)) l)) (sites_turn j n h) ∙ rw (eq-eqb j s e) refl)

pub all_next : {M : Type 0} (xs : List M) (g : ℕ → List M) (s j n : ℕ) → j < n → (j ≡ s → ⊥) → (xs ++ g j) ++ all_of g s (j + 1) n ≡ xs ++ all_of g s j n
all_next xs g s j n h e =
    append_assoc xs (g j) (all_of g s (j + 1) n) ∙ ap (λ l. xs ++ l) (sym (ap (λ l. flat_map g (filter (λ i. not (i == s)) l)) (sites_turn j n h) ∙ rw (ne_eqb j s e) refl))

-- who of the sites from j on and below n, other than s, passes, and is told m
abbrev pub asked : {M : Type 0} → (ℕ → Bool) → M → ℕ → ℕ → ℕ → List (ℕ × M)
asked p m s j n = map (λ i. (i, m)) (filter p (filter (λ i. not (i == s)) (sites_from j (n - j))))

ask_own_rest : {M : Type 0} (p : ℕ → Bool) (m : M) (s j n : ℕ) → j < n → j ≡ s → asked p m s (j + 1) n ≡ asked p m s j n
ask_own_rest p m s j n h e = sym (ap (λ l. map (λ i. (i, m)) (filter p (filter (λ i. not (i == s)) l))) (sites_turn j n h) ∙ rw (eq-eqb j s e) refl)

pub ask_own : {M : Type 0} (xs : List (ℕ × M)) (p : ℕ → Bool) (m : M) (s j n : ℕ) → j < n → j ≡ s → xs ++ asked p m s (j + 1) n ≡ xs ++ asked p m s j n
ask_own xs p m s j n h e = ap (λ l. xs ++ l) (ask_own_rest p m s j n h e)

ask_none_rest : {M : Type 0} (p : ℕ → Bool) (m : M) (s j n : ℕ) → j < n → p j ≡ false → asked p m s (j + 1) n ≡ asked p m s j n
ask_none_rest p m s j n h f = sym (ap (λ l. map (λ i. (i, m)) (filter p (filter (λ i. not (i == s)) l))) (sites_turn j n h) ∙ on (j == s))
  where
    on : (b : Bool) → map (λ i. (i, m)) (filter p (if not b then j ∷ filter (λ i. not (i == s)) (sites_from (j + 1) (n - (j + 1))) else filter (λ i. not (i == s)) (sites_from (j + 1) (n - (j + 1))))) ≡ asked p m s (j + 1) n
    on true = refl
    on false = rw f refl

pub ask_none : {M : Type 0} (xs : List (ℕ × M)) (p : ℕ → Bool) (m : M) (s j n : ℕ) → j < n → p j ≡ false → xs ++ asked p m s (j + 1) n ≡ xs ++ asked p m s j n
ask_none xs p m s j n h f = ap (λ l. xs ++ l) (ask_none_rest p m s j n h f)

pub ask_next : {M : Type 0} (xs : List (ℕ × M)) (p : ℕ → Bool) (m : M) (s j n : ℕ) → j < n → (j ≡ s → ⊥) → p j ≡ true → (xs ++ (j, m) ∷ []) ++ asked p m s (j + 1) n ≡ xs ++ asked p m s j n
ask_next xs p m s j n h e f =
    append_assoc xs ((j, m) ∷ []) (asked p m s (j + 1) n) ∙ ap (λ l. xs ++ l) (sym (ap (λ l. map (λ i. (i, m)) (filter p (filter (λ i. not (i == s)) l))) (sites_turn j n h) ∙ rw (ne_eqb j s e, f) refl))
