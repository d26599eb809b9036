-- What a kind's proof uses of a history.
use Rattle.std.proofs.Common.{◌≡◌, List, [], ◌∷◌, Bool, true, false, refl, ap, ◌∙◌, inl, inr}
use Rattle.std.specs.Prelude.{◌||◌}
use Rattle.std.specs.List.{list_any}
use Rattle.us_kind.specs.Comparison.{In}
use Rattle.us_kind.specs.Updates.{All, Update, Stamped, update_of, updates_of}

-- what holds of each member holds of all
pub all_from : {X : Type 0} (P : X → Type 0) (xs : List X) → ((x : X) → In x xs → P x) → All P xs
all_from P [] each = tt
all_from P (x ∷ xs) each = (each x (inl refl), all_from P xs (λ y i. each y (inr i)))

pub all_weaker : {X : Type 0} (P Q : X → Type 0) → ((x : X) → P x → Q x) → (xs : List X) → All P xs → All Q xs
all_weaker P Q weaker [] all = tt
all_weaker P Q weaker (x ∷ xs) all = (weaker x all.0, all_weaker P Q weaker xs all.1)

-- some update passes exactly where some member does
pub in_any : {O E : Type 0} (p : Update O → Bool) (us : List (Stamped O E)) → list_any p (updates_of us) ≡ true
    → (u : Stamped O E) × In u us × (p (update_of u) ≡ true)
in_any p [] h = absurd (cc)
in_any {O} {E} p (u ∷ us) h = on (p (update_of u)) refl h (in_any p us)
  where
    on : (b : Bool) → p (update_of u) ≡ b → (b || list_any p (updates_of us)) ≡ true
        → (list_any p (updates_of us) ≡ true → (v : Stamped O E) × In v us × (p (update_of v) ≡ true))
        → (v : Stamped O E) × In v (u ∷ us) × (p (update_of v) ≡ true)
    on true e h again = (u, inl refl, e)
    on false e h again = let r = again h in (r.0, inr r.1, r.2)

pub any_in : {O E : Type 0} (p : Update O → Bool) (us : List (Stamped O E)) (u : Stamped O E) → In u us → p (update_of u) ≡ true
    → list_any p (updates_of us) ≡ true
any_in p [] u i h = absurd i
any_in p (v ∷ us) u (inl e) h = rw (ap (λ (w : Stamped _ _). p (update_of w)) e ∙ h) refl
any_in p (v ∷ us) u (inr i) h = on (p (update_of v)) (any_in p us u i h)
  where
    on : (b : Bool) → list_any p (updates_of us) ≡ true → (b || list_any p (updates_of us)) ≡ true
    on true e = refl
    on false e = e
