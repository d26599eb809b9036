-- Membership, and lists that go on.
use Rattle.std.proofs.Common.{◌≡◌, ◌⊎◌, ℕ, zero, suc, List, [], ◌∷◌, ◌++◌, Bool, true, false, refl, sym, ap, ◌∙◌, subst, inl, inr, cond, ⊎_elim, true≢false, append-nil, append_assoc}
use Rattle.std.specs.Prelude.{filter, slice_get, Some, map}
use Rattle.us_kind.specs.Comparison.{In}

pub in_front : {X : Type 0} (x : X) (xs ys : List X) → In x xs → In x (xs ++ ys)
in_front x [] ys h = absurd h
in_front x (y ∷ xs) ys (inl e) = inl e
in_front x (y ∷ xs) ys (inr h) = inr (in_front x xs ys h)

pub in_back : {X : Type 0} (x : X) (xs ys : List X) → In x ys → In x (xs ++ ys)
in_back x [] ys h = h
in_back x (y ∷ xs) ys h = inr (in_back x xs ys h)

pub in_either : {X : Type 0} (x : X) (xs ys : List X) → In x (xs ++ ys) → In x xs ⊎ In x ys
in_either x [] ys h = inr h
in_either x (y ∷ xs) ys (inl e) = inl (inl e)
in_either x (y ∷ xs) ys (inr h) = ⊎_elim (λ a. inl (inr a)) (λ b. inr b) (in_either x xs ys h)

-- one more at the end
pub in_push : {X : Type 0} (P : X → Type 0) (xs : List X) (y : X) → ((x : X) → In x xs → P x) → P y → (x : X) → In x (xs ++ y ∷ []) → P x
in_push P xs y old new x h = ⊎_elim (λ a. old x a) (λ b. ⊎_elim (λ e. subst P e new) (λ n. absurd n) b) (in_either x xs (y ∷ []) h)

pub in_append : {X : Type 0} (P : X → Type 0) (xs ys : List X) → ((x : X) → In x xs → P x) → ((x : X) → In x ys → P x) → (x : X) → In x (xs ++ ys) → P x
in_append P xs ys old new x h = ⊎_elim (λ a. old x a) (λ b. new x b) (in_either x xs ys h)

-- one item alone
pub in_one : {X : Type 0} (P : X → Type 0) (y : X) → P y → (x : X) → In x (y ∷ []) → P x
in_one P y new x (inl e) = subst P e new
in_one P y new x (inr n) = absurd n

-- in a list with one more at its end
pub in_split : {X : Type 0} (x : X) (xs : List X) (y : X) → In x (xs ++ y ∷ []) → In x xs ⊎ (y ≡ x)
in_split x xs y h = ⊎_elim (λ a. inl a) (λ b. ⊎_elim (λ e. inr e) (λ n. absurd n) b) (in_either x xs (y ∷ []) h)

pub in_old : {X : Type 0} (x : X) (xs : List X) (y : X) → (y ≡ x → ⊥) → In x (xs ++ y ∷ []) → In x xs
in_old x xs y apart h = ⊎_elim (λ a. a) (λ b. absurd (apart b)) (in_split x xs y h)

pub in_last : {X : Type 0} (xs : List X) (y : X) → In y (xs ++ y ∷ [])
in_last xs y = in_back y xs (y ∷ []) (inl refl)

pub in_filter : {X : Type 0} (test : X → Bool) (x : X) (xs : List X) → In x (filter test xs) → In x xs × (test x ≡ true)
in_filter test x [] h = absurd h
in_filter test x (y ∷ xs) h = on (test y) refl (in_filter test x xs) h
  where
    on : (b : Bool) → test y ≡ b → (In x (filter test xs) → In x xs × (test x ≡ true)) → In x (cond b (y ∷ filter test xs) (filter test xs)) → In x (y ∷ xs) × (test x ≡ true)
    on true e again (inl s) = (inl s, ap test (sym s) ∙ e)
    on true e again (inr i) = (inr (again i).0, (again i).1)
    on false e again i = (inr (again i).0, (again i).1)

pub filter_in : {X : Type 0} (test : X → Bool) (x : X) (xs : List X) → In x xs → test x ≡ true → In x (filter test xs)
filter_in test x [] h e = absurd h
filter_in test x (y ∷ xs) h e = on (test y) refl (filter_in test x xs) h
  where
    on : (b : Bool) → test y ≡ b → (In x xs → test x ≡ true → In x (filter test xs)) → In x (y ∷ xs) → In x (cond b (y ∷ filter test xs) (filter test xs))
    on true s again (inl i) = inl i
    on true s again (inr i) = inr (again i e)
    on false s again (inl i) = absurd (true≢false (sym e ∙ ap test (sym i) ∙ s))
    on false s again (inr i) = again i e

pub in_map : {X Y : Type 0} (f : X → Y) (x : X) (xs : List X) → In x xs → In (f x) (map f xs)
in_map f x [] h = absurd h
in_map f x (y ∷ xs) (inl e) = inl (ap f e)
in_map f x (y ∷ xs) (inr h) = inr (in_map f x xs h)

-- what an item of a mapped list comes from
pub record FromMap {X Y : Type 0} (f : X → Y) (y : Y) (xs : List X) : Type 0 where
  pub source : X
  pub here : In source xs
  pub is : f source ≡ y

pub from_map : {X Y : Type 0} (f : X → Y) (y : Y) (xs : List X) → In y (map f xs) → FromMap f y xs
from_map f y [] h = absurd h
from_map f y (x ∷ xs) (inl e) = record { source = x; here = inl refl; is = e }
from_map f y (x ∷ xs) (inr h) = let g = from_map f y xs h in record { source = g.source; here = inr g.here; is = g.is }

pub in_got : {X : Type 0} (xs : List X) (k : ℕ) (x : X) → slice_get xs k ≡ Some x → In x xs
in_got [] k x e = absurd (cc)
in_got (y ∷ xs) zero x e = inl (cc)
in_got (y ∷ xs) (suc k) x e = inr (in_got xs k x e)

-- ys goes on from xs
pub record IsPrefix {X : Type 0} (xs ys : List X) : Type 0 where
  pub rest : List X
  pub is : ys ≡ xs ++ rest

abbrev pub prefix_refl : {X : Type 0} (xs : List X) → IsPrefix xs xs
prefix_refl xs = record { rest = []; is = sym (append-nil xs) }

abbrev pub prefix_append : {X : Type 0} (xs ys : List X) → IsPrefix xs (xs ++ ys)
prefix_append xs ys = record { rest = ys; is = refl }

abbrev pub prefix_trans : {X : Type 0} {xs ys zs : List X} → IsPrefix xs ys → IsPrefix ys zs → IsPrefix xs zs
prefix_trans {xs = xs} g h = record { rest = g.rest ++ h.rest; is = h.is ∙ ap (λ l. l ++ h.rest) g.is ∙ append_assoc xs g.rest h.rest }

pub in_later : {X : Type 0} {xs ys : List X} (x : X) → IsPrefix xs ys → In x xs → In x ys
in_later {xs = xs} x g i = subst (In x) (sym g.is) (in_front x xs g.rest i)

-- what stands in the longer list is old or new
pub in_grown : {X : Type 0} {xs ys : List X} (x : X) (g : IsPrefix xs ys) → In x ys → In x xs ⊎ In x g.rest
in_grown {xs = xs} x g i = in_either x xs g.rest (subst (In x) g.is i)
