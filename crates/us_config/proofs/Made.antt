-- Lists of spaces, one more, and the lists that are made of them.
use Rattle.std.proofs.Common.{◌≡◌, ℕ, ◌+◌, ◌<◌, Bool, true, false, ◌||◌, cond, List, [], ◌∷◌, ◌++◌, map, length, take, get_or, Option, Some, None, refl, sym, ap, ◌∙◌, append_assoc, arith}
use Rattle.std.proofs.lemmas.Bool.Decides.{nat_tests}
use Rattle.std.specs.Prelude.{◌==◌}
use Rattle.std.specs.List.{flat_map}
use Rattle.std.proofs.lemmas.List.{append-nil, take_more, take-map, map-append}
use Rattle.std.proofs.lemmas.Grind.{flat_map-append}
use Rattle.us_value.specs.declared.operation.Kind.{Kind}
use Rattle.us_value.specs.Catalogs.{kind_in, EachSpaceOnce}
use Rattle.us_config.specs.declared.space.Space.{Space}
use Rattle.us_config.specs.Assembly.{kinds_of}
use Rattle.us_config.specs.Meaning.{is_taken, or_one_register}

-- ---- lists made item by item

map_more : {X Y : Type 0} (f : X → Y) (xs : List X) (i : ℕ) (d : X) → i < length xs → take (i + 1) (map f xs) ≡ take i (map f xs) ++ f (get_or xs i d) ∷ []
map_more {Y = Y} f xs i d lt =
    take-map f (i + 1) xs ∙ ap (map f) (take_more xs i d lt) ∙ map-append f (take i xs) (get_or xs i d ∷ []) ∙ ap (λ (ys : List Y). ys ++ f (get_or xs i d) ∷ []) (sym (take-map f i xs))

pub map_goes_on : {X Y : Type 0} (f : X → Y) (xs ys : List X) (i : ℕ) (d : X) (front old new : List Y) → ys ≡ xs → i < length ys → old ≡ front ++ take i (map f xs) → new ≡ old ++ f (get_or ys i d) ∷ [] → new ≡ front ++ take (i + 1) (map f xs)
map_goes_on {X = X} {Y = Y} f xs ys i d front old new same lt before is =
    is
    ∙ ap (λ (zs : List Y). zs ++ f (get_or ys i d) ∷ []) (before ∙ ap (λ (zs : List X). front ++ take i (map f zs)) (sym same))
    ∙ append_assoc front (take i (map f ys)) (f (get_or ys i d) ∷ [])
    ∙ ap (λ (zs : List Y). front ++ zs) (sym (map_more f ys i d lt))
    ∙ ap (λ (zs : List X). front ++ take (i + 1) (map f zs)) same

pub flat_goes_on : {X Y : Type 0} (f : X → List Y) (xs : List X) (i : ℕ) (x : X) (old new : List Y) → i < length xs → x ≡ get_or xs i x → old ≡ flat_map f (take i xs) → new ≡ old ++ f x → new ≡ flat_map f (take (i + 1) xs)
flat_goes_on {X = X} {Y = Y} f xs i x old new lt at before is =
    let last : take (i + 1) xs ≡ take i xs ++ x ∷ [] = take_more xs i x lt ∙ ap (λ (z : X). take i xs ++ z ∷ []) (sym at) in
    is
    ∙ ap (λ (zs : List Y). zs ++ f x) before
    ∙ ap (λ (zs : List Y). flat_map f (take i xs) ++ zs) (sym (append-nil (f x)))
    ∙ sym (flat_map-append f (take i xs) (x ∷ []))
    ∙ ap (λ (zs : List X). flat_map f zs) (sym last)

-- ---- each space stands once

or_false : (b c : Bool) → (b || c) ≡ false → (b ≡ false) × (c ≡ false)
or_false true c h = absurd (cc)
or_false false c h = (refl, h)

eq_swapped : (m n : ℕ) → (m == n) ≡ false → (n == m) ≡ false
eq_swapped m n h = grind (arith, nat_tests)

none_step : (b : Bool) (kind : Kind) (o p : Option Kind) → (o ≡ None → p ≡ None) → cond b (Some kind) o ≡ None → cond b (Some kind) p ≡ None
none_step true kind o p more h = absurd (cc)
none_step false kind o p more h = more h

none_behind : (spaces : List Space) (space : Space) (n : ℕ) → kind_in (kinds_of spaces) n ≡ None → (space.number == n) ≡ false → kind_in (kinds_of (spaces ++ space ∷ [])) n ≡ None
none_behind [] space n none other = rw other refl
none_behind (s ∷ spaces) space n none other =
    none_step (s.number == n) s.kind (kind_in (kinds_of spaces) n) (kind_in (kinds_of (spaces ++ space ∷ [])) n) (λ h. none_behind spaces space n h other) none

pub once_more : (spaces : List Space) (space : Space) → EachSpaceOnce (kinds_of spaces) → is_taken spaces space.number ≡ false → EachSpaceOnce (kinds_of (spaces ++ space ∷ []))
once_more [] space once free = (refl, tt)
once_more (s ∷ spaces) space once free =
    let both = or_false (s.number == space.number) (is_taken spaces space.number) free in
    (none_behind spaces space s.number once.0 (eq_swapped s.number space.number both.0), once_more spaces space once.1 both.1)
