-- The set of places has a pair exactly where the list of pairs has it.
use Rattle.std.proofs.Common.{◌≡◌, ℕ, Bool, true, false, List, [], ◌∷◌, Option, Some, None, refl, ap, sym, ◌∙◌, ◌+◌, ◌<◌, ◌↔◌, add-one, arith, cond, drop, drop-cons, get_or, length}
use Rattle.std.proofs.lemmas.Bool.Decides.{nat_tests}
use Rattle.std.proofs.lemmas.Iterator.Adapters.{position_from-zero}
use Rattle.std.specs.BTreeSet.{BTreeSet, contains}
use Rattle.std.specs.List.{list_any, position, position_from}
use Rattle.std.specs.Ordering.{is_eq, nat_cmp, ordering_then}
use Rattle.std.specs.declared.cmp.Ordering.{Ordering}
use Rattle.std.specs.declared.cmp.Ordering.TheVariants.{Less, Equal, Greater}
use Rattle.std.specs.Prelude.{◌==◌, ◌&&◌, ◌||◌}
use Rattle.us_conflict.specs.Conflicts.{declares, is_pair}
use Rattle.us_conflict.specs.Places.{is_place, place_of, stands_in}
use Rattle.us_value.specs.declared.operation.Class.{Class}

abbrev place_cmp : ℕ × ℕ × ℕ → ℕ × ℕ × ℕ → Ordering
place_cmp a b = ordering_then (ordering_then (nat_cmp a.0 b.0) (nat_cmp a.1 b.1)) (nat_cmp a.2 b.2)

is_eq-then : (o p : Ordering) → is_eq (ordering_then o p) ≡ (is_eq o && is_eq p)
is_eq-then Less p = refl
is_eq-then Equal p = refl
is_eq-then Greater p = refl

same : (a b : ℕ) → is_eq (nat_cmp a b) ≡ (a == b)
same a b = grind (arith, nat_tests)

flipped : (a b : ℕ) → is_eq (nat_cmp a b) ≡ (b == a)
flipped a b = grind (arith, nat_tests)

any_same : {X : Type 0} (p q : X → Bool) → ((x : X) → p x ≡ q x) → (xs : List X) → list_any p xs ≡ list_any q xs
any_same p q each [] = refl
any_same p q each (x ∷ xs) = λ i. each x i || any_same p q each xs i

-- the order tells places apart
tie : (a b : ℕ × ℕ × ℕ) → is_eq (place_cmp a b) ≡ (((a.0 == b.0) && (a.1 == b.1)) && (a.2 == b.2))
tie a b =
    is_eq-then (ordering_then (nat_cmp a.0 b.0) (nat_cmp a.1 b.1)) (nat_cmp a.2 b.2)
    ∙ ap (λ t. t && is_eq (nat_cmp a.2 b.2)) (is_eq-then (nat_cmp a.0 b.0) (nat_cmp a.1 b.1))
    ∙ (λ i. ((same a.0 b.0 i && same a.1 b.1 i) && same a.2 b.2 i))

tie_flipped : (a b : ℕ × ℕ × ℕ) → is_eq (place_cmp a b) ≡ (((b.0 == a.0) && (b.1 == a.1)) && (b.2 == a.2))
tie_flipped a b =
    is_eq-then (ordering_then (nat_cmp a.0 b.0) (nat_cmp a.1 b.1)) (nat_cmp a.2 b.2)
    ∙ ap (λ t. t && is_eq (nat_cmp a.2 b.2)) (is_eq-then (nat_cmp a.0 b.0) (nat_cmp a.1 b.1))
    ∙ (λ i. ((flipped a.0 b.0 i && flipped a.1 b.1 i) && flipped a.2 b.2 i))

-- what the set tells of a place
pub contains-place : (places : BTreeSet (ℕ × ℕ × ℕ)) (space : ℕ) (a b : Class) → contains place_cmp places (place_of space a b) ≡ stands_in places.keys space a b
contains-place places space a b = any_same _ (is_place space a b) (tie (place_of space a b)) places.keys

drop-turn : (pairs : List (ℕ × Class × Class)) (i : ℕ) (d : ℕ × Class × Class) → i < length pairs → drop i pairs ≡ get_or pairs i d ∷ drop (i + 1) pairs
drop-turn pairs i d within = rw add-one (drop-cons pairs i d within)

or_turn : (t u old new rest whole : Bool) → new ≡ cond t true old → t ≡ u → (old || (u || rest)) ≡ whole → (new || rest) ≡ whole
or_turn true u old new rest whole put e h = grind (arith, put, e, h)
or_turn false u old new rest whole put e h = grind (arith, put, e, h)

-- a pair was put in
pub after_put : (old new : BTreeSet (ℕ × ℕ × ℕ)) (place : ℕ × ℕ × ℕ) (pairs : List (ℕ × Class × Class)) (i : ℕ) (d : ℕ × Class × Class) (space : ℕ) (a b : Class) (whole : Bool)
    → i < length pairs → place ≡ place_of (get_or pairs i d).0 (get_or pairs i d).1 (get_or pairs i d).2
    → contains place_cmp new (place_of space a b) ≡ cond (is_eq (place_cmp place (place_of space a b))) true (contains place_cmp old (place_of space a b))
    → (stands_in old.keys space a b || list_any (λ p. is_pair p space a b) (drop i pairs)) ≡ whole
    → (stands_in new.keys space a b || list_any (λ p. is_pair p space a b) (drop (i + 1) pairs)) ≡ whole
after_put old new place pairs i d space a b whole within is put kept =
    let pair = get_or pairs i d in
    or_turn (is_eq (place_cmp place (place_of space a b))) (is_pair pair space a b) (stands_in old.keys space a b) (stands_in new.keys space a b) _ whole
    (sym (contains-place new space a b) ∙ put ∙ ap (cond (is_eq (place_cmp place (place_of space a b))) true) (contains-place old space a b))
    (ap (λ p. is_eq (place_cmp p (place_of space a b))) is ∙ tie_flipped (place_of pair.0 pair.1 pair.2) (place_of space a b))
    (ap (λ ps. stands_in old.keys space a b || list_any (λ p. is_pair p space a b) ps) (sym (drop-turn pairs i d within)) ∙ kept)

-- in one order or in the other
pub either_order : {X : Type 0} (p q : X → Bool) (xs : List X) → (list_any p xs || list_any q xs) ≡ list_any (λ x. p x || q x) xs
either_order p q [] = refl
either_order p q (x ∷ xs) = on (p x) (q x) (list_any p xs) (list_any q xs) _ (either_order p q xs)
  where
    on : (a b c d e : Bool) → (c || d) ≡ e → ((a || c) || (b || d)) ≡ ((a || b) || e)
    on true b c d e h = refl
    on false true true d e h = refl
    on false true false d e h = refl
    on false false c d e h = h

pub declared-first : (first second whole result : Bool) → result ≡ first → result ≡ true → (first || second) ≡ whole → result ≡ whole
declared-first first second whole result is found both = found ∙ sym (ap (λ b. b || second) (sym is ∙ found)) ∙ both

pub declared-second : (first second whole one result : Bool) → one ≡ first → one ≡ false → result ≡ second → (first || second) ≡ whole → result ≡ whole
declared-second first second whole one result is missed other both = other ∙ sym (ap (λ b. b || second) (sym is ∙ missed)) ∙ both

-- what stands there in one order or the other is declared
pub declared-either : (places : List (ℕ × ℕ × ℕ)) (pairs : List (ℕ × Class × Class)) → ((space : ℕ) (a b : Class) → stands_in places space a b ≡ list_any (λ pair. is_pair pair space a b) pairs)
    → (space : ℕ) (a b : Class) → (stands_in places space a b || stands_in places space b a) ≡ declares pairs space a b
declared-either places pairs kept space a b = (λ i. kept space a b i || kept space b a i) ∙ either_order (λ pair. is_pair pair space a b) (λ pair. is_pair pair space b a) pairs

none_from : {X : Type 0} (p : X → Bool) (i : ℕ) (xs : List X) → (position_from p i xs ≡ None) ↔ (list_any p xs ≡ false)
none_from p i [] = ((λ _. refl), (λ _. refl))
none_from p i (x ∷ xs) = on (p x) (none_from p (i + 1) xs)
  where
    on : (b : Bool) → (position_from p (i + 1) xs ≡ None) ↔ (list_any p xs ≡ false) → (cond b (Some i) (position_from p (i + 1) xs) ≡ None) ↔ ((b || list_any p xs) ≡ false)
    on true rest = ((λ e. absurd (cc)), (λ e. absurd (cc)))
    on false rest = rest

-- there is a first place exactly where there is some
pub position-none : {X : Type 0} (p : X → Bool) (xs : List X) (found : Option ℕ) → found ≡ position p xs → (found ≡ None) ↔ (list_any p xs ≡ false)
position-none p xs found is =
    let from = is ∙ position_from-zero p xs in
    let none = none_from p 0 xs in
    ((λ e. none.0 (sym from ∙ e)), (λ e. from ∙ none.1 e))

or_flipped : (s t : Bool) → (s || t) ≡ (t || s)
or_flipped true true = refl
or_flipped true false = refl
or_flipped false true = refl
or_flipped false false = refl

-- the order of the classes makes no difference
pub declares-flipped : (pairs : List (ℕ × Class × Class)) (space : ℕ) (a b : Class) → declares pairs space a b ≡ declares pairs space b a
declares-flipped pairs space a b = any_same _ _ (λ pair. or_flipped (is_pair pair space a b) (is_pair pair space b a)) pairs
