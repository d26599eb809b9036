-- Tests of sessions, of transactions, and of lists.
use Rattle.std.proofs.Common.{◌≡◌, ◌⊎◌, inl, inr, List, [], ◌∷◌, Bool, true, false, ◌||◌, cond, refl, sym, ap, ◌∙◌, arith, true≢false}
use Rattle.std.specs.List.{list_any}
use Rattle.std.proofs.lemmas.Bool.{and_parts, eqb-true}
use Rattle.us_kind.specs.Comparison.{In, tid_eq}
use Rattle.us_kind.specs.declared.identity.Tid.{Tid}
use Rattle.us_kind.proofs.TestLemmas.{tid_eq-true}
use Rattle.us_exec.specs.declared.SessionName.{SessionName}
use Rattle.us_exec.specs.Past.{session_eq}

pub session_eq-true : (a b : SessionName) → session_eq a b ≡ true → a ≡ b
session_eq-true a b h =
    let e = and_parts _ _ h in let f =
    and_parts _ _ e.1 in let e0 =
    eqb-true _ _ e.0 in let e1 = eqb-true _ _ f.0 in let e2 = eqb-true _ _ f.1 in λ i. record { site = e0 i; coord = e1 i; number = e2 i }

pub session_eq-same : (s : SessionName) → session_eq s s ≡ true
session_eq-same s = grind arith

pub or_parts : (a b : Bool) → (a || b) ≡ true → (a ≡ true) ⊎ (b ≡ true)
or_parts true b e = inl refl
or_parts false b e = inr e

pub or_left : (a b : Bool) → a ≡ true → (a || b) ≡ true
or_left a b e = rw e refl

pub or_right : (a b : Bool) → b ≡ true → (a || b) ≡ true
or_right true b e = refl
or_right false b e = e

-- an item that passes
pub record Witness {X : Type 0} (test : X → Bool) (xs : List X) : Type 0 where
  pub item : X
  pub here : In item xs
  pub passes : test item ≡ true

pub any-found : {X : Type 0} (test : X → Bool) (xs : List X) → list_any test xs ≡ true → Witness test xs
any-found test [] h = absurd (true≢false (sym h))
any-found test (x ∷ xs) h = on (test x) refl h (any-found test xs)
  where
    on : (b : Bool) → test x ≡ b → (b || list_any test xs) ≡ true → (list_any test xs ≡ true → Witness test xs) → Witness test (x ∷ xs)
    on true e h again = record { item = x; here = inl refl; passes = e }
    on false e h again = let f = again h in record { item = f.item; here = inr f.here; passes = f.passes }

pub found-any : {X : Type 0} (test : X → Bool) (xs : List X) (x : X) → In x xs → test x ≡ true → list_any test xs ≡ true
found-any test [] x h e = absurd h
found-any test (y ∷ xs) x (inl s) e = or_left _ _ (ap test s ∙ e)
found-any test (y ∷ xs) x (inr h) e = or_right _ _ (found-any test xs x h e)

pub cond-first : {X : Type 0} (b : Bool) (x y : X) → b ≡ true → cond b x y ≡ x
cond-first true x y e = refl
cond-first false x y e = absurd (true≢false (sym e))

pub cond-second : {X : Type 0} (b : Bool) (x y : X) → b ≡ false → cond b x y ≡ y
cond-second true x y e = absurd (true≢false e)
cond-second false x y e = refl

pub apart-test : (a b : Tid) → (a ≡ b → ⊥) → tid_eq a b ≡ false
apart-test a b h = on (tid_eq a b) refl
  where
    on : (t : Bool) → tid_eq a b ≡ t → t ≡ false
    on true e = absurd (h (tid_eq-true a b e))
    on false e = refl
