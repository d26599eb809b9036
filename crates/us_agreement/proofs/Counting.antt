-- How many sites pass.
use Rattle.std.proofs.Common.{◌≡◌, inl, inr, ⊎_elim, ℕ, zero, suc, ◌+◌, ◌-◌, ◌*◌, ◌<◌, ◌≤◌, List, [], ◌∷◌, length, filter, Bool, true, false, Option}
use Rattle.std.proofs.Common.{refl, sym, ap, subst, arith, true≢false}
use Rattle.std.specs.Prelude.{◌==◌, ◌||◌, ◌&&◌, nat_lt, slice_get}
use Rattle.std.proofs.lemmas.Bool.{cases_eq, eq-eqb, eqb-true, or_cases, and_parts, lt-ltb}
use Rattle.us_kind.specs.Comparison.{In}
use Rattle.us_ballot_model.specs.declared.log.PromisedLog.{PromisedLog}
use Rattle.us_ballot_model.specs.Ballots.{sites_from, sites, has_promised, at_least, flat, backers, ack_of}
use Rattle.us_agreement.specs.SiteCounts.{one_if, count}
use Rattle.us_agreement.proofs.Facts.{AllApart}

one_less : (a b : Bool) → (a ≡ true → b ≡ true) → one_if a ≤ one_if b
one_less true true h = omega arith
one_less true false h = absurd (true≢false (sym (h refl)))
one_less false b h = omega arith

pub count_less : (p q : ℕ → Bool) (xs : List ℕ) → ((z : ℕ) → p z ≡ true → q z ≡ true) → count p xs ≤ count q xs
count_less p q [] h = omega arith
count_less p q (x ∷ xs) h = let k = count_less p q xs h in let l = one_less (p x) (q x) (h x) in omega arith

-- one that passes the second test alone
pub count_more : (p q : ℕ → Bool) (xs : List ℕ) (y : ℕ) → ((z : ℕ) → p z ≡ true → q z ≡ true) → In y xs → q y ≡ true → p y ≡ false → count p xs + 1 ≤ count q xs
count_more p q [] y h i a b = absurd i
count_more p q (x ∷ xs) y h (inl e) a b =
    let k = count_less p q xs h in
    let u : one_if (p x) ≡ 0 = ap one_if (subst (λ z. p z ≡ false) (sym e) b) in
    let v : one_if (q x) ≡ 1 = ap one_if (subst (λ z. q z ≡ true) (sym e) a) in omega arith
count_more p q (x ∷ xs) y h (inr i) a b = let k = count_more p q xs y h i a b in let l = one_less (p x) (q x) (h x) in omega arith

pub site_within : (i k x : ℕ) → In x (sites_from i k) → (i ≤ x) × (x < i + k)
site_within i zero x h = absurd h
site_within i (suc k) x (inl e) = (omega arith, omega arith)
site_within i (suc k) x (inr h) = let r = site_within (i + 1) k x h in let a = r.0 in let b = r.1 in (omega arith, omega arith)

pub site_in : (i k x : ℕ) → i ≤ x → x < i + k → In x (sites_from i k)
site_in i zero x a b = absurd (omega arith)
site_in i (suc k) x a b = ⊎_elim (λ (e : i ≡ x). inl e) (λ (n : i ≡ x → ⊥). inr (site_in (i + 1) k x (omega arith) (omega arith))) (cases_eq i x)

pub length_sites : (i k : ℕ) → length (sites_from i k) ≡ k
length_sites i zero = refl
length_sites i (suc k) = ap suc (length_sites (i + 1) k)

-- f + 1 of the sites are more than half
pub majority_of : (f n : ℕ) → f < n → length (sites f) < 2 * n
majority_of f n h = let e = length_sites 1 (2 * f + 1) in omega arith

and_true : (a b : Bool) → a ≡ true → b ≡ true → (a && b) ≡ true
and_true a b e g = rw e g

-- PROMISES of different sites
has_promised_not : {E : Type 0} (vs : List (PromisedLog E)) (z : ℕ) → ((u : PromisedLog E) → In u vs → u.site ≡ z → ⊥) → has_promised vs z ≡ false
has_promised_not [] z h = refl
has_promised_not (v ∷ vs) z h = on (v.site == z) refl (has_promised_not vs z (λ u i e. h u (inr i) e))
  where
    on : (b : Bool) → (v.site == z) ≡ b → has_promised vs z ≡ false → (b || has_promised vs z) ≡ false
    on true e k = absurd (h v (inl refl) (eqb-true v.site z e))
    on false e k = k

or_right : (a b : Bool) → b ≡ true → (a || b) ≡ true
or_right true b e = refl
or_right false b e = e

or_left : (a b : Bool) → a ≡ true → (a || b) ≡ true
or_left a b e = rw e refl

pub promises_count : {E : Type 0} (vs : List (PromisedLog E)) (xs : List ℕ) → ((v : PromisedLog E) → In v vs → In v.site xs) → AllApart vs → length vs ≤ count (has_promised vs) xs
promises_count [] xs h a = omega arith
promises_count (v ∷ vs) xs h a =
    let k = promises_count vs xs (λ u i. h u (inr i)) a.1 in
    let l =
    count_more (has_promised vs) (has_promised (v ∷ vs)) xs v.site (λ z e. or_right (v.site == z) (has_promised vs z) e) (h v (inl refl))
    (or_left (v.site == v.site) (has_promised vs v.site) (eq-eqb v.site v.site refl)) (has_promised_not vs v.site a.0) in
    omega arith

pub has_promised_in : {E : Type 0} (vs : List (PromisedLog E)) (z : ℕ) → has_promised vs z ≡ true → (v : PromisedLog E) × In v vs × (v.site ≡ z)
has_promised_in [] z e = absurd (true≢false (sym e))
has_promised_in (v ∷ vs) z e = ⊎_elim (λ a. (v, inl refl, eqb-true v.site z a)) (λ a. let r = has_promised_in vs z a in (r.0, inr r.1, r.2)) (or_cases _ _ e)

-- ACKNOWLEDGEMENTS by place
none_reaches : (n : ℕ) (acks : List (Option ℕ)) → ((j : ℕ) → at_least n (flat (slice_get acks j)) ≡ true → ⊥) → backers acks n ≡ 0
none_reaches n [] h = refl
none_reaches n (a ∷ as') h = on (at_least n a) refl (none_reaches n as' (λ j. h (suc j)))
  where
    on : (b : Bool) → at_least n a ≡ b → backers as' n ≡ 0 → length (filter (at_least n) (a ∷ as')) ≡ 0
    on true e k = absurd (h 0 e)
    on false e k = rw e k

-- the places that reach n are of sites that pass
placed : (n : ℕ) (q : ℕ → Bool) (acks : List (Option ℕ)) (i k : ℕ)
    → ((j : ℕ) → at_least n (flat (slice_get acks j)) ≡ true → (j < k) × (q (i + j) ≡ true)) → backers acks n ≤ count q (sites_from i k)
placed n q [] i k h = omega arith
placed n q (a ∷ as') i zero h = let e = none_reaches n (a ∷ as') (λ j t. let x = (h j t).0 in omega arith) in omega arith
placed n q (a ∷ as') i (suc k) h =
    on (at_least n a) refl (placed n q as' (i + 1) k (λ j t. let x = h (suc j) t in let y = x.0
    in (omega arith, subst (λ z. q z ≡ true) (next j) x.1)))
  where
    next : (j : ℕ) → i + suc j ≡ i + 1 + j
    next j = omega arith

    first : at_least n a ≡ true → q i ≡ true
    first e = let x = h 0 e in let same : i + 0 ≡ i = omega arith in subst (λ z. q z ≡ true) same x.1

    on : (b : Bool) → at_least n a ≡ b → backers as' n ≤ count q (sites_from (i + 1) k) → backers (a ∷ as') n ≤ one_if (q i) + count q (sites_from (i + 1) k)
    on true e l = rw (e, first e) (omega arith)
    on false e l = rw e (omega arith)

-- site z has acknowledged n
abbrev pub acked : ℕ → List (Option ℕ) → ℕ → Bool
acked n acks z = nat_lt 0 z && at_least n (ack_of acks z)

-- the sites that have acknowledged n, and s
abbrev pub has : ℕ → ℕ → List (Option ℕ) → ℕ → Bool
has s n acks z = (z == s) || acked n acks z

pub backers_count : (f s n : ℕ) (acks : List (Option ℕ)) → In s (sites f)
    → ((j : ℕ) → at_least n (flat (slice_get acks j)) ≡ true → In (j + 1) (sites f) × (j + 1 ≡ s → ⊥)) → f ≤ backers acks n
    → f < count (has s n acks) (sites f)
backers_count f s n acks here h le =
    let others' =
    placed n (acked n acks) acks 1 (2 * f + 1) (λ j t. let x = site_within 1 (2 * f + 1) (j + 1) (h j t).0 in let y = x.1
    in (omega arith, shifted j t)) in
    let more =
    count_more (acked n acks) (has s n acks) (sites f) s (λ z e. or_right (z == s) (acked n acks z) e) here
    (or_left (s == s) (acked n acks s) (eq-eqb s s refl)) (own (acked n acks s) refl) in
    omega arith
  where
    shifted : (j : ℕ) → at_least n (flat (slice_get acks j)) ≡ true → acked n acks (1 + j) ≡ true
    shifted j t =
        let e : j ≡ 1 + j - 1 = omega arith in
        let some : 0 < 1 + j = omega arith in
        and_true (nat_lt 0 (1 + j)) _ (lt-ltb 0 (1 + j) some) (subst (λ z. at_least n (flat (slice_get acks z)) ≡ true) e t)

    own : (b : Bool) → acked n acks s ≡ b → acked n acks s ≡ false
    own true e =
        let x : In (s - 1 + 1) (sites f) × (s - 1 + 1 ≡ s → ⊥) = h (s - 1) (and_parts (nat_lt 0 s) (at_least n (ack_of acks s)) e).1 in
        let w = site_within 1 (2 * f + 1) s here in
        let y = w.0 in
        let same : s - 1 + 1 ≡ s = omega arith in absurd (x.1 same)
    own false e = e
