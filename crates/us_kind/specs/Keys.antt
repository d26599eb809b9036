-- The keys of a finite map at which the value passes a test.
use Rattle.std.proofs.Common.{◌≡◌, List, [], ◌∷◌, Bool, true, false, cond, refl, sym, ap, ◌∙◌, subst, true≢false, inl, inr, T}
use Rattle.std.specs.Prelude.{ℕ, Option, Some, None, unwrap_or, filter, map, ◌||◌, ◌&&◌}
use Rattle.std.specs.List.{list_any}
use Rattle.std.specs.Cmp.{IsTotalOrder}
use Rattle.std.specs.FinMap.{FinMap, IsAntisymmetric, entries, find, get-entries, entries_sorted, is_sorted}
use Rattle.std.specs.FinMap.Entries.{below_all}
use Rattle.std.specs.Ordering.{eq_by_cmp, is_eq, is_lt}
use Rattle.std.specs.declared.cmp.Ordering.{Ordering}
use Rattle.std.specs.declared.cmp.Ordering.TheVariants.{Less, Equal, Greater}
use Rattle.std.specs.Cmp.Lexicographic.{slice_cmp}
use Rattle.std.specs.Ordering.{nat_cmp}
use Rattle.us_kind.specs.Ascending.{Rises}
use Rattle.us_kind.specs.Orders.{bytes_less-cmp}
use Rattle.us_kind.specs.Updates.{All}
use Rattle.us_kind.specs.Comparison.{In, bytes_less}
use Rattle.us_kind.specs.Defaults.{value_at, key_same, key_itself}

-- the keys of the entries whose values pass
abbrev pub keys_where : {K X : Type 0} → (X → Bool) → List (K × X) → List K
keys_where p es = map (λ e. e.0) (filter (λ e. p e.1) es)

-- the map holds a value that passes at the key
record Passing {K X : Type 0} (R : K → K → Ordering) (p : X → Bool) (es : List (K × X)) (k : K) : Type 0 where
  value : X
  found : find R k es ≡ Some value
  passes : p value ≡ true

first : (a b : Bool) → T (a && b) → T a
first true b h = tt
first false b h = h

second : (a b : Bool) → T (a && b) → T b
second true b h = h
second false b h = absurd h

less : (r : Ordering) → T (is_lt r) → r ≡ Less
less Less h = refl
less Equal h = absurd h
less Greater h = absurd h

is_true : (b : Bool) → T b → b ≡ true
is_true true h = refl
is_true false h = absurd h

equal : (r : Ordering) → is_eq r ≡ true → r ≡ Equal
equal Less e = absurd (cc)
equal Equal e = refl
equal Greater e = absurd (cc)

-- keys that tie don't stand before one another
not_both : {K : Type 0} {R : K → K → Ordering} (o : IsTotalOrder R) (k x y : K) → R k x ≡ Equal → R k y ≡ Equal → R x y ≡ Less → ⊥
not_both o k x y e f l = let g = o.congr k x y e in absurd (cc)

module _ {K X : Type 0} {R : K → K → Ordering} (o : IsTotalOrder R) (p : X → Bool) where
  -- what stands in a map whose keys are all above x isn't x
  apart : (x k : K) (v : X) (es : List (K × X)) → T (below_all R x es) → find R k es ≡ Some v → eq_by_cmp R k x ≡ false
  apart x k v [] below e = absurd (cc)
  apart x k v (f ∷ es) below e = on (eq_by_cmp R k x) (eq_by_cmp R k f.0) refl refl e (apart x k v es (second _ _ below))
    where
      on : (b c : Bool) → eq_by_cmp R k x ≡ b → eq_by_cmp R k f.0 ≡ c → cond c (Some f.1) (find R k es) ≡ Some v
          → (find R k es ≡ Some v → eq_by_cmp R k x ≡ false) → eq_by_cmp R k x ≡ false
      on false c eb ec e again = eb
      on true true eb ec e again = absurd (not_both o k x f.0 (equal _ eb) (equal _ ec) (less _ (first _ _ below)))
      on true false eb ec e again = again e

  in_keys : (es : List (K × X)) (k : K) → T (is_sorted R es) → In k (keys_where p es) → Passing R p es k
  in_keys [] k sorted i = absurd i
  in_keys (e ∷ es) k sorted i = on (p e.1) refl i (in_keys es k (second _ _ sorted))
    where
      later : Passing R p es k → Passing R p (e ∷ es) k
      later h =
          let no = apart e.0 k h.value es (first _ _ sorted) h.found in
          record { value = h.value; found = ap (λ b. cond b (Some e.1) (find R k es)) no ∙ h.found; passes = h.passes }

      on : (b : Bool) → p e.1 ≡ b → In k (map (λ e. e.0) (cond b (e ∷ filter (λ e. p e.1) es) (filter (λ e. p e.1) es)))
          → (In k (keys_where p es) → Passing R p es k) → Passing R p (e ∷ es) k
      on true t (inl s) again =
          record { value = e.1; found = ap (λ b. cond b (Some e.1) (find R k es)) (subst (λ q. eq_by_cmp R q e.0 ≡ true) s (key_itself o e.0)); passes = t }
      on true t (inr i) again = later (again i)
      on false t i again = later (again i)

module _ {K X : Type 0} {R : K → K → Ordering} (o : IsTotalOrder R) (same : IsAntisymmetric R) (p : X → Bool) where
  keys_in : (es : List (K × X)) (k : K) (v : X) → find R k es ≡ Some v → p v ≡ true → In k (keys_where p es)
  keys_in [] k v e t = absurd (cc)
  keys_in (f ∷ es) k v e t = on (eq_by_cmp R k f.0) refl e (keys_in es k v)
    where
      here : f.1 ≡ v → f.0 ≡ k → In k (keys_where p (f ∷ es))
      here value key = subst (λ b. In k (map (λ e. e.0) (cond b (f ∷ filter (λ e. p e.1) es) (filter (λ e. p e.1) es)))) (sym (ap p value ∙ t)) (inl key)

      later : In k (keys_where p es) → In k (keys_where p (f ∷ es))
      later i = by (p f.1)
        where
          by : (b : Bool) → In k (map (λ e. e.0) (cond b (f ∷ filter (λ e. p e.1) es) (filter (λ e. p e.1) es)))
          by true = inr i
          by false = i

      on : (b : Bool) → eq_by_cmp R k f.0 ≡ b → cond b (Some f.1) (find R k es) ≡ Some v → (find R k es ≡ Some v → p v ≡ true → In k (keys_where p es))
          → In k (keys_where p (f ∷ es))
      on true tie e again = here (cc) (sym (key_same o same k f.0 tie))
      on false tie e again = later (again e t)

  -- exactly the keys at which the value passes, where the default doesn't pass
  module _ (default : X) (fails : p default ≡ false) where
    pub keys_where-passes : (m : FinMap R X) (k : K) → In k (keys_where p (entries m)) → p (value_at default m k) ≡ true
    keys_where-passes m k i =
        let h = in_keys o p (entries m) k (entries_sorted m) i in
        ap (λ r. p (unwrap_or r default)) (get-entries m k ∙ h.found) ∙ h.passes

    pub passes-keys_where : (m : FinMap R X) (k : K) → p (value_at default m k) ≡ true → In k (keys_where p (entries m))
    passes-keys_where m k t = on (find R k (entries m)) refl (ap (λ r. p (unwrap_or r default)) (sym (get-entries m k)) ∙ t)
      where
        on : (r : Option X) → find R k (entries m) ≡ r → p (unwrap_or r default) ≡ true → In k (keys_where p (entries m))
        on None e t = absurd (true≢false (sym t ∙ fails))
        on (Some v) e t = keys_in (entries m) k v e t

-- some entry passes where some key has a value that passes
pub any-keys_where : {K X : Type 0} (p : X → Bool) (es : List (K × X)) → list_any (λ e. p e.1) es ≡ true → (k : K) × In k (keys_where p es)
any-keys_where p [] h = absurd (cc)
any-keys_where {K} p (e ∷ es) h = on (p e.1) h (any-keys_where p es)
  where
    on : (b : Bool) → (b || list_any (λ e. p e.1) es) ≡ true → (list_any (λ e. p e.1) es ≡ true → (k : K) × In k (keys_where p es))
        → (k : K) × In k (map (λ e. e.0) (cond b (e ∷ filter (λ e. p e.1) es) (filter (λ e. p e.1) es)))
    on true h again = (e.0, inl refl)
    on false h again = again h

pub keys_where-any : {K X : Type 0} (p : X → Bool) (es : List (K × X)) (k : K) → In k (keys_where p es) → list_any (λ e. p e.1) es ≡ true
keys_where-any p [] k i = absurd i
keys_where-any p (e ∷ es) k i = on (p e.1) i (keys_where-any p es k)
  where
    on : (b : Bool) → In k (map (λ e. e.0) (cond b (e ∷ filter (λ e. p e.1) es) (filter (λ e. p e.1) es)))
        → (In k (keys_where p es) → list_any (λ e. p e.1) es ≡ true) → (b || list_any (λ e. p e.1) es) ≡ true
    on true i again = refl
    on false i again = again i

-- keys of bytes ascend
all_above : {X : Type 0} (p : X → Bool) (x : List ℕ) (es : List (List ℕ × X)) → T (below_all (slice_cmp nat_cmp) x es)
    → All (λ y. bytes_less x y ≡ true) (keys_where p es)
all_above p x [] below = tt
all_above {X} p x (e ∷ es) below = on (p e.1) (all_above p x es (second _ _ below))
  where
    on : (b : Bool) → All (λ y. bytes_less x y ≡ true) (keys_where p es)
        → All (λ y. bytes_less x y ≡ true) (map (λ (e : List ℕ × X). e.0) (cond b (e ∷ filter (λ e. p e.1) es) (filter (λ e. p e.1) es)))
    on true rest = (sym (bytes_less-cmp x e.0) ∙ is_true _ (first _ _ below), rest)
    on false rest = rest

pub keys_where-rises : {X : Type 0} (p : X → Bool) (es : List (List ℕ × X)) → T (is_sorted (slice_cmp nat_cmp) es) → Rises (keys_where p es)
keys_where-rises p [] sorted = tt
keys_where-rises {X} p (e ∷ es) sorted = on (p e.1) (keys_where-rises p es (second _ _ sorted))
  where
    on : (b : Bool) → Rises (keys_where p es) → Rises (map (λ (e : List ℕ × X). e.0) (cond b (e ∷ filter (λ e. p e.1) es) (filter (λ e. p e.1) es)))
    on true rest = (all_above p e.0 es (first _ _ sorted), rest)
    on false rest = rest
