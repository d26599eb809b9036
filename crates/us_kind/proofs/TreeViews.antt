-- A tree's entries, seen as a finite map.
use Rattle.std.proofs.Common.{◌≡◌, List, [], ◌∷◌, ◌++◌, Bool, true, false, cond, refl, sym, ap, ◌∙◌, subst, T}
use Rattle.std.specs.Prelude.{Option, Some, None, filter, map, ◌||◌, ◌&&◌}
use Rattle.std.specs.BTreeMap.{is_at}
use Rattle.std.specs.Cmp.{IsTotalOrder, eq_by_cmp_equiv}
use Rattle.std.specs.FinMap.{FinMap, IsAntisymmetric, get, insert, remove, entries, from_entries, find, is_sorted, get-entries, get-from_entries, get-insert, get-remove, entries_sorted, same_map}
use Rattle.std.specs.FinMap.Entries.{below_all, same_entries}
use Rattle.std.specs.List.{AllByRecursion, list_any}
use Rattle.std.specs.List.Sorted.{IsStrictlySortedBy}
use Rattle.std.specs.Map.{keys_of, values_of, lookup}
use Rattle.std.specs.Ordering.{eq_by_cmp, is_lt}
use Rattle.std.specs.declared.cmp.Ordering.{Ordering}
use Rattle.std.specs.declared.cmp.Ordering.TheVariants.{Less}
use Rattle.us_kind.specs.Keys.{keys_where}

both : (a b : Bool) → T a → T b → T (a && b)
both true b p q = q
both false b p q = p

module _ {K X : Type 0} (R : K → K → Ordering) where
  below : (x : K) (es : List (K × X)) → AllByRecursion (λ y. R x y ≡ Less) (keys_of es) → T (below_all R x es)
  below x [] h = tt
  below x (e ∷ es) h = both _ _ (subst (λ o. T (is_lt o)) (sym h.0) tt) (below x es h.1)

  -- keys that ascend
  pub sorted_entries : (es : List (K × X)) → IsStrictlySortedBy R (keys_of es) → T (is_sorted R es)
  unfolding IsStrictlySortedBy
  sorted_entries [] h = tt
  sorted_entries (e ∷ es) h = both _ _ (below e.0 es h.0) (sorted_entries es h.1)

  -- looking up in a tree
  pub lookup-find : (q : K) (es : List (K × X)) → lookup (is_at (R q)) es ≡ find R q es
  lookup-find q [] = refl
  lookup-find q (e ∷ es) = ap (cond (eq_by_cmp R q e.0) (Some e.1)) (lookup-find q es)

module _ {K X : Type 0} {R : K → K → Ordering} (o : IsTotalOrder R) (same : IsAntisymmetric R) where
  -- the entries of a tree are those of the map
  pub entries-from_entries : (es : List (K × X)) → T (is_sorted R es) → entries (from_entries {R = R} es) ≡ es
  entries-from_entries es sorted =
      same_entries R o same _ es (entries_sorted (from_entries es)) sorted (λ q. sym (get-entries (from_entries es) q) ∙ get-from_entries o es q)

  pub get-view : (es : List (K × X)) (q : K) → get (from_entries {R = R} es) q ≡ lookup (is_at (R q)) es
  get-view es q = get-from_entries o es q ∙ sym (lookup-find R q es)

  -- what a tree leaves after an insertion
  pub view-insert : (es fs : List (K × X)) (k : K) (v : X) → ((q : K) → lookup (is_at (R q)) fs ≡ cond (is_at (R k) q) (Some v) (lookup (is_at (R q)) es))
      → from_entries {R = R} fs ≡ insert (from_entries es) k v
  view-insert es fs k v each = same_map o same _ _ (λ q. get-view fs q ∙ each q
      ∙ ap (λ b. cond b (Some v) (lookup (is_at (R q)) es)) ((eq_by_cmp_equiv o).symm k q)
      ∙ ap (cond (eq_by_cmp R q k) (Some v)) (sym (get-view es q)) ∙ sym (get-insert o (from_entries es) k v q))

  -- what a tree leaves after a removal
  pub view-remove : (es fs : List (K × X)) (k : K) → ((q : K) → lookup (is_at (R q)) fs ≡ cond (is_at (R k) q) None (lookup (is_at (R q)) es))
      → from_entries {R = R} fs ≡ remove (from_entries es) k
  view-remove es fs k each = same_map o same _ _ (λ q. get-view fs q ∙ each q
      ∙ ap (λ b. cond b None (lookup (is_at (R q)) es)) ((eq_by_cmp_equiv o).symm k q)
      ∙ ap (cond (eq_by_cmp R q k) None) (sym (get-view es q)) ∙ sym (get-remove o (from_entries es) k q))

-- the values of the entries
pub list_any-values_of : {K X : Type 0} (p : X → Bool) (es : List (K × X)) → list_any p (values_of es) ≡ list_any (λ e. p e.1) es
list_any-values_of p [] = refl
list_any-values_of p (e ∷ es) = ap (λ b. p e.1 || b) (list_any-values_of p es)

-- one more entry
pub keys_where-push : {K X : Type 0} (p : X → Bool) (es : List (K × X)) (e : K × X) → keys_where p (es ++ e ∷ []) ≡ cond (p e.1) (keys_where p es ++ e.0 ∷ []) (keys_where p es)
keys_where-push p [] e = on (p e.1)
  where
    on : (b : Bool) → map (λ e. e.0) (cond b (e ∷ []) []) ≡ cond b (e.0 ∷ []) []
    on true = refl
    on false = refl
keys_where-push {K} {X} p (f ∷ fs) e = on (p f.1) (p e.1) (keys_where-push p fs e)
  where
    on : (b c : Bool) → keys_where p (fs ++ e ∷ []) ≡ cond c (keys_where p fs ++ e.0 ∷ []) (keys_where p fs)
        → map (λ (e : K × X). e.0) (cond b (f ∷ filter (λ e. p e.1) (fs ++ e ∷ [])) (filter (λ e. p e.1) (fs ++ e ∷ [])))
        ≡ cond c (map (λ e. e.0) (cond b (f ∷ filter (λ e. p e.1) fs) (filter (λ e. p e.1) fs)) ++ e.0 ∷ []) (map (λ e. e.0) (cond b (f ∷ filter (λ e. p e.1) fs) (filter (λ e. p e.1) fs)))
    on true true h = ap (λ ks. f.0 ∷ ks) h
    on true false h = ap (λ ks. f.0 ∷ ks) h
    on false c h = h
