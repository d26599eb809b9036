-- Marks and elements as their trees hold them.
use Rattle.std.proofs.lemmas.List.{take_more}
use Rattle.std.proofs.Common.{◌≡◌, ℕ, ◌+◌, ◌<◌, take, get_or, ◌==◌, List, [], ◌∷◌, ◌++◌, Bool, true, false, cond, length, refl, sym, ap, ◌∙◌, subst, inl, true≢false, arith, eqb-true}
use Rattle.std.specs.Prelude.{ℤ, pos, negsuc, ◌+ℤ◌, IsTrue, ◌↔◌, unwrap_or, Option, Some, None, is_some, OnOk, OnErr, ◌||◌}
use Rattle.std.specs.declared.result.Result.{Result}
use Rattle.std.specs.declared.result.Result.TheVariants.{Ok, Err}
use Rattle.std.specs.BTreeMap.{is_at}
use Rattle.std.specs.FinMap.{IsAntisymmetric, get, insert, remove, contains_key, entries, from_entries, find, get-from_entries, get-insert, get-remove, same_map, empty, len-empty, get-empty, empty_of_len}
use Rattle.std.specs.List.{list_any}
use Rattle.std.specs.List.Sorted.{IsStrictlySortedBy}
use Rattle.std.specs.Map.{keys_of, values_of, lookup}
use Rattle.std.specs.Ordering.{eq_by_cmp, nat_cmp}
use Rattle.us_kind.specs.Tags.{tag_cmp, tag_cmp-total, tag_cmp-IsAntisymmetric}
use Rattle.us_kind.specs.declared.identity.Tag.{Tag}
use Rattle.std.specs.Cmp.Lexicographic.{slice_cmp, nat_list_cmp_total}
use Rattle.std.specs.FinMap.{slice_cmp-IsAntisymmetric, nat_cmp-IsAntisymmetric}
use Rattle.us_sets.specs.Set.{marks_of}
use Rattle.us_sets.specs.Elements.{Elements}
use Rattle.us_kind.specs.Comparison.{In}
use Rattle.us_kind.specs.Defaults.{key_itself, key_same, with_value}
use Rattle.us_kind.specs.Keys.{keys_where, keys_where-passes}
use Rattle.us_sets.specs.Marks.{Counts, count_at, is_zero, is_positive, is_nothing, is_live, live_tags, shifted, taken}
use Rattle.us_kind.proofs.TreeViews.{sorted_entries, entries-from_entries, get-view, view-insert, view-remove, list_any-values_of}

-- ---- counts

-- a tree that holds nothing
pub is_nothing-view : (es : List (Tag × ℤ)) (b : Bool) → (IsTrue b ↔ (length es ≡ 0)) → b ≡ is_nothing (from_entries es)
is_nothing-view [] true h = ap (λ n. n == 0) (sym (len-empty tag_cmp ℤ))
is_nothing-view [] false h = let wrong = h.1 refl in absurd (cc)
is_nothing-view (e ∷ es) true h = absurd (no_zero (h.0 refl))
  where
    no_zero : length (e ∷ es) ≡ 0 → ⊥
    no_zero z = omega arith
is_nothing-view (e ∷ es) false h = sym (on (is_nothing (from_entries (e ∷ es))) refl)
  where
    here : get (from_entries {R = tag_cmp} (e ∷ es)) e.0 ≡ Some e.1
    here = get-from_entries tag_cmp-total (e ∷ es) e.0 ∙ ap (λ b. cond b (Some e.1) (find tag_cmp e.0 es)) (key_itself tag_cmp-total e.0)

    on : (b : Bool) → is_nothing (from_entries (e ∷ es)) ≡ b → is_nothing (from_entries (e ∷ es)) ≡ false
    on false z = z
    on true z =
        let none = empty_of_len (from_entries (e ∷ es)) (eqb-true _ _ z) in
        let gone : None ≡ Some e.1 = sym (get-empty tag_cmp e.0) ∙ ap (λ m. get m e.0) (sym none) ∙ here in
        absurd (cc)

pub is_live-view : (es : List (Tag × ℤ)) → IsStrictlySortedBy tag_cmp (keys_of es) → list_any is_positive (values_of es) ≡ is_live (from_entries es)
is_live-view es sorted =
    list_any-values_of is_positive es
    ∙ ap (list_any (λ e. is_positive e.1)) (sym (entries-from_entries tag_cmp-total tag_cmp-IsAntisymmetric es (sorted_entries tag_cmp es sorted)))

pub live_tags-view : (es : List (Tag × ℤ)) → IsStrictlySortedBy tag_cmp (keys_of es) → keys_where is_positive es ≡ live_tags (from_entries es)
live_tags-view es sorted = ap (keys_where is_positive) (sym (entries-from_entries tag_cmp-total tag_cmp-IsAntisymmetric es (sorted_entries tag_cmp es sorted)))

-- a removal of a count that has become 0, and an insertion of one that hasn't
pub shifted-remove : (es fs : List (Tag × ℤ)) (t : Tag) (by n : ℤ) → n ≡ (unwrap_or (lookup (is_at (tag_cmp t)) es) (pos 0) +ℤ by) → is_zero n ≡ true
    → ((q : Tag) → lookup (is_at (tag_cmp q)) fs ≡ cond (is_at (tag_cmp t) q) None (lookup (is_at (tag_cmp q)) es))
    → from_entries fs ≡ shifted (from_entries es) t by
shifted-remove es fs t by n is zero each =
    let count : n ≡ (count_at (from_entries es) t +ℤ by) = is ∙ ap (λ r. unwrap_or r (pos 0) +ℤ by) (sym (get-view tag_cmp-total tag_cmp-IsAntisymmetric es t)) in
    view-remove tag_cmp-total tag_cmp-IsAntisymmetric es fs t each
    ∙ ap (λ b. cond b (remove (from_entries es) t) (insert (from_entries es) t (count_at (from_entries es) t +ℤ by))) (sym (ap is_zero (sym count) ∙ zero))

pub shifted-insert : (es fs : List (Tag × ℤ)) (t : Tag) (by n : ℤ) → n ≡ (unwrap_or (lookup (is_at (tag_cmp t)) es) (pos 0) +ℤ by) → is_zero n ≡ false
    → ((q : Tag) → lookup (is_at (tag_cmp q)) fs ≡ cond (is_at (tag_cmp t) q) (Some n) (lookup (is_at (tag_cmp q)) es))
    → from_entries fs ≡ shifted (from_entries es) t by
shifted-insert es fs t by n is kept each =
    let count : n ≡ (count_at (from_entries es) t +ℤ by) = is ∙ ap (λ r. unwrap_or r (pos 0) +ℤ by) (sym (get-view tag_cmp-total tag_cmp-IsAntisymmetric es t)) in
    view-insert tag_cmp-total tag_cmp-IsAntisymmetric es fs t n each
    ∙ ap (insert (from_entries es) t) count
    ∙ ap (λ b. cond b (remove (from_entries es) t) (insert (from_entries es) t (count_at (from_entries es) t +ℤ by))) (sym (ap is_zero (sym count) ∙ kept))

-- one more tag
pub taken-push : (m : Counts) (ts : List Tag) (t : Tag) → taken m (ts ++ t ∷ []) ≡ shifted (taken m ts) t (negsuc 0)
taken-push m [] t = refl
taken-push m (s ∷ ss) t = taken-push (shifted m s (negsuc 0)) ss t

-- the tags up to one more
pub taken-more : (m : Counts) (ts : List Tag) (i : ℕ) (d : Tag) (k n : Counts) → i < length ts → k ≡ taken m (take i ts) → n ≡ shifted k (get_or ts i d) (negsuc 0) → n ≡ taken m (take (i + 1) ts)
taken-more m ts i d k n inside before now =
    now ∙ ap (λ l. shifted l (get_or ts i d) (negsuc 0)) before ∙ sym (taken-push m (take i ts) (get_or ts i d)) ∙ sym (ap (taken m) (take_more ts i d inside))

or_true : (b : Bool) → (b || true) ≡ true
or_true true = refl
or_true false = refl

list_any-among : {X : Type 0} (p : X → Bool) (xs ys : List X) (x : X) → p x ≡ true → list_any p (xs ++ x ∷ ys) ≡ true
list_any-among p [] ys x passes = ap (λ b. b || list_any p ys) passes
list_any-among p (z ∷ zs) ys x passes = ap (λ b. p z || b) (list_any-among p zs ys x passes) ∙ or_true (p z)

-- one that passes
pub list_any-here : {X : Type 0} (p : X → Bool) (vs xs ys : List X) (x : X) → vs ≡ xs ++ x ∷ ys → p x ≡ true → list_any p vs ≡ true
list_any-here p vs xs ys x is passes = ap (list_any p) is ∙ list_any-among p xs ys x passes

-- ---- elements

one_by_bytes : IsAntisymmetric (slice_cmp nat_cmp)
one_by_bytes = slice_cmp-IsAntisymmetric nat_cmp-IsAntisymmetric

pub members-view : (es : List (List ℕ × Counts)) → IsStrictlySortedBy (slice_cmp nat_cmp) (keys_of es) → keys_where is_live es ≡ keys_where is_live (entries (from_entries {R = slice_cmp nat_cmp} es))
members-view es sorted = ap (keys_where is_live) (sym (entries-from_entries nat_list_cmp_total one_by_bytes es (sorted_entries (slice_cmp nat_cmp) es sorted)))

pub marks_of-view : (es : List (List ℕ × Counts)) (x : List ℕ) → unwrap_or (lookup (is_at (slice_cmp nat_cmp x)) es) empty ≡ marks_of (from_entries es) x
marks_of-view es x = ap (λ r. unwrap_or r empty) (sym (get-view nat_list_cmp_total one_by_bytes es x))

-- the marks that a tree holds of an element, or none
pub found : (es : List (List ℕ × Counts)) (x : List ℕ) (m : Counts) → lookup (is_at (slice_cmp nat_cmp x)) es ≡ Some m → m ≡ marks_of (from_entries es) x
found es x m e = ap (λ r. unwrap_or r empty) (sym e) ∙ marks_of-view es x

pub missing : (es : List (List ℕ × Counts)) (x : List ℕ) → lookup (is_at (slice_cmp nat_cmp x)) es ≡ None → empty ≡ marks_of (from_entries es) x
missing es x e = ap (λ r. unwrap_or r empty) (sym e) ∙ marks_of-view es x

pub live_tags-empty : [] ≡ live_tags empty
live_tags-empty = on (live_tags empty) refl
  where
    on : (ts : List Tag) → live_tags empty ≡ ts → [] ≡ live_tags empty
    on [] e = sym e
    on (t ∷ ts) e =
        let live = keys_where-passes tag_cmp-total tag_cmp-IsAntisymmetric is_positive (pos 0) refl empty t (subst (In t) (sym e) (inl refl)) in
        absurd (true≢false (sym live ∙ ap (λ r. is_positive (unwrap_or r (pos 0))) (get-empty tag_cmp t)))

-- the same change of a map of elements
abbrev Changes : List (List ℕ × Counts) → List (List ℕ × Counts) → List ℕ → Option Counts → Type 0
Changes es fs x w = (q : List ℕ) → lookup (is_at (slice_cmp nat_cmp q)) fs ≡ cond (is_at (slice_cmp nat_cmp x) q) w (lookup (is_at (slice_cmp nat_cmp q)) es)

kept_by : (b : Bool) (s : Elements) (x : List ℕ) (m : Counts) → is_nothing m ≡ b → cond b (remove s x) (insert s x m) ≡ with_value empty is_nothing s x m
kept_by b s x m e = ap (λ c. cond c (remove s x) (insert s x m)) (sym e)

pub keep-remove : (es fs : List (List ℕ × Counts)) (x : List ℕ) (m : Counts) → is_nothing m ≡ true → Changes es fs x None → from_entries {R = slice_cmp nat_cmp} fs ≡ with_value empty is_nothing (from_entries es) x m
keep-remove es fs x m none each = view-remove nat_list_cmp_total one_by_bytes es fs x each ∙ kept_by true (from_entries es) x m none

pub keep-insert : (es fs : List (List ℕ × Counts)) (x y : List ℕ) (m : Counts) → y ≡ x → is_nothing m ≡ false → Changes es fs y (Some m) → from_entries {R = slice_cmp nat_cmp} fs ≡ with_value empty is_nothing (from_entries es) x m
keep-insert es fs x y m same some each =
    view-insert nat_list_cmp_total one_by_bytes es fs x m (subst (λ k. Changes es fs k (Some m)) same each) ∙ kept_by false (from_entries es) x m some

-- ---- one key

pub looked_up : (es : List (Tag × ℤ)) (t : Tag) → lookup (is_at (tag_cmp t)) es ≡ get (from_entries {R = tag_cmp} es) t
looked_up es t = sym (get-view tag_cmp-total tag_cmp-IsAntisymmetric es t)

pub inserted : (es fs : List (Tag × ℤ)) (t : Tag) (v : ℤ) → ((q : Tag) → lookup (is_at (tag_cmp q)) fs ≡ cond (is_at (tag_cmp t) q) (Some v) (lookup (is_at (tag_cmp q)) es))
    → from_entries {R = tag_cmp} fs ≡ insert (from_entries es) t v
inserted es fs t v each = view-insert tag_cmp-total tag_cmp-IsAntisymmetric es fs t v each

pub element_at : (es : List (List ℕ × Counts)) (x : List ℕ) → lookup (is_at (slice_cmp nat_cmp x)) es ≡ get (from_entries {R = slice_cmp nat_cmp} es) x
element_at es x = sym (get-view nat_list_cmp_total one_by_bytes es x)

pub element_inserted : (es fs : List (List ℕ × Counts)) (x : List ℕ) (m : Counts) → Changes es fs x (Some m) → from_entries {R = slice_cmp nat_cmp} fs ≡ insert (from_entries es) x m
element_inserted es fs x m each = view-insert nat_list_cmp_total one_by_bytes es fs x m each

pub element_removed : (es fs : List (List ℕ × Counts)) (x : List ℕ) → Changes es fs x None → from_entries {R = slice_cmp nat_cmp} fs ≡ remove (from_entries es) x
element_removed es fs x each = view-remove nat_list_cmp_total one_by_bytes es fs x each

pub is_nothing-empty : is_nothing empty ≡ true
is_nothing-empty = ap (λ n. n == 0) (len-empty tag_cmp ℤ)

-- what is kept of an element after its marks are moved and swept
remove_insert : (s : Elements) (x : List ℕ) (m : Counts) → remove (insert s x m) x ≡ remove s x
remove_insert s x m = same_map nat_list_cmp_total one_by_bytes _ _ (λ q.
    get-remove nat_list_cmp_total (insert s x m) x q ∙ ap (cond (eq_by_cmp (slice_cmp nat_cmp) q x) None) (get-insert nat_list_cmp_total s x m q)
    ∙ on (eq_by_cmp (slice_cmp nat_cmp) q x) (get s q) ∙ sym (get-remove nat_list_cmp_total s x q))
  where
    on : (b : Bool) (o : Option Counts) → cond b None (cond b (Some m) o) ≡ cond b None o
    on true o = refl
    on false o = refl

marks_of-insert : (s : Elements) (x : List ℕ) (m : Counts) → marks_of (insert s x m) x ≡ m
marks_of-insert s x m = ap (λ r. unwrap_or r empty) (get-insert nat_list_cmp_total s x m x ∙ ap (λ b. cond b (Some m) (get s x)) (key_itself nat_list_cmp_total x))

pub swept-element : (s : Elements) (x : List ℕ) (m : Counts) → cond (is_nothing (marks_of (insert s x m) x)) (remove (insert s x m) x) (insert s x m) ≡ with_value empty is_nothing s x m
swept-element s x m = ap (λ k. cond (is_nothing k) (remove (insert s x m) x) (insert s x m)) (marks_of-insert s x m) ∙ on (is_nothing m)
  where
    on : (b : Bool) → cond b (remove (insert s x m) x) (insert s x m) ≡ cond b (remove s x) (insert s x m)
    on true = remove_insert s x m
    on false = refl

-- of an element that isn't kept there are no marks
pub marks_of-missing : (s : Elements) (x : List ℕ) → contains_key s x ≡ false → marks_of s x ≡ empty
marks_of-missing s x e = on (get s x) e
  where
    on : (o : Option Counts) → is_some o ≡ false → unwrap_or o empty ≡ empty
    on None e = refl
    on (Some m) e = absurd (cc)

insert_same : (s : Elements) (x : List ℕ) (m : Counts) → get s x ≡ Some m → insert s x m ≡ s
insert_same s x m e = same_map nat_list_cmp_total one_by_bytes _ _ (λ q. get-insert nat_list_cmp_total s x m q ∙ on q (eq_by_cmp (slice_cmp nat_cmp) q x) refl)
  where
    on : (q : List ℕ) (b : Bool) → eq_by_cmp (slice_cmp nat_cmp) q x ≡ b → cond b (Some m) (get s q) ≡ get s q
    on q true t = sym (ap (get s) (key_same nat_list_cmp_total one_by_bytes q x t) ∙ e)
    on q false t = refl

pub on_ok : {X E : Type 0} {P Q : Type 0} (r : Result X E) → (P → Q) → OnOk r P → OnOk r Q
on_ok (Ok x) f p = f p
on_ok (Err e) f p = p

pub on_err : {X E : Type 0} {P Q : Type 0} (r : Result X E) → (P → Q) → OnErr r P → OnErr r Q
on_err (Ok x) f p = p
on_err (Err e) f p = f p

-- a change of the marks of an element that is kept
module _ (s : Elements) (x y : List ℕ) (old new : Counts) (same : y ≡ x) (here : get s y ≡ Some old) where
  pub changed_here : (f : Counts → Counts) → new ≡ f old → insert s y new ≡ insert s x (f (marks_of s x))
  changed_here f is =
      ap (insert s y) (is ∙ ap (λ o. f (unwrap_or o empty)) (sym here)) ∙ ap (λ k. insert s k (f (marks_of s k))) same

  pub unchanged_here : new ≡ old → insert s y new ≡ s
  unchanged_here is = ap (insert s y) is ∙ insert_same s y old here
