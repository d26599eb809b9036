-- Room is made and taken back without a trace, and a removal in it is the removal.
use Rattle.std.proofs.Common.{◌≡◌, ◌⊎◌, ℕ, zero, suc, ◌+◌, ◌-◌, ◌^◌, ◌<◌, ◌≤◌, List, [], ◌∷◌, ◌++◌, Bool, true, false, cond, refl, sym, ap, ◌∙◌, subst, true≢false, inl, inr, take, get_or, length, arith, SFits, w64}
use Rattle.std.proofs.lemmas.Int.{ints}
use Rattle.std.proofs.lemmas.List.{take_more}
use Rattle.std.proofs.lemmas.List.Elements.{filter-append}
use Rattle.std.specs.BTreeMap.{is_at}
use Rattle.std.specs.FinMap.{get, insert, remove, contains_key, from_entries, get-insert, get-remove, same_map}
use Rattle.std.specs.List.{list_any}
use Rattle.std.specs.Map.{lookup}
use Rattle.std.specs.Ordering.{eq_by_cmp}
use Rattle.std.specs.Prelude.{ℤ, pos, negsuc, ◌+ℤ◌, ◌-ℤ◌, ◌≤ℤ◌, Option, Some, None, is_some, not, unwrap_or, ◌||◌}
use Rattle.us_kind.proofs.ListLemmas.{in_filter, filter_in}
use Rattle.us_kind.proofs.TreeViews.{view-remove}
use Rattle.us_kind.specs.Defaults.{key_same, key_itself, held, get-with_value, value_at-with_value}
use Rattle.us_kind.specs.Tags.{tag_cmp, tag_cmp-total, tag_cmp-IsAntisymmetric}
use Rattle.us_kind.specs.Comparison.{In}
use Rattle.us_kind.specs.declared.identity.Tag.{Tag}
use Rattle.us_sets.specs.Marks.{Counts, count_at, is_zero, shifted, taken}
use Rattle.us_sets.specs.MarksLaws.{times, count_at-taken, is_zero-is, one_less}
use Rattle.us_sets.specs.Room.{missing, AreMissing, AreKept, IsHigh, AreHigh, forgotten, opened, lowered, swept}

-- ---- lists of tags

-- one of the tags is this one
is_in : Tag → List Tag → Bool
is_in q ts = list_any (λ t. eq_by_cmp tag_cmp q t) ts

is_in-in : (q : Tag) (ts : List Tag) → is_in q ts ≡ true → In q ts
unfolding is_in
is_in-in q [] h = absurd (true≢false (sym h))
is_in-in q (t ∷ ts) h = on (eq_by_cmp tag_cmp q t) refl h (is_in-in q ts)
  where
    on : (b : Bool) → eq_by_cmp tag_cmp q t ≡ b → (b || list_any (λ s. eq_by_cmp tag_cmp q s) ts) ≡ true → (list_any (λ s. eq_by_cmp tag_cmp q s) ts ≡ true → In q ts) → In q (t ∷ ts)
    on true e h again = inl (sym (key_same tag_cmp-total tag_cmp-IsAntisymmetric q t e))
    on false e h again = inr (again h)

in-is_in : (q : Tag) (ts : List Tag) → In q ts → is_in q ts ≡ true
unfolding is_in
in-is_in q [] i = absurd i
in-is_in q (t ∷ ts) (inl e) = ap (λ b. b || list_any (λ s. eq_by_cmp tag_cmp q s) ts) (subst (λ k. eq_by_cmp tag_cmp k t ≡ true) e (key_itself tag_cmp-total t))
in-is_in q (t ∷ ts) (inr i) = on (eq_by_cmp tag_cmp q t) (in-is_in q ts i)
  where
    on : (b : Bool) → list_any (λ s. eq_by_cmp tag_cmp q s) ts ≡ true → (b || list_any (λ s. eq_by_cmp tag_cmp q s) ts) ≡ true
    on true h = refl
    on false h = h

not_in : (q : Tag) (ts : List Tag) → (In q ts → ⊥) → is_in q ts ≡ false
not_in q ts out = on (is_in q ts) refl
  where
    on : (b : Bool) → is_in q ts ≡ b → is_in q ts ≡ false
    on false e = e
    on true e = absurd (out (is_in-in q ts e))

in_front_part : (t : Tag) (i : ℕ) (ts : List Tag) → In t (take i ts) → In t ts
in_front_part t zero ts h = absurd h
in_front_part t (suc i) [] h = absurd h
in_front_part t (suc i) (s ∷ ss) (inl e) = inl e
in_front_part t (suc i) (s ∷ ss) (inr h) = inr (in_front_part t i ss h)

-- a tag of the list stands in it
pub in_place : (ts : List Tag) (i : ℕ) (d : Tag) → i < length ts → In (get_or ts i d) ts
in_place [] i d h = absurd (omega arith)
in_place (t ∷ ts) zero d h = inl refl
in_place (t ∷ ts) (suc i) d h = inr (in_place ts i d (omega arith))

-- one more tag at the end of a list through which something is changed, tag by tag
module _ (step : Counts → Tag → Counts) (all : Counts → List Tag → Counts) (none : (m : Counts) → all m [] ≡ m) (first : (m : Counts) (t : Tag) (ts : List Tag) → all m (t ∷ ts) ≡ all (step m t) ts) where
  pub all-push : (m : Counts) (ts : List Tag) (t : Tag) → all m (ts ++ t ∷ []) ≡ step (all m ts) t
  all-push m [] t = first m t [] ∙ none (step m t) ∙ ap (λ n. step n t) (sym (none m))
  all-push m (s ∷ ss) t = first m s (ss ++ t ∷ []) ∙ all-push (step m s) ss t ∙ ap (λ n. step n t) (sym (first m s ss))

  pub all-more : (m : Counts) (ts : List Tag) (i : ℕ) (d : Tag) (k n : Counts) → i < length ts → k ≡ all m (take i ts) → n ≡ step k (get_or ts i d) → n ≡ all m (take (i + 1) ts)
  all-more m ts i d k n inside before now =
      now ∙ ap (λ l. step l (get_or ts i d)) before ∙ sym (all-push m (take i ts) (get_or ts i d)) ∙ sym (ap (all m) (take_more ts i d inside))

-- the tags up to one more
pub forgotten-more : (m : Counts) (ts : List Tag) (i : ℕ) (d : Tag) (k n : Counts) → i < length ts → k ≡ forgotten m (take i ts) → n ≡ remove k (get_or ts i d) → n ≡ forgotten m (take (i + 1) ts)
forgotten-more = all-more (λ m t. remove m t) (λ m ts. forgotten m ts) (λ m. refl) (λ m t ts. refl)

pub opened-more : (m : Counts) (ts : List Tag) (i : ℕ) (d : Tag) (k n : Counts) → i < length ts → k ≡ opened m (take i ts) → n ≡ insert k (get_or ts i d) (pos 0) → n ≡ opened m (take (i + 1) ts)
opened-more = all-more (λ m t. insert m t (pos 0)) (λ m ts. opened m ts) (λ m. refl) (λ m t ts. refl)

pub lowered-more : (m : Counts) (ts : List Tag) (i : ℕ) (d : Tag) (k n : Counts) → i < length ts → k ≡ lowered m (take i ts) → n ≡ lowered k (get_or ts i d ∷ []) → n ≡ lowered m (take (i + 1) ts)
lowered-more = all-more (λ m t. lowered m (t ∷ [])) (λ m ts. lowered m ts) (λ m. refl) (λ m t ts. refl)

pub swept-more : (m : Counts) (ts : List Tag) (i : ℕ) (d : Tag) (k n : Counts) → i < length ts → k ≡ swept m (take i ts) → n ≡ swept k (get_or ts i d ∷ []) → n ≡ swept m (take (i + 1) ts)
swept-more = all-more (λ m t. swept m (t ∷ [])) (λ m ts. swept m ts) (λ m. refl) (λ m t ts. refl)

pub missing-more : (m : Counts) (ts : List Tag) (i : ℕ) (d : Tag) (k n : List Tag) → i < length ts → k ≡ missing m (take i ts) → n ≡ k ++ missing m (get_or ts i d ∷ []) → n ≡ missing m (take (i + 1) ts)
missing-more m ts i d k n inside before now =
    now ∙ ap (λ l. l ++ missing m (get_or ts i d ∷ [])) before ∙ sym (filter-append (λ s. not (contains_key m s)) (take i ts) (get_or ts i d ∷ [])) ∙ sym (ap (missing m) (take_more ts i d inside))

pub high-more : (m : Counts) (ts : List Tag) (i : ℕ) (d : Tag) → i < length ts → AreHigh m (take i ts) → IsHigh (count_at m (get_or ts i d)) → AreHigh m (take (i + 1) ts)
high-more m ts i d inside before now t h = in_one_more (subst (In t) (take_more ts i d inside) h)
  where
    split : (ss : List Tag) → In t (ss ++ get_or ts i d ∷ []) → (In t ss) ⊎ (get_or ts i d ≡ t)
    split [] (inl e) = inr e
    split [] (inr n) = absurd n
    split (s ∷ ss) (inl e) = inl (inl e)
    split (s ∷ ss) (inr n) = on (split ss n)
      where
        on : (In t ss) ⊎ (get_or ts i d ≡ t) → (In t (s ∷ ss)) ⊎ (get_or ts i d ≡ t)
        on (inl a) = inl (inr a)
        on (inr e) = inr e

    in_one_more : In t (take i ts ++ get_or ts i d ∷ []) → IsHigh (count_at m t)
    in_one_more n = on (split (take i ts) n)
      where
        on : (In t (take i ts)) ⊎ (get_or ts i d ≡ t) → IsHigh (count_at m t)
        on (inl a) = before t a
        on (inr e) = subst (λ k. IsHigh (count_at m k)) e now

-- ---- taking back

no_key : (o : Option ℤ) → is_some o ≡ false → o ≡ None
no_key None e = refl
no_key (Some x) e = absurd (cc)

-- the tag doesn't stand in the list, or it does and the last change of it decides
get-forgotten_named : (m : Counts) (ts : List Tag) (q : Tag) → In q ts → get (forgotten m ts) q ≡ None
get-forgotten_named m ts q i = named m ts i
  where
    gone : (n : Counts) (ss : List Tag) → get n q ≡ None → get (forgotten n ss) q ≡ None
    gone n [] e = e
    gone n (s ∷ ss) e = gone (remove n s) ss (get-remove tag_cmp-total n s q ∙ by (eq_by_cmp tag_cmp q s))
      where
        by : (b : Bool) → cond b None (get n q) ≡ None
        by true = refl
        by false = e

    named : (n : Counts) (ss : List Tag) → In q ss → get (forgotten n ss) q ≡ None
    named n [] i = absurd i
    named n (s ∷ ss) (inl e) =
        gone (remove n s) ss (get-remove tag_cmp-total n s q ∙ ap (λ b. cond b None (get n q)) (subst (λ k. eq_by_cmp tag_cmp k s ≡ true) e (key_itself tag_cmp-total s)))
    named n (s ∷ ss) (inr i) = named (remove n s) ss i

-- a key apart from the changed one
apart : (q s : Tag) → (s ≡ q → ⊥) → eq_by_cmp tag_cmp q s ≡ false
apart q s out = on (eq_by_cmp tag_cmp q s) refl
  where
    on : (b : Bool) → eq_by_cmp tag_cmp q s ≡ b → eq_by_cmp tag_cmp q s ≡ false
    on false e = e
    on true e = absurd (out (sym (key_same tag_cmp-total tag_cmp-IsAntisymmetric q s e)))

get-remove_apart : (n : Counts) (s q : Tag) → (s ≡ q → ⊥) → get (remove n s) q ≡ get n q
get-remove_apart n s q out = get-remove tag_cmp-total n s q ∙ ap (λ b. cond b None (get n q)) (apart q s out)

get-insert_apart : (n : Counts) (s : Tag) (v : ℤ) (q : Tag) → (s ≡ q → ⊥) → get (insert n s v) q ≡ get n q
get-insert_apart n s v q out = get-insert tag_cmp-total n s v q ∙ ap (λ b. cond b (Some v) (get n q)) (apart q s out)

-- a step that changes nothing at the tag changes nothing there through the list
module _ (q : Tag) (step : Counts → Tag → Counts) (all : Counts → List Tag → Counts) (none : (m : Counts) → all m [] ≡ m) (first : (m : Counts) (t : Tag) (ts : List Tag) → all m (t ∷ ts) ≡ all (step m t) ts)
    (stays : (m : Counts) (t : Tag) → (t ≡ q → ⊥) → get (step m t) q ≡ get m q) where
  other : (m : Counts) (ts : List Tag) → (In q ts → ⊥) → get (all m ts) q ≡ get m q
  other m [] out = ap (λ n. get n q) (none m)
  other m (t ∷ ts) out = ap (λ n. get n q) (first m t ts) ∙ other (step m t) ts (λ i. out (inr i)) ∙ stays m t (λ e. out (inl e))

forgotten-other : (m : Counts) (ts : List Tag) (q : Tag) → (In q ts → ⊥) → get (forgotten m ts) q ≡ get m q
forgotten-other m ts q out = other q (λ m t. remove m t) (λ m ts. forgotten m ts) (λ m. refl) (λ m t ts. refl) (λ m t o. get-remove_apart m t q o) m ts out

opened-other : (m : Counts) (ts : List Tag) (q : Tag) → (In q ts → ⊥) → get (opened m ts) q ≡ get m q
opened-other m ts q out = other q (λ m t. insert m t (pos 0)) (λ m ts. opened m ts) (λ m. refl) (λ m t ts. refl) (λ m t o. get-insert_apart m t (pos 0) q o) m ts out

lowered-other : (m : Counts) (ts : List Tag) (q : Tag) → (In q ts → ⊥) → get (lowered m ts) q ≡ get m q
lowered-other m ts q out = other q (λ m t. lowered m (t ∷ [])) (λ m ts. lowered m ts) (λ m. refl) (λ m t ts. refl) (λ m t o. get-insert_apart m t _ q o) m ts out

get-swept_one : (m : Counts) (t q : Tag) → get (swept m (t ∷ [])) q ≡ cond (is_zero (count_at m t)) (cond (eq_by_cmp tag_cmp q t) None (get m q)) (get m q)
get-swept_one m t q = on (is_zero (count_at m t))
  where
    on : (b : Bool) → get (cond b (remove m t) m) q ≡ cond b (cond (eq_by_cmp tag_cmp q t) None (get m q)) (get m q)
    on true = get-remove tag_cmp-total m t q
    on false = refl

swept_one-apart : (m : Counts) (t q : Tag) → (t ≡ q → ⊥) → get (swept m (t ∷ [])) q ≡ get m q
swept_one-apart m t q out = get-swept_one m t q ∙ ap (λ b. cond (is_zero (count_at m t)) (cond b None (get m q)) (get m q)) (apart q t out) ∙ on (is_zero (count_at m t))
  where
    on : (b : Bool) → cond b (get m q) (get m q) ≡ get m q
    on true = refl
    on false = refl

swept-other : (m : Counts) (ts : List Tag) (q : Tag) → (In q ts → ⊥) → get (swept m ts) q ≡ get m q
swept-other m ts q out = other q (λ m t. swept m (t ∷ [])) (λ m ts. swept m ts) (λ m. refl) (λ m t ts. refl) (λ m t o. swept_one-apart m t q o) m ts out

taken-other : (m : Counts) (ts : List Tag) (q : Tag) → (In q ts → ⊥) → get (taken m ts) q ≡ get m q
taken-other m ts q out = other q (λ m t. shifted m t (negsuc 0)) (λ m ts. taken m ts) (λ m. refl) (λ m t ts. refl)
    (λ m t o. get-with_value tag_cmp-total tag_cmp-IsAntisymmetric (pos 0) is_zero m t (count_at m t +ℤ negsuc 0) q ∙ ap (λ b. cond b (held tag_cmp-total tag_cmp-IsAntisymmetric (pos 0) is_zero (count_at m t +ℤ negsuc 0)) (get m q)) (apart q t o)) m ts out

-- zeros that were placed are forgotten again
pub taken_back : (m : Counts) (ts : List Tag) (i : ℕ) → AreMissing m ts → forgotten (opened m (take i ts)) ts ≡ m
taken_back m ts i gone = same_map tag_cmp-total tag_cmp-IsAntisymmetric _ _ at
  where
    at : (q : Tag) → get (forgotten (opened m (take i ts)) ts) q ≡ get m q
    at q = on (is_in q ts) refl
      where
        on : (b : Bool) → is_in q ts ≡ b → get (forgotten (opened m (take i ts)) ts) q ≡ get m q
        on true e = get-forgotten_named (opened m (take i ts)) ts q (is_in-in q ts e) ∙ sym (no_key (get m q) (gone q (is_in-in q ts e)))
        on false e =
            let out : In q ts → ⊥ = λ h. true≢false (sym (in-is_in q ts h) ∙ e) in
            forgotten-other (opened m (take i ts)) ts q out ∙ opened-other m (take i ts) q (λ h. out (in_front_part q i ts h))

-- what a tree leaves after a removal
pub removed : (es fs : List (Tag × ℤ)) (t : Tag) → ((q : Tag) → lookup (is_at (tag_cmp q)) fs ≡ cond (is_at (tag_cmp t) q) None (lookup (is_at (tag_cmp q)) es))
    → from_entries {R = tag_cmp} fs ≡ remove (from_entries es) t
removed es fs t each = view-remove tag_cmp-total tag_cmp-IsAntisymmetric es fs t each

-- ---- room

flipped : (b : Bool) → not b ≡ true → b ≡ false
flipped true e = absurd (true≢false (sym e))
flipped false e = refl

pub missing-AreMissing : (m : Counts) (ts : List Tag) → AreMissing m (missing m ts)
missing-AreMissing m ts t i = flipped _ (in_filter (λ s. not (contains_key m s)) t ts i).1

insert-contains : (m : Counts) (k : Tag) (v : ℤ) (t : Tag) → contains_key m t ≡ true → contains_key (insert m k v) t ≡ true
insert-contains m k v t kept = ap is_some (get-insert tag_cmp-total m k v t) ∙ on (eq_by_cmp tag_cmp t k)
  where
    on : (b : Bool) → is_some (cond b (Some v) (get m t)) ≡ true
    on true = refl
    on false = kept

opened-contains : (m : Counts) (us : List Tag) (t : Tag) → contains_key m t ≡ true → contains_key (opened m us) t ≡ true
opened-contains m [] t kept = kept
opened-contains m (u ∷ us) t kept = opened-contains (insert m u (pos 0)) us t (insert-contains m u (pos 0) t kept)

opened-named : (m : Counts) (us : List Tag) (t : Tag) → In t us → contains_key (opened m us) t ≡ true
opened-named m [] t i = absurd i
opened-named m (u ∷ us) t (inl e) =
    opened-contains (insert m u (pos 0)) us t
    (ap is_some (get-insert tag_cmp-total m u (pos 0) t ∙ ap (λ b. cond b (Some (pos 0)) (get m t)) (subst (λ k. eq_by_cmp tag_cmp k u ≡ true) e (key_itself tag_cmp-total u))))
opened-named m (u ∷ us) t (inr i) = opened-named (insert m u (pos 0)) us t i

lowered-contains : (m : Counts) (us : List Tag) (t : Tag) → contains_key m t ≡ true → contains_key (lowered m us) t ≡ true
lowered-contains m [] t kept = kept
lowered-contains m (u ∷ us) t kept = lowered-contains (insert m u (count_at m u +ℤ negsuc 0)) us t (insert-contains m u _ t kept)

-- the counts with room for a removal of these
abbrev pub roomy : Counts → List Tag → Counts
roomy m ts = opened m (missing m ts)

pub roomy-AreKept : (m : Counts) (ts : List Tag) → AreKept (roomy m ts) ts
roomy-AreKept m ts t i = on (contains_key m t) refl
  where
    on : (b : Bool) → contains_key m t ≡ b → contains_key (roomy m ts) t ≡ true
    on true e = opened-contains m (missing m ts) t e
    on false e = opened-named m (missing m ts) t (filter_in (λ s. not (contains_key m s)) t ts i (ap not e))

-- no count changes where zeros are placed at tags that have none
opened-count : (m : Counts) (us : List Tag) (t : Tag) → ((u : Tag) → In u us → count_at m u ≡ pos 0) → count_at (opened m us) t ≡ count_at m t
opened-count m [] t none = refl
opened-count m (u ∷ us) t none =
    opened-count (insert m u (pos 0)) us t (λ w i. same w ∙ none w (inr i)) ∙ same t
  where
    same : (w : Tag) → count_at (insert m u (pos 0)) w ≡ count_at m w
    same w = ap (λ o. unwrap_or o (pos 0)) (get-insert tag_cmp-total m u (pos 0) w) ∙ on (eq_by_cmp tag_cmp w u) refl
      where
        on : (b : Bool) → eq_by_cmp tag_cmp w u ≡ b → unwrap_or (cond b (Some (pos 0)) (get m w)) (pos 0) ≡ count_at m w
        on true e = sym (ap (count_at m) (key_same tag_cmp-total tag_cmp-IsAntisymmetric w u e) ∙ none u (inl refl))
        on false e = refl

pub roomy-count : (m : Counts) (ts : List Tag) (t : Tag) → count_at (roomy m ts) t ≡ count_at m t
roomy-count m ts t = opened-count m (missing m ts) t (λ u i. ap (λ o. unwrap_or o (pos 0)) (no_key (get m u) (missing-AreMissing m ts u i)))

pub roomy-AreHigh : (m : Counts) (ts : List Tag) → AreHigh m ts → AreHigh (roomy m ts) ts
roomy-AreHigh m ts high t i = subst IsHigh (sym (roomy-count m ts t)) (high t i)

-- ---- lowering

pub lowered-count : (m : Counts) (ts : List Tag) (t : Tag) → count_at (lowered m ts) t ≡ (count_at m t -ℤ pos (times t ts))
unfolding times
lowered-count m [] t = omega (arith, ints)
lowered-count m (s ∷ ss) t =
    lowered-count (insert m s (count_at m s +ℤ negsuc 0)) ss t ∙ ap (λ n. n -ℤ pos (times t ss)) (once ∙ on (eq_by_cmp tag_cmp t s) refl) ∙ one_less (eq_by_cmp tag_cmp t s) (count_at m t) (times t ss)
  where
    once : count_at (insert m s (count_at m s +ℤ negsuc 0)) t ≡ unwrap_or (cond (eq_by_cmp tag_cmp t s) (Some (count_at m s +ℤ negsuc 0)) (get m t)) (pos 0)
    once = ap (λ o. unwrap_or o (pos 0)) (get-insert tag_cmp-total m s (count_at m s +ℤ negsuc 0) t)

    on : (b : Bool) → eq_by_cmp tag_cmp t s ≡ b → unwrap_or (cond b (Some (count_at m s +ℤ negsuc 0)) (get m t)) (pos 0) ≡ cond b (count_at m t +ℤ negsuc 0) (count_at m t)
    on true e = ap (λ k. count_at m k +ℤ negsuc 0) (sym (key_same tag_cmp-total tag_cmp-IsAntisymmetric t s e))
    on false e = refl

times-length : (t : Tag) (ts : List Tag) → times t ts ≤ length ts
unfolding times
times-length t [] = omega arith
times-length t (s ∷ ss) = on (eq_by_cmp tag_cmp t s) (times-length t ss)
  where
    on : (b : Bool) → times t ss ≤ length ss → cond b 1 0 + times t ss ≤ length (s ∷ ss)
    on true h = omega arith
    on false h = omega arith

length-take : (i : ℕ) (ts : List Tag) → length (take i ts) ≤ i
length-take zero ts = omega arith
length-take (suc i) [] = omega arith
length-take (suc i) (t ∷ ts) = let h = length-take i ts in omega arith

far_above : (n k : ℤ) (j : ℕ) → IsHigh n → k ≡ (n -ℤ pos j) → j < 2 ^ 62 → negsuc (2 ^ 63 - 2) ≤ℤ k
far_above n k j high is few = grind (arith, ints)

-- in a removal of fewer than 2^62 each count stays in its type
pub lowered-fits : (m : Counts) (ts : List Tag) (i : ℕ) (t : Tag) → AreHigh m ts → In t ts → i < length ts → length ts ≤ 2 ^ 62 → negsuc (2 ^ 63 - 2) ≤ℤ count_at (lowered m (take i ts)) t
lowered-fits m ts i t high here inside few =
    let some = times-length t (take i ts) in
    let front = length-take i ts in
    far_above (count_at m t) _ (times t (take i ts)) (high t here) (lowered-count m (take i ts) t) (omega arith)

pub lowered-AreKept : (m : Counts) (ts us : List Tag) → AreKept m ts → AreKept (lowered m us) ts
lowered-AreKept m ts us kept t i = lowered-contains m us t (kept t i)

-- ---- sweeping

-- no 0 is kept at the tag
NoZero : Counts → Tag → Type 0
NoZero m q = get m q ≡ held tag_cmp-total tag_cmp-IsAntisymmetric (pos 0) is_zero (count_at m q)

swept_one-count : (m : Counts) (t q : Tag) → count_at (swept m (t ∷ [])) q ≡ count_at m q
swept_one-count m t q = ap (λ o. unwrap_or o (pos 0)) (get-swept_one m t q) ∙ on (is_zero (count_at m t)) (eq_by_cmp tag_cmp q t) refl refl
  where
    on : (a b : Bool) → is_zero (count_at m t) ≡ a → eq_by_cmp tag_cmp q t ≡ b → unwrap_or (cond a (cond b None (get m q)) (get m q)) (pos 0) ≡ count_at m q
    on true true ea eb = sym (ap (count_at m) (key_same tag_cmp-total tag_cmp-IsAntisymmetric q t eb) ∙ is_zero-is _ ea)
    on true false ea eb = refl
    on false b ea eb = refl

swept-count : (m : Counts) (ts : List Tag) (q : Tag) → count_at (swept m ts) q ≡ count_at m q
swept-count m [] q = refl
swept-count m (t ∷ ts) q = swept-count (swept m (t ∷ [])) ts q ∙ swept_one-count m t q

swept_one-NoZero : (m : Counts) (t q : Tag) → (eq_by_cmp tag_cmp q t ≡ true → is_zero (count_at m q) ≡ false → get m q ≡ Some (count_at m q)) → (eq_by_cmp tag_cmp q t ≡ false → NoZero m q) → NoZero (swept m (t ∷ [])) q
unfolding NoZero
swept_one-NoZero m t q here there =
    get-swept_one m t q ∙ on (eq_by_cmp tag_cmp q t) (is_zero (count_at m q)) refl refl ∙ sym (ap (held tag_cmp-total tag_cmp-IsAntisymmetric (pos 0) is_zero) (swept_one-count m t q))
  where
    on : (a b : Bool) → eq_by_cmp tag_cmp q t ≡ a → is_zero (count_at m q) ≡ b
        → cond (is_zero (count_at m t)) (cond a None (get m q)) (get m q) ≡ held tag_cmp-total tag_cmp-IsAntisymmetric (pos 0) is_zero (count_at m q)
    on true true ea eb =
        let tie = ap (λ k. is_zero (count_at m k)) (key_same tag_cmp-total tag_cmp-IsAntisymmetric q t ea) in
        ap (λ b. cond b None (get m q)) (sym tie ∙ eb) ∙ sym (ap (λ b. cond b None (Some (count_at m q))) eb)
    on true false ea eb =
        let tie = ap (λ k. is_zero (count_at m k)) (key_same tag_cmp-total tag_cmp-IsAntisymmetric q t ea) in
        ap (λ b. cond b None (get m q)) (sym tie ∙ eb) ∙ here ea eb ∙ sym (ap (λ b. cond b None (Some (count_at m q))) eb)
    on false b ea eb = by (is_zero (count_at m t)) ∙ there ea
      where
        by : (z : Bool) → cond z (get m q) (get m q) ≡ get m q
        by true = refl
        by false = refl

some_kept : (o : Option ℤ) → is_some o ≡ true → o ≡ Some (unwrap_or o (pos 0))
some_kept None e = absurd (cc)
some_kept (Some n) e = refl

-- what passes for no 0 at a tag that isn't 0
not_zero : (m : Counts) (q : Tag) → NoZero m q → is_zero (count_at m q) ≡ false → get m q ≡ Some (count_at m q)
unfolding NoZero
not_zero m q none e = none ∙ ap (λ b. cond b None (Some (count_at m q))) e

swept-NoZero : (m : Counts) (ts : List Tag) (q : Tag) → NoZero m q → NoZero (swept m ts) q
swept-NoZero m [] q none = none
swept-NoZero m (t ∷ ts) q none = swept-NoZero (swept m (t ∷ [])) ts q (swept_one-NoZero m t q (λ a b. not_zero m q none b) (λ a. none))

swept-named : (m : Counts) (ts : List Tag) (q : Tag) → contains_key m q ≡ true → In q ts → NoZero (swept m ts) q
swept-named m [] q kept i = absurd i
swept-named m (t ∷ ts) q kept i = on (eq_by_cmp tag_cmp q t) refl i (λ stays j. swept-named (swept m (t ∷ [])) ts q stays j)
  where
    tied : t ≡ q → eq_by_cmp tag_cmp q t ≡ true
    tied s = subst (λ k. eq_by_cmp tag_cmp k t ≡ true) s (key_itself tag_cmp-total t)

    on : (b : Bool) → eq_by_cmp tag_cmp q t ≡ b → In q (t ∷ ts) → (contains_key (swept m (t ∷ [])) q ≡ true → In q ts → NoZero (swept m (t ∷ ts)) q) → NoZero (swept m (t ∷ ts)) q
    on true e i again = swept-NoZero (swept m (t ∷ [])) ts q (swept_one-NoZero m t q (λ a b. some_kept (get m q) kept) (λ a. absurd (true≢false (sym e ∙ a))))
    on false e (inl s) again = absurd (true≢false (sym (tied s) ∙ e))
    on false e (inr i) again = again (ap is_some (swept_one-apart m t q (λ s. true≢false (sym (tied s) ∙ e))) ∙ kept) i

shifted-NoZero : (m : Counts) (t q : Tag) (by : ℤ) → (eq_by_cmp tag_cmp q t ≡ false → NoZero m q) → NoZero (shifted m t by) q
unfolding NoZero
shifted-NoZero m t q by there =
    get-with_value tag_cmp-total tag_cmp-IsAntisymmetric (pos 0) is_zero m t (count_at m t +ℤ by) q ∙ on (eq_by_cmp tag_cmp q t) refl
    ∙ sym (ap (held tag_cmp-total tag_cmp-IsAntisymmetric (pos 0) is_zero) (value_at-with_value tag_cmp-total tag_cmp-IsAntisymmetric (pos 0) is_zero is_zero-is m t (count_at m t +ℤ by) q))
  where
    on : (b : Bool) → eq_by_cmp tag_cmp q t ≡ b
        → cond b (held tag_cmp-total tag_cmp-IsAntisymmetric (pos 0) is_zero (count_at m t +ℤ by)) (get m q) ≡ held tag_cmp-total tag_cmp-IsAntisymmetric (pos 0) is_zero (cond b (count_at m t +ℤ by) (count_at m q))
    on true e = refl
    on false e = there e

taken-NoZero : (m : Counts) (ts : List Tag) (q : Tag) → NoZero m q → NoZero (taken m ts) q
taken-NoZero m [] q none = none
taken-NoZero m (t ∷ ts) q none = taken-NoZero (shifted m t (negsuc 0)) ts q (shifted-NoZero m t q (negsuc 0) (λ e. none))

taken-named : (m : Counts) (ts : List Tag) (q : Tag) → In q ts → NoZero (taken m ts) q
taken-named m [] q i = absurd i
taken-named m (t ∷ ts) q (inl s) = taken-NoZero (shifted m t (negsuc 0)) ts q
    (shifted-NoZero m t q (negsuc 0) (λ e. absurd (true≢false (sym (subst (λ k. eq_by_cmp tag_cmp k t ≡ true) s (key_itself tag_cmp-total t)) ∙ e))))
taken-named m (t ∷ ts) q (inr i) = taken-named (shifted m t (negsuc 0)) ts q i

-- a removal in the room
pub taken_in_room : (m : Counts) (ts : List Tag) → swept (lowered (roomy m ts) ts) ts ≡ taken m ts
unfolding NoZero
taken_in_room m ts = same_map tag_cmp-total tag_cmp-IsAntisymmetric _ _ at
  where
    count : (q : Tag) → count_at (swept (lowered (roomy m ts) ts) ts) q ≡ count_at (taken m ts) q
    count q =
        swept-count (lowered (roomy m ts) ts) ts q ∙ lowered-count (roomy m ts) ts q ∙ ap (λ n. n -ℤ pos (times q ts)) (roomy-count m ts q) ∙ sym (count_at-taken m ts q)

    named : (q : Tag) → In q ts → NoZero (swept (lowered (roomy m ts) ts) ts) q
    named q i = swept-named (lowered (roomy m ts) ts) ts q (lowered-AreKept (roomy m ts) ts ts (roomy-AreKept m ts) q i) i

    at : (q : Tag) → get (swept (lowered (roomy m ts) ts) ts) q ≡ get (taken m ts) q
    at q = on (is_in q ts) refl
      where
        on : (b : Bool) → is_in q ts ≡ b → get (swept (lowered (roomy m ts) ts) ts) q ≡ get (taken m ts) q
        on true e =
            let i = is_in-in q ts e in
            named q i ∙ ap (held tag_cmp-total tag_cmp-IsAntisymmetric (pos 0) is_zero) (count q) ∙ sym (taken-named m ts q i)
        on false e =
            let out : In q ts → ⊥ = λ h. true≢false (sym (in-is_in q ts h) ∙ e) in
            swept-other (lowered (roomy m ts) ts) ts q out ∙ lowered-other (roomy m ts) ts q out
            ∙ opened-other m (missing m ts) q (λ i. out (in_filter (λ s. not (contains_key m s)) q ts i).0) ∙ sym (taken-other m ts q out)

pub nothing_high : IsHigh (pos 0)
nothing_high = omega (arith, ints)

-- one less than a count above the least number fits its type
pub lower_fits : (n : ℤ) → SFits w64 n → negsuc (2 ^ 63 - 2) ≤ℤ n → SFits w64 (n +ℤ negsuc 0)
lower_fits n fits low = grind (arith, ints)
