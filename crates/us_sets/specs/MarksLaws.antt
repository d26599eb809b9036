-- Counts may be changed in any order, and say what is there.
use Rattle.std.proofs.Common.{◌≡◌, ℕ, zero, suc, ◌+◌, ◌≤◌, List, [], ◌∷◌, Bool, true, false, cond, refl, sym, ap, ◌∙◌, subst, true≢false, inl, inr, arith}
use Rattle.std.specs.Prelude.{ℤ, pos, negsuc, ◌+ℤ◌, ◌-ℤ◌, not, ◌&&◌, unwrap_or}
use Rattle.std.proofs.lemmas.Bool.{and_parts}
use Rattle.std.proofs.lemmas.Int.{ints}
use Rattle.std.specs.Cmp.{both_ways}
use Rattle.std.specs.FinMap.{empty, entries, get-empty}
use Rattle.std.specs.List.{list_any}
use Rattle.std.specs.Ordering.{eq_by_cmp}
use Rattle.us_kind.proofs.ListLemmas.{in_filter, filter_in}
use Rattle.us_kind.specs.Histories.{any_in, in_any}
use Rattle.us_kind.specs.Tags.{tag_cmp, tag_cmp-total, tag_cmp-IsAntisymmetric}
use Rattle.us_kind.specs.Updates.{Update, Stamped, All, AllLater, StandsBefore, before, updates_of, update_of, with_sums}
use Rattle.us_kind.specs.Comparison.{In, tag_of}
use Rattle.us_kind.specs.declared.identity.Tag.{Tag}
use Rattle.us_kind.specs.Defaults.{changed-commutes, value_at-with_value, key_same, key_itself}
use Rattle.us_kind.specs.Keys.{keys_where-passes, passes-keys_where, any-keys_where, keys_where-any}
use Rattle.us_sets.specs.Marks.{Counts, count_at, shifted, taken, is_zero, is_positive, live_tags, is_live, Move, Put, Take, Still, moved, marks_after}
use Rattle.us_sets.specs.Marks.{is_there}

-- ---- any order

pub is_zero-is : (n : ℤ) → is_zero n ≡ true → n ≡ pos 0
is_zero-is n e = grind (arith, ints)

shifted-shifted : (m : Counts) (s t : Tag) (a b : ℤ) → shifted (shifted m s a) t b ≡ shifted (shifted m t b) s a
shifted-shifted m s t a b =
    changed-commutes tag_cmp-total tag_cmp-IsAntisymmetric (pos 0) is_zero is_zero-is m s t (λ n. n +ℤ a) (λ n. n +ℤ b) (λ n. omega (arith, ints))

shifted-taken : (m : Counts) (ts : List Tag) (t : Tag) (a : ℤ) → shifted (taken m ts) t a ≡ taken (shifted m t a) ts
shifted-taken m [] t a = refl
shifted-taken m (s ∷ ts) t a = shifted-taken (shifted m s (negsuc 0)) ts t a ∙ ap (λ n. taken n ts) (shifted-shifted m s t (negsuc 0) a)

taken-taken : (m : Counts) (ss ts : List Tag) → taken (taken m ss) ts ≡ taken (taken m ts) ss
taken-taken m [] ts = refl
taken-taken m (s ∷ ss) ts = taken-taken (shifted m s (negsuc 0)) ss ts ∙ ap (λ n. taken n ss) (sym (shifted-taken m ts s (negsuc 0)))

pub moved-commutes : (m : Counts) (a b : Move) (s t : Tag) → moved (moved m a s) b t ≡ moved (moved m b t) a s
moved-commutes m Put Put s t = shifted-shifted m s t (pos 1) (pos 1)
moved-commutes m Put (Take ts) s t = sym (shifted-taken m ts s (pos 1))
moved-commutes m Put Still s t = refl
moved-commutes m (Take ss) Put s t = shifted-taken m ss t (pos 1)
moved-commutes m (Take ss) (Take ts) s t = taken-taken m ss ts
moved-commutes m (Take ss) Still s t = refl
moved-commutes m Still b s t = refl

-- ---- what is counted

-- how often a tag stands in a list
unfoldable pub times : Tag → List Tag → ℕ
times t [] = 0
times t (s ∷ ss) = cond (eq_by_cmp tag_cmp t s) 1 0 + times t ss

-- whether an effect adds
abbrev pub puts : Move → Bool
puts Put = true
puts (Take ts) = false
puts Still = false

-- what an effect takes away
abbrev pub tags_of : Move → List Tag
tags_of Put = []
tags_of (Take ts) = ts
tags_of Still = []

-- how often the effects add the tag, and how often they take it away
additions : {O E : Type 0} → (E → Move) → Tag → List (Stamped O E) → ℕ
additions move t [] = 0
additions move t (u ∷ us) = cond (puts (move u.effect) && eq_by_cmp tag_cmp t (tag_of u.stamp)) 1 0 + additions move t us

removals : {O E : Type 0} → (E → Move) → Tag → List (Stamped O E) → ℕ
removals move t [] = 0
removals move t (u ∷ us) = times t (tags_of (move u.effect)) + removals move t us

pub count_at-shifted : (m : Counts) (s : Tag) (a : ℤ) (t : Tag)
    → count_at (shifted m s a) t ≡ cond (eq_by_cmp tag_cmp t s) (count_at m t +ℤ a) (count_at m t)
count_at-shifted m s a t = value_at-with_value tag_cmp-total tag_cmp-IsAntisymmetric (pos 0) is_zero is_zero-is m s (count_at m s +ℤ a) t
    ∙ on (eq_by_cmp tag_cmp t s) refl
  where
    on : (b : Bool) → eq_by_cmp tag_cmp t s ≡ b → cond b (count_at m s +ℤ a) (count_at m t) ≡ cond b (count_at m t +ℤ a) (count_at m t)
    on true e = ap (λ k. count_at m k +ℤ a) (sym (key_same tag_cmp-total tag_cmp-IsAntisymmetric t s e))
    on false e = refl

pub one_less : (b : Bool) (n : ℤ) (k : ℕ) → (cond b (n +ℤ negsuc 0) n -ℤ pos k) ≡ (n -ℤ pos (cond b 1 0 + k))
one_less true n k = omega (arith, ints)
one_less false n k = omega (arith, ints)

pub count_at-taken : (m : Counts) (ts : List Tag) (t : Tag) → count_at (taken m ts) t ≡ (count_at m t -ℤ pos (times t ts))
unfolding times
count_at-taken m [] t = omega (arith, ints)
count_at-taken m (s ∷ ss) t =
    count_at-taken (shifted m s (negsuc 0)) ss t ∙ ap (λ n. n -ℤ pos (times t ss)) (count_at-shifted m s (negsuc 0) t)
    ∙ one_less (eq_by_cmp tag_cmp t s) (count_at m t) (times t ss)

count_at-moved : (m : Counts) (a : Move) (s t : Tag)
    → count_at (moved m a s) t ≡ ((count_at m t +ℤ pos (cond (puts a && eq_by_cmp tag_cmp t s) 1 0)) -ℤ pos (times t (tags_of a)))
unfolding times
count_at-moved m Put s t = count_at-shifted m s (pos 1) t ∙ on (eq_by_cmp tag_cmp t s)
  where
    on : (b : Bool) → cond b (count_at m t +ℤ pos 1) (count_at m t) ≡ ((count_at m t +ℤ pos (cond b 1 0)) -ℤ pos 0)
    on true = omega (arith, ints)
    on false = omega (arith, ints)
count_at-moved m (Take ts) s t = count_at-taken m ts t ∙ omega (arith, ints)
count_at-moved m Still s t = omega (arith, ints)

add_counts : (n : ℤ) (a b c d : ℕ) → ((((n +ℤ pos a) -ℤ pos b) +ℤ pos c) -ℤ pos d) ≡ ((n +ℤ pos (a + c)) -ℤ pos (b + d))
add_counts n a b c d = omega (arith, ints)

count_at-after : {O E : Type 0} (move : E → Move) (m : Counts) (us : List (Stamped O E)) (t : Tag)
    → count_at (marks_after move m us) t ≡ ((count_at m t +ℤ pos (additions move t us)) -ℤ pos (removals move t us))
unfolding additions removals
count_at-after move m [] t = omega (arith, ints)
count_at-after move m (u ∷ us) t =
    count_at-after move (moved m (move u.effect) (tag_of u.stamp)) us t
    ∙ ap (λ n. (n +ℤ pos (additions move t us)) -ℤ pos (removals move t us)) (count_at-moved m (move u.effect) (tag_of u.stamp) t)
    ∙ add_counts (count_at m t) _ _ _ _

-- the sums of stamps don't count
pub marks_after-with_sums : {O E : Type 0} (move : E → Move) (sum : Stamped O E → ℕ) (m : Counts) (us : List (Stamped O E))
    → marks_after move m (with_sums sum us) ≡ marks_after move m us
marks_after-with_sums move sum m [] = refl
marks_after-with_sums move sum m (u ∷ us) = marks_after-with_sums move sum (moved m (move u.effect) (tag_of u.stamp)) us

-- ---- which tags are counted

pub times_in : (t : Tag) (ts : List Tag) → 1 ≤ times t ts → In t ts
unfolding times
times_in t [] h = absurd (omega arith)
times_in t (s ∷ ss) h = on (eq_by_cmp tag_cmp t s) refl h (times_in t ss)
  where
    on : (b : Bool) → eq_by_cmp tag_cmp t s ≡ b → 1 ≤ cond b 1 0 + times t ss → (1 ≤ times t ss → In t ss) → In t (s ∷ ss)
    on true e h again = inl (sym (key_same tag_cmp-total tag_cmp-IsAntisymmetric t s e))
    on false e h again = inr (again (omega arith))

pub in_times : (t : Tag) (ts : List Tag) → In t ts → 1 ≤ times t ts
unfolding times
in_times t [] i = absurd i
in_times t (s ∷ ss) (inl e) =
    let tie : eq_by_cmp tag_cmp t s ≡ true = subst (λ k. eq_by_cmp tag_cmp k s ≡ true) e (key_itself tag_cmp-total s) in
    subst (λ b. 1 ≤ cond b 1 0 + times t ss) (sym tie) (omega arith)
in_times t (s ∷ ss) (inr i) = let h = in_times t ss i in omega arith

-- an update that adds the tag
record Adds {O E : Type 0} (move : E → Move) (t : Tag) (u : Stamped O E) : Type 0 where
  puts : puts (move u.effect) ≡ true
  tag : tag_of u.stamp ≡ t

record AddsIn {O E : Type 0} (move : E → Move) (t : Tag) (us : List (Stamped O E)) : Type 0 where
  update : Stamped O E
  here : In update us
  adds : Adds move t update

additions_in : {O E : Type 0} (move : E → Move) (t : Tag) (us : List (Stamped O E)) → 1 ≤ additions move t us → AddsIn move t us
unfolding additions
additions_in move t [] h = absurd (omega arith)
additions_in {O} {E} move t (u ∷ us) h = on (puts (move u.effect)) (eq_by_cmp tag_cmp t (tag_of u.stamp)) refl refl h (additions_in move t us)
  where
    later : AddsIn move t us → AddsIn move t (u ∷ us)
    later a = record { update = a.update; here = inr a.here; adds = a.adds }

    on : (a b : Bool) → puts (move u.effect) ≡ a → eq_by_cmp tag_cmp t (tag_of u.stamp) ≡ b → 1 ≤ cond (a && b) 1 0 + additions move t us
        → (1 ≤ additions move t us → AddsIn move t us) → AddsIn move t (u ∷ us)
    on true true ea eb h again =
        record { update = u; here = inl refl; adds = record { puts = ea; tag = sym (key_same tag_cmp-total tag_cmp-IsAntisymmetric t _ eb) } }
    on true false ea eb h again = later (again (omega arith))
    on false b ea eb h again = later (again (omega arith))

in_additions : {O E : Type 0} (move : E → Move) (t : Tag) (us : List (Stamped O E)) (u : Stamped O E) → In u us → Adds move t u → 1 ≤ additions move t us
unfolding additions
in_additions move t [] u i a = absurd i
in_additions move t (v ∷ us) u (inl e) a =
    let put : puts (move v.effect) ≡ true = ap (λ (w : Stamped _ _). puts (move w.effect)) e ∙ a.puts in
    let tag : tag_of v.stamp ≡ t = ap (λ (w : Stamped _ _). tag_of w.stamp) e ∙ a.tag in
    let tie : eq_by_cmp tag_cmp t (tag_of v.stamp)
    ≡ true = subst (λ k. eq_by_cmp tag_cmp k (tag_of v.stamp) ≡ true) tag (key_itself tag_cmp-total (tag_of v.stamp)) in
    let both : (puts (move v.effect) && eq_by_cmp tag_cmp t (tag_of v.stamp)) ≡ true = rw (put, tie) refl in
    subst (λ b. 1 ≤ cond b 1 0 + additions move t us) (sym both) (omega arith)
in_additions move t (v ∷ us) u (inr i) a = let h = in_additions move t us u i a in omega arith

-- an update that takes the tag away
record TakesIn {O E : Type 0} (move : E → Move) (t : Tag) (us : List (Stamped O E)) : Type 0 where
  update : Stamped O E
  here : In update us
  takes : In t (tags_of (move update.effect))

removals_in : {O E : Type 0} (move : E → Move) (t : Tag) (us : List (Stamped O E)) → 1 ≤ removals move t us → TakesIn move t us
unfolding removals
removals_in move t [] h = absurd (omega arith)
removals_in move t (u ∷ us) h = on (times t (tags_of (move u.effect))) refl h (removals_in move t us)
  where
    on : (n : ℕ) → times t (tags_of (move u.effect)) ≡ n → 1 ≤ n + removals move t us → (1 ≤ removals move t us → TakesIn move t us)
        → TakesIn move t (u ∷ us)
    on zero e h again = let a = again (omega arith) in record { update = a.update; here = inr a.here; takes = a.takes }
    on (suc n) e h again = record { update = u; here = inl refl; takes = times_in t _ (omega arith) }

in_removals : {O E : Type 0} (move : E → Move) (t : Tag) (us : List (Stamped O E)) (v : Stamped O E) → In v us → In t (tags_of (move v.effect))
    → 1 ≤ removals move t us
unfolding removals
in_removals move t [] v i h = absurd i
in_removals move t (u ∷ us) v (inl e) h =
    let n = in_times t _ (subst (λ (w : Stamped _ _). In t (tags_of (move w.effect))) (sym e) h) in omega arith
in_removals move t (u ∷ us) v (inr i) h = let n = in_removals move t us v i h in omega arith

-- of updates with different tags at most one adds the tag
none_adds : {O E : Type 0} (move : E → Move) (u : Stamped O E) (us : List (Stamped O E)) → All (StandsBefore u) us → additions move (tag_of u.stamp) us ≡ 0
unfolding additions
none_adds move u [] apart = refl
none_adds move u (v ∷ us) apart =
    let rest = none_adds move u us apart.1 in
    on (puts (move v.effect)) (eq_by_cmp tag_cmp (tag_of u.stamp) (tag_of v.stamp)) refl rest
  where
    on : (a b : Bool) → eq_by_cmp tag_cmp (tag_of u.stamp) (tag_of v.stamp) ≡ b → additions move (tag_of u.stamp) us ≡ 0
        → cond (a && b) 1 0 + additions move (tag_of u.stamp) us ≡ 0
    on true true e rest = absurd (apart.0.apart (key_same tag_cmp-total tag_cmp-IsAntisymmetric _ _ e))
    on true false e rest = omega arith
    on false b e rest = omega arith

at_most_one : {O E : Type 0} (move : E → Move) (t : Tag) (us : List (Stamped O E)) → AllLater StandsBefore us → additions move t us ≤ 1
unfolding additions
at_most_one move t [] order = omega arith
at_most_one move t (u ∷ us) order =
    let rest = at_most_one move t us order.1 in
    let none = none_adds move u us order.0 in
    on (puts (move u.effect)) (eq_by_cmp tag_cmp t (tag_of u.stamp)) refl rest none
  where
    on : (a b : Bool) → eq_by_cmp tag_cmp t (tag_of u.stamp) ≡ b → additions move t us ≤ 1 → additions move (tag_of u.stamp) us ≡ 0
        → cond (a && b) 1 0 + additions move t us ≤ 1
    on true true e rest none =
        let same : additions move t us
        ≡ 0 = subst (λ k. additions move k us ≡ 0) (sym (key_same tag_cmp-total tag_cmp-IsAntisymmetric _ _ e)) none in omega arith
    on true false e rest none = omega arith
    on false b e rest none = omega arith

-- ---- what is there

-- what an effect does is what its operation asks, at the counts of the updates that it is after
pub record Follows {O E : Type 0} (move : E → Move) (adds removes : O → Bool)
    (after : Tag → Tag → Bool) (us : List (Stamped O E)) (u : Stamped O E) : Type 0 where
  pub adding : puts (move u.effect) ≡ adds u.op
  pub taking : (t : Tag) → In t (tags_of (move u.effect))
      → (removes u.op ≡ true) × (is_positive (count_at (marks_after move empty (before after u us)) t) ≡ true)
  pub takes : removes u.op ≡ true → (t : Tag) → is_positive (count_at (marks_after move empty (before after u us)) t) ≡ true
      → In t (tags_of (move u.effect))

positive : (n : ℤ) (a r : ℕ) → n ≡ ((pos 0 +ℤ pos a) -ℤ pos r) → 1 ≤ a → r ≡ 0 → is_positive n ≡ true
positive n a r e h k = grind (arith, ints)

more_added : (n : ℤ) (a r : ℕ) → n ≡ ((pos 0 +ℤ pos a) -ℤ pos r) → is_positive n ≡ true → r + 1 ≤ a
more_added n a r e h = grind (arith, ints)

-- the count at a tag, from nothing
count_at-all : {O E : Type 0} (move : E → Move) (us : List (Stamped O E)) (t : Tag)
    → count_at (marks_after move empty us) t ≡ ((pos 0 +ℤ pos (additions move t us)) -ℤ pos (removals move t us))
count_at-all move us t = count_at-after move empty us t
    ∙ ap (λ r. (unwrap_or r (pos 0) +ℤ pos (additions move t us)) -ℤ pos (removals move t us)) (get-empty tag_cmp t)

not_true : (b : Bool) → (b ≡ true → ⊥) → not b ≡ true
not_true true h = absurd (h refl)
not_true false h = refl

not_not : (b : Bool) → not b ≡ true → b ≡ true → ⊥
not_not true h e = true≢false (sym h)
not_not false h e = true≢false (sym e)

zero_of : (n : ℕ) → (1 ≤ n → ⊥) → n ≡ 0
zero_of zero h = refl
zero_of (suc n) h = absurd (h (omega arith))

module _ {O E : Type 0} (move : E → Move) (adds removes : O → Bool) (after : Tag → Tag → Bool) (us : List (Stamped O E))
    (order : AllLater StandsBefore us) (follows : (u : Stamped O E) → In u us → Follows move adds removes after us u) where
  abbrev removed : Update O → Bool
  removed u = list_any (λ v. removes v.op && after v.tag u.tag) (updates_of us)

  -- what an update takes away it is after
  after_taken : (v : Stamped O E) → In v us → (t : Tag) → In t (tags_of (move v.effect)) → (removes v.op ≡ true) × (after (tag_of v.stamp) t ≡ true)
  after_taken v i t stands =
      let live = (follows v i).taking t stands in
      let update_count = count_at-all move (before after v us) t in
      let more : removals move t (before after v us) + 1 ≤ additions move t (before after v us) = more_added _ _ _ update_count live.1 in
      let added = additions_in move t (before after v us) (omega arith) in
      let found = in_filter (λ w. after (tag_of v.stamp) (tag_of w.stamp)) added.update us added.here in
      (live.0, subst (λ k. after (tag_of v.stamp) k ≡ true) added.adds.tag found.1)

  -- where an addition has been taken away, an update after it removes it
  taken_removed : (u : Stamped O E) → In u us → 1 ≤ removals move (tag_of u.stamp) us → removed (update_of u) ≡ true
  taken_removed u i h =
      let taken = removals_in move (tag_of u.stamp) us h in
      let by = after_taken taken.update taken.here (tag_of u.stamp) taken.takes in
      any_in (λ v. removes v.op && after v.tag (tag_of u.stamp)) us taken.update taken.here (rw (by.0, by.1) refl)

  -- what a removal meets is taken away, by it or by a removal before it
  met_taken : (v : Stamped O E) → In v us → removes v.op ≡ true → (t : Tag) → 1 ≤ additions move t (before after v us) → 1 ≤ removals move t us
  met_taken v i h t added = on (removals move t (before after v us)) refl
    where
      on : (n : ℕ) → removals move t (before after v us) ≡ n → 1 ≤ removals move t us
      on zero e = in_removals move t us v i ((follows v i).takes h t (positive _ _ _ (count_at-all move (before after v us) t) added e))
      on (suc n) e =
          let taken = removals_in move t (before after v us) (omega arith) in
          in_removals move t us taken.update (in_filter (λ w. after (tag_of v.stamp) (tag_of w.stamp)) taken.update us taken.here).0 taken.takes

  -- where an update after an addition removes it, it has been taken away
  removed_taken : (u : Stamped O E) → In u us → Adds move (tag_of u.stamp) u → removed (update_of u) ≡ true → 1 ≤ removals move (tag_of u.stamp) us
  removed_taken u i adds h =
      let found = in_any (λ v. removes v.op && after v.tag (tag_of u.stamp)) us h in
      let v = found.0 in
      let both = and_parts _ _ found.2 in
      let here = filter_in (λ w. after (tag_of v.stamp) (tag_of w.stamp)) u us i both.1 in
      met_taken v found.1 both.0 (tag_of u.stamp) (in_additions move (tag_of u.stamp) (before after v us) u here adds)

  live_there : is_live (marks_after move empty us) ≡ true → is_there adds removes (updates_of us) after ≡ true
  live_there h =
      let some = any-keys_where is_positive (entries (marks_after move empty us)) h in
      let t = some.0 in
      let live = keys_where-passes tag_cmp-total tag_cmp-IsAntisymmetric is_positive (pos 0) refl (marks_after move empty us) t some.1 in
      let more : removals move t us + 1 ≤ additions move t us = more_added _ _ _ (count_at-all move us t) live in
      let once = at_most_one move t us order in
      let added = additions_in move t us (omega arith) in
      let u = added.update in
      let same = added.adds.tag in
      let kept : removed (update_of u) ≡ true → ⊥ = λ r. let n = removed_taken u added.here (record { puts = added.adds.puts; tag = refl }) r in
      let m : 1 ≤ removals move t us = subst (λ k. 1 ≤ removals move k us) same n in omega arith in
      let adds_it : adds u.op ≡ true = sym (follows u added.here).adding ∙ added.adds.puts in
      any_in (λ w. adds w.op && not (removed w)) us u added.here (rw (adds_it, not_true _ kept) refl)

  there_live : is_there adds removes (updates_of us) after ≡ true → is_live (marks_after move empty us) ≡ true
  there_live h =
      let found = in_any (λ w. adds w.op && not (removed w)) us h in
      let u = found.0 in
      let both = and_parts _ _ found.2 in
      let t = tag_of u.stamp in
      let adds_it : Adds move t u = record { puts = (follows u found.1).adding ∙ both.0; tag = refl } in
      let added = in_additions move t us u found.1 adds_it in
      let kept : 1 ≤ removals move t us → ⊥ = λ r. not_not _ both.1 (taken_removed u found.1 r) in
      let live = positive _ _ _ (count_at-all move us t) added (zero_of (removals move t us) kept) in
      keys_where-any is_positive (entries (marks_after move empty us)) t
      (passes-keys_where tag_cmp-total tag_cmp-IsAntisymmetric is_positive (pos 0) refl (marks_after move empty us) t live)

  -- the counts say what the definition says
  pub is_live-marks_after : is_live (marks_after move empty us) ≡ is_there adds removes (updates_of us) after
  is_live-marks_after = both_ways _ _ live_there there_live

-- ---- what a kind shows of each update

module _ {O E : Type 0} (move : E → Move) (adds removes : O → Bool) (after : Tag → Tag → Bool) (us : List (Stamped O E)) (u : Stamped O E) where
  pub follows_addition : move u.effect ≡ Put → adds u.op ≡ true → removes u.op ≡ false → Follows move adds removes after us u
  follows_addition e a r = record {
    adding = ap puts e ∙ sym a;
    taking = λ t i. absurd (subst (λ m. In t (tags_of m)) e i);
    takes = λ h. absurd (true≢false (sym h ∙ r));
  }

  pub follows_nothing : move u.effect ≡ Still → adds u.op ≡ false → removes u.op ≡ false → Follows move adds removes after us u
  follows_nothing e a r = record {
    adding = ap puts e ∙ sym a;
    taking = λ t i. absurd (subst (λ m. In t (tags_of m)) e i);
    takes = λ h. absurd (true≢false (sym h ∙ r));
  }

  pub follows_removal : (m : Counts) → m ≡ marks_after move empty (before after u us) → move u.effect ≡ Take (live_tags m) → adds u.op ≡ false
      → removes u.op ≡ true → Follows move adds removes after us u
  follows_removal m met e a r = record {
    adding = ap puts e ∙ sym a;
    taking = λ t i. (
      r,
      subst (λ n. is_positive (count_at n t) ≡ true) met
          (keys_where-passes tag_cmp-total tag_cmp-IsAntisymmetric is_positive (pos 0) refl m t (subst (λ v. In t (tags_of v)) e i)),
    );
    takes = λ h t live. subst (λ v. In t (tags_of v)) (sym e)
        (passes-keys_where tag_cmp-total tag_cmp-IsAntisymmetric is_positive (pos 0) refl m t (subst (λ n. is_positive (count_at n t) ≡ true) (sym met) live));
  }

-- where nothing is counted, nothing is there
pub is_live-empty : is_live empty ≡ false
is_live-empty = on (is_live empty) refl
  where
    on : (b : Bool) → is_live empty ≡ b → is_live empty ≡ false
    on false e = e
    on true e =
        let some = any-keys_where is_positive (entries (empty {X = ℤ} {R = tag_cmp})) e in
        let live = keys_where-passes tag_cmp-total tag_cmp-IsAntisymmetric is_positive (pos 0) refl empty some.0 some.1 in
        absurd (true≢false (sym live ∙ ap (λ r. is_positive (unwrap_or r (pos 0))) (get-empty tag_cmp some.0)))
