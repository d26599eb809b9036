-- The set keeps the laws of a replicated type.
use Rattle.std.proofs.Common.{◌≡◌, ℕ, List, [], ◌∷◌, Bool, true, false, cond, refl, sym, ap, ◌∙◌, subst, true≢false, inl, inr, arith, eqb-true}
use Rattle.std.proofs.lemmas.Bool.{and_parts}
use Rattle.std.specs.Cmp.{both_ways}
use Rattle.std.specs.Cmp.Lexicographic.{slice_cmp, nat_list_cmp_total}
use Rattle.std.specs.FinMap.{IsAntisymmetric, slice_cmp-IsAntisymmetric, nat_cmp-IsAntisymmetric, empty, empty_of_len, entries, entries_sorted, get-empty}
use Rattle.std.specs.List.{list_any, cons_option}
use Rattle.std.specs.Ordering.{eq_by_cmp, nat_cmp}
use Rattle.std.specs.Prelude.{Option, Some, None, ◌↔◌, filter, filter_map, unwrap_or, if◌then◌else◌, ◌&&◌, not}
use Rattle.us_kind.proofs.ListLemmas.{in_filter, filter_in}
use Rattle.us_kind.proofs.TestLemmas.{bytes_eq-true}
use Rattle.us_kind.specs.Ascending.{ascending-rises, ascending_in, in_ascending, rises_same}
use Rattle.us_kind.specs.Histories.{in_any}
use Rattle.us_kind.specs.Updates.{Stamped, Commutes, CountsUpdates, AnswersInOrder, WasPrepared, IsHistory, before, state_after, updates_of, with_sums}
use Rattle.us_kind.specs.Comparison.{In, ascending, bytes_eq, tag_of}
use Rattle.us_kind.specs.declared.identity.Stamp.{Stamp}
use Rattle.us_kind.specs.declared.identity.Tag.{Tag}
use Rattle.us_kind.specs.Defaults.{changed-commutes, value_at-with_value, key_same, key_itself}
use Rattle.us_sets.specs.Elements.{Elements}
use Rattle.us_kind.specs.Keys.{keys_where, keys_where-passes, passes-keys_where, keys_where-rises}
use Rattle.us_sets.specs.Marks.{Counts, Move, Put, Take, Still, is_nothing, is_live, live_tags, moved, marks_after}
use Rattle.us_sets.specs.MarksLaws.{Follows, is_live-empty, moved-commutes, marks_after-with_sums, is_live-marks_after, follows_addition, follows_nothing}
use Rattle.us_sets.specs.MarksLaws.{follows_removal}
use Rattle.us_sets.specs.Set.{marks_of, set_initial, element_of, move_of, set_updated, set_answered, set_prepared, set_reads, adds, removes, added}
use Rattle.us_sets.specs.Set.{is_member, set_value}
use Rattle.us_sets.specs.declared.set.SetOp.{SetOp}
use Rattle.us_sets.specs.declared.set.SetOp.TheVariants.{SetMembers, SetContains, SetAdd, SetRemove}
use Rattle.us_sets.specs.declared.set.SetEffect.{SetEffect}
use Rattle.us_sets.specs.declared.set.SetEffect.TheVariants.{SetAdd as Added, SetRemove as Removed}
use Rattle.us_sets.specs.declared.set.SetAnswer.TheVariants.{Values, Bit}

one_by_bytes : IsAntisymmetric (slice_cmp nat_cmp)
one_by_bytes = slice_cmp-IsAntisymmetric nat_cmp-IsAntisymmetric

is_nothing-is : (m : Counts) → is_nothing m ≡ true → m ≡ empty
is_nothing-is m e = empty_of_len m (eqb-true _ _ e)

pub set-commutes : Commutes set_updated
set-commutes s a b m n =
    changed-commutes nat_list_cmp_total one_by_bytes empty is_nothing is_nothing-is s (element_of a) (element_of b)
    (λ c. moved c (move_of a) (tag_of m)) (λ c. moved c (move_of b) (tag_of n)) (λ c. moved-commutes c (move_of a) (move_of b) (tag_of m) (tag_of n))

pub set-reads : (tag : Tag) (op : SetOp) (s : Elements) → (set_prepared tag op s ≡ None) ↔ (set_reads op ≡ true)
set-reads tag SetMembers s = (λ e. refl, λ e. refl)
set-reads tag (SetContains x) s = (λ e. refl, λ e. refl)
set-reads tag (SetAdd x) s = (λ e. absurd (cc), λ e. absurd (cc))
set-reads tag (SetRemove x) s = (λ e. absurd (cc), λ e. absurd (cc))

pub set-counts : CountsUpdates set_initial set_updated (λ s. 0)
set-counts = record { none = refl; one_more = λ s e m. omega arith }

-- ---- the marks of one element

bytes_eq-itself : (x : List ℕ) → bytes_eq x x ≡ true
bytes_eq-itself [] = refl
bytes_eq-itself (n ∷ x) = rw (bytes_eq-itself x) (grind arith)

same_bytes : (x y : List ℕ) → eq_by_cmp (slice_cmp nat_cmp) x y ≡ bytes_eq x y
same_bytes x y = both_ways _ _
    (λ e. subst (λ z. bytes_eq x z ≡ true) (key_same nat_list_cmp_total one_by_bytes x y e) (bytes_eq-itself x))
    (λ e. subst (λ z. eq_by_cmp (slice_cmp nat_cmp) x z ≡ true) (bytes_eq-true x y e) (key_itself nat_list_cmp_total x))

-- what an effect does to the marks of an element
abbrev moves : List ℕ → SetEffect → Move
moves x e = if bytes_eq x (element_of e) then move_of e else Still

marks_of-updated : (s : Elements) (e : SetEffect) (m : Stamp) (x : List ℕ) → marks_of (set_updated s e m) x ≡ moved (marks_of s x) (moves x e) (tag_of m)
marks_of-updated s e m x =
    value_at-with_value nat_list_cmp_total one_by_bytes empty is_nothing is_nothing-is s (element_of e)
    (moved (marks_of s (element_of e)) (move_of e) (tag_of m)) x
    ∙ ap (λ b. cond b (moved (marks_of s (element_of e)) (move_of e) (tag_of m)) (marks_of s x)) (same_bytes x (element_of e))
    ∙ on (bytes_eq x (element_of e)) refl
  where
    on : (b : Bool) → bytes_eq x (element_of e) ≡ b
        → cond b (moved (marks_of s (element_of e)) (move_of e) (tag_of m)) (marks_of s x) ≡ moved (marks_of s x) (cond b (move_of e) Still) (tag_of m)
    on true t = ap (λ y. moved (marks_of s y) (move_of e) (tag_of m)) (sym (bytes_eq-true x (element_of e) t))
    on false t = refl

as_marks : (x : List ℕ) (s : Elements) (us : List (Stamped SetOp SetEffect))
    → marks_of (state_after set_updated s us) x ≡ marks_after (moves x) (marks_of s x) us
as_marks x s [] = refl
as_marks x s (u ∷ us) = as_marks x (set_updated s u.effect u.stamp) us ∙ ap (λ m. marks_after (moves x) m us) (marks_of-updated s u.effect u.stamp x)

marks_of-initial : (x : List ℕ) → marks_of set_initial x ≡ empty
marks_of-initial x = ap (λ r. unwrap_or r empty) (get-empty (slice_cmp nat_cmp) x)

module _ (after : Tag → Tag → Bool) (us : List (Stamped SetOp SetEffect)) (x : List ℕ) (u : Stamped SetOp SetEffect)
    (s : Elements) (met : (y : List ℕ) → marks_of s y ≡ marks_after (moves y) empty (before after u us)) where
  follows : (op : SetOp) → u.op ≡ op → set_prepared (tag_of u.stamp) op s ≡ Some u.effect → Follows (moves x) (adds x) (removes x) after us u
  follows SetMembers e made = absurd (cc)
  follows (SetContains y) e made = absurd (cc)
  follows (SetAdd y) e made = on (bytes_eq x y) refl
    where
      effect : u.effect ≡ Added y
      effect = cc

      on : (b : Bool) → bytes_eq x y ≡ b → Follows (moves x) (adds x) (removes x) after us u
      on true t = follows_addition (moves x) (adds x) (removes x) after us u (ap (moves x) effect ∙ ap (λ b. cond b Put Still) t) (ap (adds x) e
          ∙ t) (ap (removes x) e)
      on false t = follows_nothing (moves x) (adds x) (removes x) after us u (ap (moves x) effect ∙ ap (λ b. cond b Put Still) t) (ap (adds x) e
          ∙ t) (ap (removes x) e)
  follows (SetRemove y) e made = on (bytes_eq x y) refl
    where
      effect : u.effect ≡ Removed y (live_tags (marks_of s y))
      effect = cc

      on : (b : Bool) → bytes_eq x y ≡ b → Follows (moves x) (adds x) (removes x) after us u
      on true t =
          let same = bytes_eq-true x y t in
          follows_removal (moves x) (adds x) (removes x) after us u (marks_of s y) (ap (marks_of s) (sym same) ∙ met x)
          (ap (moves x) effect ∙ ap (λ b. cond b (Take (live_tags (marks_of s y))) Still) t) (ap (adds x) e) (ap (removes x) e ∙ t)
      on false t = follows_nothing (moves x) (adds x) (removes x) after us u (ap (moves x) effect
          ∙ ap (λ b. cond b (Take (live_tags (marks_of s y))) Still) t) (ap (adds x) e) (ap (removes x) e ∙ t)

prepared_follows : (after : Tag → Tag → Bool) (us : List (Stamped SetOp SetEffect)) (x : List ℕ) (u : Stamped SetOp SetEffect)
    → WasPrepared set_initial set_updated set_prepared after us u → Follows (moves x) (adds x) (removes x) after us u
prepared_follows after us x u h =
    let earlier = before after u us in
    follows after us x u (state_after set_updated set_initial (with_sums h.sum earlier))
    (λ y. as_marks y set_initial (with_sums h.sum earlier) ∙ marks_after-with_sums (moves y) h.sum (marks_of set_initial y) earlier
    ∙ ap (λ m. marks_after (moves y) m earlier) (marks_of-initial y))
    u.op refl h.effect

-- an element's marks say whether it is a member
is_live-member : (after : Tag → Tag → Bool) (us : List (Stamped SetOp SetEffect)) → IsHistory set_initial set_updated set_prepared after us → (x : List ℕ)
    → is_live (marks_of (state_after set_updated set_initial us) x) ≡ is_member (updates_of us) after x
is_live-member after us history x =
    ap is_live (as_marks x set_initial us ∙ ap (λ m. marks_after (moves x) m us) (marks_of-initial x))
    ∙ is_live-marks_after (moves x) (adds x) (removes x) after us history.ordered (λ u i. prepared_follows after us x u (history.made u i))

-- ---- the members

in_added : (us : List (Stamped SetOp SetEffect)) (u : Stamped SetOp SetEffect) (x : List ℕ) → In u us → added u.op ≡ Some x
    → In x (filter_map (λ v. added v.op) (updates_of us))
in_added [] u x i e = absurd i
in_added (v ∷ us) u x (inl same) e = rw (ap (λ (w : Stamped _ _). added w.op) same ∙ e) (inl refl)
in_added (v ∷ us) u x (inr i) e = on (added v.op) (in_added us u x i e)
  where
    on : (o : Option (List ℕ)) → In x (filter_map (λ v. added v.op) (updates_of us)) → In x (cons_option o (filter_map (λ v. added v.op) (updates_of us)))
    on None i = i
    on (Some y) i = inr i

adds_added : (x : List ℕ) (op : SetOp) → adds x op ≡ true → added op ≡ Some x
adds_added x SetMembers e = absurd (true≢false (sym e))
adds_added x (SetContains y) e = absurd (true≢false (sym e))
adds_added x (SetAdd y) e = ap Some (sym (bytes_eq-true x y e))
adds_added x (SetRemove y) e = absurd (true≢false (sym e))

-- a member was added
member_added : (after : Tag → Tag → Bool) (us : List (Stamped SetOp SetEffect)) (x : List ℕ) → is_member (updates_of us) after x ≡ true
    → In x (filter_map (λ v. added v.op) (updates_of us))
member_added after us x h =
    let found = in_any (λ u. adds x u.op && not (list_any (λ v. removes x v.op && after v.tag u.tag) (updates_of us))) us h in
    in_added us found.0 x found.1 (adds_added x (found.0).op (and_parts _ _ found.2).0)

members : (after : Tag → Tag → Bool) (us : List (Stamped SetOp SetEffect)) → IsHistory set_initial set_updated set_prepared after us
    → keys_where is_live (entries (state_after set_updated set_initial us))
    ≡ ascending (filter (is_member (updates_of us) after) (filter_map (λ v. added v.op) (updates_of us)))
members after us history =
    let s = state_after set_updated set_initial us in
    let all = filter_map (λ v. added v.op) (updates_of us) in
    let member = is_member (updates_of us) after in
    rises_same _ _ (keys_where-rises is_live (entries s) (entries_sorted s)) (ascending-rises (filter member all))
    (λ z i. let live = keys_where-passes nat_list_cmp_total one_by_bytes is_live empty is_live-empty s z i in
    let is = sym (is_live-member after us history z) ∙ live in
    in_ascending z (filter member all) (filter_in member z all (member_added after us z is) is))
    (λ z i. let is = (in_filter member z all (ascending_in z (filter member all) i)).1 in
    passes-keys_where nat_list_cmp_total one_by_bytes is_live empty is_live-empty s z (is_live-member after us history z ∙ is))

pub set-in_order : AnswersInOrder set_initial set_updated set_answered set_prepared set_value
set-in_order after us history SetMembers = ap Values (members after us history)
set-in_order after us history (SetContains x) = ap Bit (is_live-member after us history x)
set-in_order after us history (SetAdd x) = refl
set-in_order after us history (SetRemove x) = refl
