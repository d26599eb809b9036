-- The multi-value register keeps the laws of a replicated type.
use Rattle.std.proofs.Common.{◌≡◌, ◌⊎◌, ℕ, List, [], ◌∷◌, Bool, true, false, cond, refl, sym, ap, ◌∙◌, subst, true≢false, inl, inr, arith}
use Rattle.std.proofs.lemmas.Bool.{and_parts}
use Rattle.std.specs.FinMap.{entries, get, insert, get-insert, get-empty, same_map}
use Rattle.std.specs.List.{list_any, cons_option}
use Rattle.std.specs.Ordering.{eq_by_cmp}
use Rattle.std.specs.Prelude.{Option, Some, None, ◌↔◌, filter, filter_map, is_some, unwrap_or, if◌then◌else◌, ◌&&◌, ◌||◌}
use Rattle.us_kind.proofs.ListLemmas.{in_filter, filter_in}
use Rattle.us_kind.proofs.TestLemmas.{bytes_eq-true}
use Rattle.us_kind.specs.Ascending.{all_in, ascending_same}
use Rattle.us_kind.specs.Defaults.{key_same, key_itself}
use Rattle.us_kind.specs.Keys.{keys_where-passes, passes-keys_where, any-keys_where, keys_where-any}
use Rattle.us_kind.specs.Orders.{bytes_not, bytes_same, bytes_trans}
use Rattle.us_kind.specs.Tags.{tag_cmp, tag_cmp-total, tag_cmp-IsAntisymmetric}
use Rattle.us_kind.specs.Histories.{any_in, in_any}
use Rattle.us_kind.specs.Updates.{Update, Stamped, All, AllLater, StandsBefore, Commutes, CountsUpdates, AnswersInOrder, WasPrepared, before, state_after}
use Rattle.us_kind.specs.Updates.{update_of, updates_of, with_sums}
use Rattle.us_kind.specs.Comparison.{In, bytes_eq, bytes_less, tag_of}
use Rattle.us_kind.specs.declared.identity.Stamp.{Stamp}
use Rattle.us_kind.specs.declared.identity.Tag.{Tag}
use Rattle.us_multi.specs.Multi.{multi_initial, multi_updated, multi_answered, multi_prepared, multi_reads, writes, value_of, is_overwritten, multi_value}
use Rattle.us_multi.specs.Writes.{Writes, greater, written, overwritten, live_tags}
use Rattle.us_multi.specs.declared.multi.MultiOp.{MultiOp}
use Rattle.us_multi.specs.declared.multi.MultiOp.TheVariants.{MultiRead, MultiWrite}
use Rattle.us_multi.specs.declared.multi.MultiEffect.{MultiEffect}
use Rattle.us_multi.specs.declared.multi.MultiEffect.TheVariants.{MultiWrite as Written}
use Rattle.us_multi.specs.declared.multi.MultiAnswer.TheVariants.{Values}

-- ---- any order

pub tie : Tag → Tag → Bool
tie q t = eq_by_cmp tag_cmp q t

pub tie_same : (q t : Tag) → tie q t ≡ true → q ≡ t
unfolding tie
tie_same q t e = key_same tag_cmp-total tag_cmp-IsAntisymmetric q t e

pub tie_itself : (t : Tag) → tie t t ≡ true
unfolding tie
tie_itself t = key_itself tag_cmp-total t

-- some of these is the tag
pub is_in : Tag → List Tag → Bool
is_in t ts = list_any (λ s. tie t s) ts

-- what an effect leaves at a tag
at_tag : Tag → Option (Option (List ℕ)) → MultiEffect → Tag → Option (Option (List ℕ))
at_tag q o (Written v ts) t = cond (tie q t) (Some (written v (cond (is_in q ts) (Some None) o))) (cond (is_in q ts) (Some None) o)

pub get-overwritten : (m : Writes) (ts : List Tag) (q : Tag) → get (overwritten m ts) q ≡ cond (is_in q ts) (Some None) (get m q)
unfolding is_in tie
get-overwritten m [] q = refl
get-overwritten m (t ∷ ts) q = get-overwritten (insert m t None) ts q ∙ ap (cond (is_in q ts) (Some None)) (get-insert tag_cmp-total m t None q)
    ∙ on (tie q t) (is_in q ts)
  where
    on : (a b : Bool) → cond b (Some None) (cond a (Some None) (get m q)) ≡ cond (a || b) (Some None) (get m q)
    on true true = refl
    on true false = refl
    on false b = refl

get-updated : (m : Writes) (e : MultiEffect) (st : Stamp) (q : Tag) → get (multi_updated m e st) q ≡ at_tag q (get m q) e (tag_of st)
unfolding at_tag tie
get-updated m (Written v ts) st q =
    get-insert tag_cmp-total (overwritten m ts) (tag_of st) (written v (get (overwritten m ts) (tag_of st))) q
    ∙ on (tie q (tag_of st)) refl
  where
    on : (b : Bool) → tie q (tag_of st) ≡ b → cond b (Some (written v (get (overwritten m ts) (tag_of st)))) (get (overwritten m ts) q)
        ≡ cond b (Some (written v (cond (is_in q ts) (Some None) (get m q)))) (cond (is_in q ts) (Some None) (get m q))
    on true e = ap (λ k. Some (written v (get (overwritten m ts) k))) (sym (tie_same q (tag_of st) e))
        ∙ ap (λ o. Some (written v o)) (get-overwritten m ts q)
    on false e = get-overwritten m ts q

greater_two : (v w : List ℕ) → greater v w ≡ greater w v
greater_two v w = on (bytes_less v w) (bytes_less w v) refl refl
  where
    on : (a b : Bool) → bytes_less v w ≡ a → bytes_less w v ≡ b → cond a w v ≡ cond b v w
    on true true ea eb = absurd (true≢false (sym eb ∙ bytes_not v w ea))
    on true false ea eb = refl
    on false true ea eb = refl
    on false false ea eb = bytes_same v w ea eb

-- the greater of two is the one that isn't below a third that the other is below
greater_above : (v w x : List ℕ) → bytes_less v x ≡ true → bytes_less w x ≡ false → greater v w ≡ w
greater_above v w x h k = on (bytes_less v w) (bytes_less w v) refl refl
  where
    on : (a b : Bool) → bytes_less v w ≡ a → bytes_less w v ≡ b → cond a w v ≡ w
    on true b ea eb = refl
    on false true ea eb = absurd (true≢false (sym (bytes_trans w v x eb h) ∙ k))
    on false false ea eb = bytes_same v w ea eb

greater_three : (v w x : List ℕ) → greater w (greater v x) ≡ greater v (greater w x)
greater_three v w x = on (bytes_less v x) (bytes_less w x) refl refl
  where
    on : (a b : Bool) → bytes_less v x ≡ a → bytes_less w x ≡ b → greater w (cond a x v) ≡ greater v (cond b x w)
    on true true ea eb = ap (λ c. cond c x w) eb ∙ sym (ap (λ c. cond c x v) ea)
    on true false ea eb = ap (λ c. cond c x w) eb ∙ sym (greater_above v w x ea eb)
    on false true ea eb = greater_above w v x eb ea ∙ sym (ap (λ c. cond c x v) ea)
    on false false ea eb = greater_two w v

written-written : (v w : List ℕ) (o : Option (Option (List ℕ))) → written w (Some (written v o)) ≡ written v (Some (written w o))
written-written v w None = ap Some (greater_two w v)
written-written v w (Some None) = refl
written-written v w (Some (Some x)) = ap Some (greater_three v w x)

-- two effects leave the same at a tag in either order
at_tag-commutes : (q : Tag) (o : Option (Option (List ℕ))) (a b : MultiEffect) (s t : Tag) → at_tag q (at_tag q o a s) b t ≡ at_tag q (at_tag q o b t) a s
unfolding at_tag
at_tag-commutes q o (Written v ss) (Written w ts) s t = on (tie q s) (tie q t) (is_in q ss) (is_in q ts)
  where
    on : (x y a b : Bool)
        → cond y (Some (written w (cond b (Some None) (cond x (Some (written v (cond a (Some None) o))) (cond a (Some None) o)))))
        (cond b (Some None) (cond x (Some (written v (cond a (Some None) o))) (cond a (Some None) o)))
        ≡ cond x (Some (written v (cond a (Some None) (cond y (Some (written w (cond b (Some None) o))) (cond b (Some None) o)))))
        (cond a (Some None) (cond y (Some (written w (cond b (Some None) o))) (cond b (Some None) o)))
    on true true true true = refl
    on true true true false = refl
    on true true false true = refl
    on true true false false = ap Some (written-written v w o)
    on true false true true = refl
    on true false true false = refl
    on true false false true = refl
    on true false false false = refl
    on false true true true = refl
    on false true true false = refl
    on false true false true = refl
    on false true false false = refl
    on false false true true = refl
    on false false true false = refl
    on false false false true = refl
    on false false false false = refl

pub multi-commutes : Commutes multi_updated
multi-commutes m a b s t = same_map tag_cmp-total tag_cmp-IsAntisymmetric _ _ (λ q.
    get-updated (multi_updated m a s) b t q ∙ ap (λ o. at_tag q o b (tag_of t)) (get-updated m a s q)
    ∙ at_tag-commutes q (get m q) a b (tag_of s) (tag_of t)
    ∙ sym (ap (λ o. at_tag q o a (tag_of s)) (get-updated m b t q)) ∙ sym (get-updated (multi_updated m b t) a s q))

pub multi-reads : (tag : Tag) (op : MultiOp) (m : Writes) → (multi_prepared tag op m ≡ None) ↔ (multi_reads op ≡ true)
multi-reads tag MultiRead m = (λ e. refl, λ e. refl)
multi-reads tag (MultiWrite v) m = (λ e. absurd (cc), λ e. absurd (cc))

pub multi-counts : CountsUpdates multi_initial multi_updated (λ m. 0)
multi-counts = record { none = refl; one_more = λ m e s. omega arith }

-- ---- one tag through a history

tags_of : MultiEffect → List Tag
tags_of (Written v ts) = ts

worth : MultiEffect → List ℕ
worth (Written v ts) = v

-- what is kept at a tag after the effects
entry_after : Tag → Option (Option (List ℕ)) → List (Stamped MultiOp MultiEffect) → Option (Option (List ℕ))
entry_after q o [] = o
entry_after q o (u ∷ us) = entry_after q (at_tag q o u.effect (tag_of u.stamp)) us

get-after : (m : Writes) (us : List (Stamped MultiOp MultiEffect)) (q : Tag) → get (state_after multi_updated m us) q ≡ entry_after q (get m q) us
unfolding entry_after
get-after m [] q = refl
get-after m (u ∷ us) q = get-after (multi_updated m u.effect u.stamp) us q ∙ ap (λ o. entry_after q o us) (get-updated m u.effect u.stamp q)

entry_after-with_sums : (sum : Stamped MultiOp MultiEffect → ℕ) (q : Tag) (o : Option (Option (List ℕ))) (us : List (Stamped MultiOp MultiEffect))
    → entry_after q o (with_sums sum us) ≡ entry_after q o us
unfolding entry_after
entry_after-with_sums sum q o [] = refl
entry_after-with_sums sum q o (u ∷ us) = entry_after-with_sums sum q (at_tag q o u.effect (tag_of u.stamp)) us

-- an effect names the tag
names : Tag → MultiEffect → Bool
names q e = is_in q (tags_of e)

at_tag-gone : (q : Tag) (e : MultiEffect) (t : Tag) → at_tag q (Some None) e t ≡ Some None
unfolding at_tag
at_tag-gone q (Written v ts) t = on (tie q t) (is_in q ts)
  where
    on : (a b : Bool) → cond a (Some (written v (cond b (Some None) (Some None)))) (cond b (Some None) (Some None)) ≡ Some None
    on true true = refl
    on true false = refl
    on false true = refl
    on false false = refl

at_tag-named : (q : Tag) (o : Option (Option (List ℕ))) (e : MultiEffect) (t : Tag) → names q e ≡ true → at_tag q o e t ≡ Some None
unfolding at_tag names tags_of
at_tag-named q o (Written v ts) t h = on (tie q t) (is_in q ts) h
  where
    on : (a b : Bool) → b ≡ true → cond a (Some (written v (cond b (Some None) o))) (cond b (Some None) o) ≡ Some None
    on true true h = refl
    on false true h = refl
    on a false h = absurd (true≢false (sym h))

at_tag-other : (q : Tag) (o : Option (Option (List ℕ))) (e : MultiEffect) (t : Tag) → names q e ≡ false → tie q t ≡ false → at_tag q o e t ≡ o
unfolding at_tag names tags_of
at_tag-other q o (Written v ts) t h k = ap (λ b. cond b (Some (written v (cond (is_in q ts) (Some None) o))) (cond (is_in q ts) (Some None) o)) k
    ∙ ap (λ b. cond b (Some None) o) h

at_tag-own : (q : Tag) (e : MultiEffect) (t : Tag) → names q e ≡ false → tie q t ≡ true → at_tag q None e t ≡ Some (Some (worth e))
unfolding at_tag names tags_of worth
at_tag-own q (Written v ts) t h k =
    ap (λ b. cond b (Some (written v (cond (is_in q ts) (Some None) None))) (cond (is_in q ts) (Some None) None)) k
    ∙ ap (λ b. Some (written v (cond b (Some None) None))) h

gone_stays : (q : Tag) (us : List (Stamped MultiOp MultiEffect)) → entry_after q (Some None) us ≡ Some None
unfolding entry_after
gone_stays q [] = refl
gone_stays q (u ∷ us) = ap (λ o. entry_after q o us) (at_tag-gone q u.effect (tag_of u.stamp)) ∙ gone_stays q us

named_gone : (q : Tag) (o : Option (Option (List ℕ))) (us : List (Stamped MultiOp MultiEffect)) (u : Stamped MultiOp MultiEffect) → In u us
    → names q u.effect ≡ true → entry_after q o us ≡ Some None
unfolding entry_after
named_gone q o [] u i h = absurd i
named_gone q o (v ∷ us) u (inl e) h =
    ap (λ o. entry_after q o us) (at_tag-named q o v.effect (tag_of v.stamp) (ap (λ (w : Stamped MultiOp MultiEffect). names q w.effect) e ∙ h))
    ∙ gone_stays q us
named_gone q o (v ∷ us) u (inr i) h = named_gone q (at_tag q o v.effect (tag_of v.stamp)) us u i h

-- no effect names the tag
abbrev Unnamed : Tag → List (Stamped MultiOp MultiEffect) → Type 0
Unnamed q us = (u : Stamped MultiOp MultiEffect) → In u us → names q u.effect ≡ false

other_stays : (u : Stamped MultiOp MultiEffect) (o : Option (Option (List ℕ))) (us : List (Stamped MultiOp MultiEffect)) → Unnamed (tag_of u.stamp) us
    → All (StandsBefore u) us → entry_after (tag_of u.stamp) o us ≡ o
unfolding entry_after
other_stays u o [] unnamed apart = refl
other_stays u o (v ∷ us) unnamed apart =
    ap (λ o. entry_after (tag_of u.stamp) o us)
    (at_tag-other (tag_of u.stamp) o v.effect (tag_of v.stamp) (unnamed v (inl refl)) (on (tie (tag_of u.stamp) (tag_of v.stamp)) refl))
    ∙ other_stays u o us (λ w i. unnamed w (inr i)) apart.1
  where
    on : (b : Bool) → tie (tag_of u.stamp) (tag_of v.stamp) ≡ b → tie (tag_of u.stamp) (tag_of v.stamp) ≡ false
    on false e = e
    on true e = absurd (apart.0.apart (tie_same _ _ e))

-- either some effect names the tag, or none does
any_named : (q : Tag) (us : List (Stamped MultiOp MultiEffect)) → ((v : Stamped MultiOp MultiEffect) × In v us × (names q v.effect ≡ true)) ⊎ Unnamed q us
any_named q [] = inr (λ u i. absurd i)
any_named q (u ∷ us) = on (names q u.effect) refl (any_named q us)
  where
    on : (b : Bool) → names q u.effect ≡ b → ((v : Stamped MultiOp MultiEffect) × In v us × (names q v.effect ≡ true)) ⊎ Unnamed q us
        → ((v : Stamped MultiOp MultiEffect) × In v (u ∷ us) × (names q v.effect ≡ true)) ⊎ Unnamed q (u ∷ us)
    on true e rest = inl (u, inl refl, e)
    on false e (inl v) = inl (v.0, inr v.1, v.2)
    on false e (inr none) = inr none_here
      where
        none_here : Unnamed q (u ∷ us)
        none_here w (inl s) = ap (λ (x : Stamped MultiOp MultiEffect). names q x.effect) (sym s) ∙ e
        none_here w (inr i) = none w i

-- a write that no effect names is kept
kept : (q : Tag) (us : List (Stamped MultiOp MultiEffect)) (u : Stamped MultiOp MultiEffect) → AllLater StandsBefore us → Unnamed q us → In u us
    → tag_of u.stamp ≡ q → entry_after q None us ≡ Some (Some (worth u.effect))
unfolding entry_after
kept q [] u order unnamed i t = absurd i
kept q (v ∷ us) u order unnamed (inl e) t =
    let own : tag_of v.stamp ≡ q = ap (λ (w : Stamped MultiOp MultiEffect). tag_of w.stamp) e ∙ t in
    ap (λ o. entry_after q o us)
    (at_tag-own q v.effect (tag_of v.stamp) (unnamed v (inl refl)) (subst (λ k. tie k (tag_of v.stamp) ≡ true) own (tie_itself (tag_of v.stamp))))
    ∙ subst (λ k. entry_after k (Some (Some (worth v.effect))) us ≡ Some (Some (worth v.effect))) own
    (other_stays v (Some (Some (worth v.effect))) us (λ w i. subst (λ k. names k w.effect ≡ false) (sym own) (unnamed w (inr i))) order.0)
    ∙ ap (λ (w : Stamped MultiOp MultiEffect). Some (Some (worth w.effect))) e
kept q (v ∷ us) u order unnamed (inr i) t =
    ap (λ o. entry_after q o us) (at_tag-other q None v.effect (tag_of v.stamp) (unnamed v (inl refl)) (on (tie q (tag_of v.stamp)) refl))
    ∙ kept q us u order.1 (λ w j. unnamed w (inr j)) i t
  where
    on : (b : Bool) → tie q (tag_of v.stamp) ≡ b → tie q (tag_of v.stamp) ≡ false
    on false e = e
    on true e = absurd ((all_in (StandsBefore v) us u order.0 i).apart (sym (tie_same _ _ e) ∙ sym t))

-- what is kept is the value of a write with the tag
record WroteIn (q : Tag) (z : List ℕ) (us : List (Stamped MultiOp MultiEffect)) : Type 0 where
  update : Stamped MultiOp MultiEffect
  here : In update us
  tag : tag_of update.stamp ≡ q
  value : worth update.effect ≡ z

never : (z : List ℕ) → Some None ≡ Some (Some z) → ⊥
never z e = let inner : None ≡ Some z = ap (λ o. unwrap_or o None) e in absurd (cc)

wrote : (q : Tag) (z : List ℕ) (us : List (Stamped MultiOp MultiEffect)) → AllLater StandsBefore us → entry_after q None us ≡ Some (Some z)
    → WroteIn q z us
unfolding entry_after
wrote q z [] order h = absurd (cc)
wrote q z (u ∷ us) order h = on (names q u.effect) (tie q (tag_of u.stamp)) refl refl (wrote q z us order.1)
  where
    later : WroteIn q z us → WroteIn q z (u ∷ us)
    later w = record { update = w.update; here = inr w.here; tag = w.tag; value = w.value }

    on : (a b : Bool) → names q u.effect ≡ a → tie q (tag_of u.stamp) ≡ b → (entry_after q None us ≡ Some (Some z) → WroteIn q z us) → WroteIn q z (u ∷ us)
    on true b ea eb again = absurd (never z (sym (ap (λ o. entry_after q o us) (at_tag-named q None u.effect (tag_of u.stamp) ea) ∙ gone_stays q us) ∙ h))
    on false false ea eb again = later (again (sym (ap (λ o. entry_after q o us) (at_tag-other q None u.effect (tag_of u.stamp) ea eb)) ∙ h))
    on false true ea eb again =
        let own = tie_same q (tag_of u.stamp) eb in
        let now : entry_after q (Some (Some (worth u.effect))) us ≡ Some (Some z) =
        sym (ap (λ o. entry_after q o us) (at_tag-own q u.effect (tag_of u.stamp) ea eb))
        ∙ h in
        record { update = u; here = inl refl; tag = sym own; value = value_kept (any_named q us) own now }
      where
        value_kept : ((v : Stamped MultiOp MultiEffect) × In v us × (names q v.effect ≡ true)) ⊎ Unnamed q us → q ≡ tag_of u.stamp
            → entry_after q (Some (Some (worth u.effect))) us ≡ Some (Some z) → worth u.effect ≡ z
        value_kept (inl v) own now = absurd (never z (sym (named_gone q _ us v.0 v.1 v.2) ∙ now))
        value_kept (inr unnamed) own now =
            let stays = subst (λ k. entry_after k (Some (Some (worth u.effect))) us ≡ Some (Some (worth u.effect))) (sym own)
            (other_stays u (Some (Some (worth u.effect))) us (λ w i. subst (λ k. names k w.effect ≡ false) own (unnamed w i)) order.0) in
            let same : Some (Some (worth u.effect)) ≡ Some (Some z) = sym stays ∙ now in
            cc

-- ---- what the tags of a write say

pub is_in_in : (q : Tag) (ts : List Tag) → is_in q ts ≡ true → In q ts
unfolding is_in
is_in_in q [] h = absurd (true≢false (sym h))
is_in_in q (t ∷ ts) h = on (tie q t) refl h (is_in_in q ts)
  where
    on : (b : Bool) → tie q t ≡ b → (b || list_any (λ s. tie q s) ts) ≡ true → (list_any (λ s. tie q s) ts ≡ true → In q ts) → In q (t ∷ ts)
    on true e h again = inl (sym (tie_same q t e))
    on false e h again = inr (again h)

pub in_is_in : (q : Tag) (ts : List Tag) → In q ts → is_in q ts ≡ true
unfolding is_in
in_is_in q [] i = absurd i
in_is_in q (t ∷ ts) (inl e) = ap (λ b. b || list_any (λ s. tie q s) ts) (subst (λ k. tie k t ≡ true) e (tie_itself t))
in_is_in q (t ∷ ts) (inr i) = on (tie q t) (in_is_in q ts i)
  where
    on : (b : Bool) → list_any (λ s. tie q s) ts ≡ true → (b || list_any (λ s. tie q s) ts) ≡ true
    on true h = refl
    on false h = h

in_live : (m : Writes) (q : Tag) → In q (live_tags m) → (z : List ℕ) × (get m q ≡ Some (Some z))
in_live m q i = on (get m q) refl (keys_where-passes tag_cmp-total tag_cmp-IsAntisymmetric is_some None refl m q i)
  where
    on : (o : Option (Option (List ℕ))) → get m q ≡ o → is_some (unwrap_or o None) ≡ true → (z : List ℕ) × (get m q ≡ Some (Some z))
    on None e h = absurd (true≢false (sym h))
    on (Some None) e h = absurd (true≢false (sym h))
    on (Some (Some z)) e h = (z, e)

live_in : (m : Writes) (q : Tag) (z : List ℕ) → get m q ≡ Some (Some z) → In q (live_tags m)
live_in m q z e = passes-keys_where tag_cmp-total tag_cmp-IsAntisymmetric is_some None refl m q (ap (λ o. is_some (unwrap_or o None)) e)

-- a write, with the tags of those that it met
record WasMade (after : Tag → Tag → Bool) (us : List (Stamped MultiOp MultiEffect)) (u : Stamped MultiOp MultiEffect) : Type 0 where
  op : u.op ≡ MultiWrite (worth u.effect)
  state : Writes
  met : (q : Tag) → get state q ≡ entry_after q None (before after u us)
  tags : tags_of u.effect ≡ live_tags state

was_made : (after : Tag → Tag → Bool) (us : List (Stamped MultiOp MultiEffect)) (u : Stamped MultiOp MultiEffect) (m : Writes)
    → ((q : Tag) → get m q ≡ entry_after q None (before after u us))
    → (op : MultiOp) → u.op ≡ op → multi_prepared (tag_of u.stamp) op m ≡ Some u.effect → WasMade after us u
unfolding worth tags_of
was_made after us u m met MultiRead e made = absurd (cc)
was_made after us u m met (MultiWrite v) e made =
    let effect : u.effect ≡ Written v (live_tags m) = cc in
    record { op = e ∙ ap (λ f. MultiWrite (worth f)) (sym effect); state = m; met = met; tags = ap tags_of effect }

order_filter : (p : Stamped MultiOp MultiEffect → Bool) (us : List (Stamped MultiOp MultiEffect)) → AllLater StandsBefore us
    → AllLater StandsBefore (filter p us)
order_filter p [] order = tt
order_filter p (u ∷ us) order = on (p u) (order_filter p us order.1)
  where
    all : (vs : List (Stamped MultiOp MultiEffect)) → All (StandsBefore u) vs → All (StandsBefore u) (filter p vs)
    all = elim [ [] ↦ λ h. tt | v ∷ (vs → more) ↦ λ h. keep (p v) v vs h.0 (more h.1) ]
      where
        keep : (b : Bool) (v : Stamped MultiOp MultiEffect) (vs : List (Stamped MultiOp MultiEffect)) → StandsBefore u v
            → All (StandsBefore u) (filter p vs) → All (StandsBefore u) (cond b (v ∷ filter p vs) (filter p vs))
        keep true v vs h rest = (h, rest)
        keep false v vs h rest = rest

    on : (b : Bool) → AllLater StandsBefore (filter p us) → AllLater StandsBefore (cond b (u ∷ filter p us) (filter p us))
    on true rest = (all us order.0, rest)
    on false rest = rest

-- ---- membership in what a filter gives

in_updates : {Y : Type 0} (f : Update MultiOp → Option Y) (z : Y) (us : List (Stamped MultiOp MultiEffect)) → In z (filter_map f (updates_of us))
    → (u : Stamped MultiOp MultiEffect) × In u us × (f (update_of u) ≡ Some z)
in_updates f z [] i = absurd i
in_updates {Y} f z (u ∷ us) i = on (f (update_of u)) refl i (in_updates f z us)
  where
    on : (o : Option Y) → f (update_of u) ≡ o → In z (cons_option o (filter_map f (updates_of us)))
        → (In z (filter_map f (updates_of us)) → (v : Stamped MultiOp MultiEffect) × In v us × (f (update_of v) ≡ Some z))
        → (v : Stamped MultiOp MultiEffect) × In v (u ∷ us) × (f (update_of v) ≡ Some z)
    on None e i again = let r = again i in (r.0, inr r.1, r.2)
    on (Some y) e (inl s) again = (u, inl refl, e ∙ ap Some s)
    on (Some y) e (inr i) again = let r = again i in (r.0, inr r.1, r.2)

updates_in : {Y : Type 0} (f : Update MultiOp → Option Y) (z : Y) (us : List (Stamped MultiOp MultiEffect)) (u : Stamped MultiOp MultiEffect) → In u us
    → f (update_of u) ≡ Some z → In z (filter_map f (updates_of us))
updates_in f z [] u i e = absurd i
updates_in f z (v ∷ us) u (inl s) e =
    subst (λ o. In z (cons_option o (filter_map f (updates_of us)))) (sym (ap (λ (w : Stamped MultiOp MultiEffect). f (update_of w)) s ∙ e)) (inl refl)
updates_in {Y} f z (v ∷ us) u (inr i) e = on (f (update_of v)) (updates_in f z us u i e)
  where
    on : (o : Option Y) → In z (filter_map f (updates_of us)) → In z (cons_option o (filter_map f (updates_of us)))
    on None i = i
    on (Some y) i = inr i

bytes_eq-itself : (x : List ℕ) → bytes_eq x x ≡ true
bytes_eq-itself [] = refl
bytes_eq-itself (n ∷ x) = rw (bytes_eq-itself x) (grind arith)

-- the value is held
holds : List ℕ → Option (List ℕ) → Bool
holds z None = false
holds z (Some v) = bytes_eq v z

in_held : (z : List ℕ) (es : List (Tag × Option (List ℕ))) → In z (filter_map (λ e. e.1) es) → list_any (λ e. holds z e.1) es ≡ true
unfolding holds
in_held z [] i = absurd i
in_held z (e ∷ es) i = on e.1 i (in_held z es)
  where
    on : (o : Option (List ℕ)) → In z (cons_option o (filter_map (λ e. e.1) es))
        → (In z (filter_map (λ e. e.1) es) → list_any (λ e. holds z e.1) es ≡ true) → (holds z o || list_any (λ e. holds z e.1) es) ≡ true
    on None i again = again i
    on (Some v) (inl s) again = ap (λ b. b || list_any (λ e. holds z e.1) es) (subst (λ w. bytes_eq v w ≡ true) s (bytes_eq-itself v))
    on (Some v) (inr i) again = either (bytes_eq v z) (again i)
      where
        either : (b : Bool) → list_any (λ e. holds z e.1) es ≡ true → (b || list_any (λ e. holds z e.1) es) ≡ true
        either true h = refl
        either false h = h

held_in : (z : List ℕ) (es : List (Tag × Option (List ℕ))) → list_any (λ e. holds z e.1) es ≡ true → In z (filter_map (λ e. e.1) es)
unfolding holds
held_in z [] h = absurd (true≢false (sym h))
held_in z (e ∷ es) h = on e.1 h (held_in z es)
  where
    on : (o : Option (List ℕ)) → (holds z o || list_any (λ e. holds z e.1) es) ≡ true
        → (list_any (λ e. holds z e.1) es ≡ true → In z (filter_map (λ e. e.1) es)) → In z (cons_option o (filter_map (λ e. e.1) es))
    on None h again = again h
    on (Some v) h again = by (bytes_eq v z) refl h
      where
        by : (b : Bool) → bytes_eq v z ≡ b → (b || list_any (λ e. holds z e.1) es) ≡ true → In z (v ∷ filter_map (λ e. e.1) es)
        by true t h = inl (bytes_eq-true v z t)
        by false t h = inr (again h)

-- a value stands in the map exactly where it is kept at some tag
in_entries : (m : Writes) (z : List ℕ) → In z (filter_map (λ e. e.1) (entries m)) → (q : Tag) × (get m q ≡ Some (Some z))
unfolding holds
in_entries m z i =
    let some = any-keys_where (holds z) (entries m) (in_held z (entries m) i) in
    (some.0, on some.0 (get m some.0) refl (keys_where-passes tag_cmp-total tag_cmp-IsAntisymmetric (holds z) None refl m some.0 some.1))
  where
    on : (q : Tag) (o : Option (Option (List ℕ))) → get m q ≡ o → holds z (unwrap_or o None) ≡ true → get m q ≡ Some (Some z)
    on q None e h = absurd (true≢false (sym h))
    on q (Some None) e h = absurd (true≢false (sym h))
    on q (Some (Some v)) e h = e ∙ ap (λ w. Some (Some w)) (bytes_eq-true v z h)

entries_in : (m : Writes) (z : List ℕ) (q : Tag) → get m q ≡ Some (Some z) → In z (filter_map (λ e. e.1) (entries m))
unfolding holds
entries_in m z q e =
    held_in z (entries m) (keys_where-any (holds z) (entries m) q
    (passes-keys_where tag_cmp-total tag_cmp-IsAntisymmetric (holds z) None refl m q (ap (λ o. holds z (unwrap_or o None)) e ∙ bytes_eq-itself z)))

-- ---- what a read answers

module _ (after : Tag → Tag → Bool) (us : List (Stamped MultiOp MultiEffect)) (order : AllLater StandsBefore us)
    (made : (u : Stamped MultiOp MultiEffect) → In u us → WasMade after us u) where
  -- a write that names a tag is after it
  named_after : (v : Stamped MultiOp MultiEffect) → In v us → (q : Tag) → names q v.effect ≡ true → after (tag_of v.stamp) q ≡ true
  unfolding names
  named_after v i q h =
      let was = made v i in
      let live = in_live was.state q (subst (In q) was.tags (is_in_in q (tags_of v.effect) h)) in
      let w = wrote q live.0 (before after v us) (order_filter (λ x. after (tag_of v.stamp) (tag_of x.stamp)) us order) (sym (was.met q) ∙ live.1) in
      subst (λ k. after (tag_of v.stamp) k ≡ true) w.tag (in_filter (λ x. after (tag_of v.stamp) (tag_of x.stamp)) w.update us w.here).1

  named_overwritten : (u v : Stamped MultiOp MultiEffect) → In v us → names (tag_of u.stamp) v.effect ≡ true
      → is_overwritten (updates_of us) after (update_of u) ≡ true
  named_overwritten u v i h =
      any_in (λ w. writes w.op && after w.tag (tag_of u.stamp)) us v i
      (ap (λ o. writes o && after (tag_of v.stamp) (tag_of u.stamp)) (made v i).op ∙ named_after v i (tag_of u.stamp) h)

  -- an overwritten write is named by some write
  overwritten_named : (u : Stamped MultiOp MultiEffect) → In u us → is_overwritten (updates_of us) after (update_of u) ≡ true → Unnamed (tag_of u.stamp) us
      → ⊥
  unfolding names
  overwritten_named u i h unnamed =
      let found = in_any (λ w. writes w.op && after w.tag (tag_of u.stamp)) us h in
      let v = found.0 in
      let was = made v found.1 in
      let test : Stamped MultiOp MultiEffect → Bool = λ x. after (tag_of v.stamp) (tag_of x.stamp) in
      let here = filter_in test u us i (and_parts _ _ found.2).1 in
      let stays = kept (tag_of u.stamp) (before after v us) u (order_filter test us order) (λ w j. unnamed w (in_filter test w us j).0) here refl in
      let live = live_in was.state (tag_of u.stamp) (worth u.effect) (was.met (tag_of u.stamp) ∙ stays) in
      true≢false (sym (in_is_in (tag_of u.stamp) (tags_of v.effect) (subst (In (tag_of u.stamp)) (sym was.tags) live)) ∙ unnamed v found.1)

  -- the values of the writes that none is after are those that are kept
  abbrev surviving : Update MultiOp → Option (List ℕ)
  surviving u = if is_overwritten (updates_of us) after u then None else value_of u.op

  survives : (u : Stamped MultiOp MultiEffect) → In u us → (is_overwritten (updates_of us) after (update_of u) ≡ true → ⊥)
      → surviving (update_of u) ≡ Some (worth u.effect)
  survives u i clear = on (is_overwritten (updates_of us) after (update_of u)) refl
    where
      on : (b : Bool) → is_overwritten (updates_of us) after (update_of u) ≡ b → surviving (update_of u) ≡ Some (worth u.effect)
      on true e = absurd (clear e)
      on false e = ap (λ b. cond b None (value_of u.op)) e ∙ ap value_of (made u i).op

  kept_surviving : (m : Writes) → ((q : Tag) → get m q ≡ entry_after q None us) → (z : List ℕ) → In z (filter_map (λ e. e.1) (entries m))
      → In z (filter_map surviving (updates_of us))
  kept_surviving m is z i =
      let some = in_entries m z i in
      let now : entry_after some.0 None us ≡ Some (Some z) = sym (is some.0) ∙ some.1 in
      let w = wrote some.0 z us order now in
      let clear : is_overwritten (updates_of us) after (update_of w.update) ≡ true → ⊥ = λ over. elim (any_named (tag_of w.update.stamp) us) [
        | inl x ↦ never z (sym (named_gone (tag_of w.update.stamp) None us x.0 x.1 x.2)
            ∙ subst (λ k. entry_after k None us ≡ Some (Some z)) (sym w.tag) now)
        | inr unnamed ↦ overwritten_named w.update w.here over unnamed
      ] in
      updates_in surviving z us w.update w.here (survives w.update w.here clear ∙ ap Some w.value)

  surviving_kept : (m : Writes) → ((q : Tag) → get m q ≡ entry_after q None us) → (z : List ℕ) → In z (filter_map surviving (updates_of us))
      → In z (filter_map (λ e. e.1) (entries m))
  surviving_kept m is z i =
      let found = in_updates surviving z us i in
      let u = found.0 in
      on u found.1 (is_overwritten (updates_of us) after (update_of u)) refl found.2
    where
      on : (u : Stamped MultiOp MultiEffect) → In u us → (b : Bool) → is_overwritten (updates_of us) after (update_of u) ≡ b
          → cond b None (value_of u.op) ≡ Some z → In z (filter_map (λ e. e.1) (entries m))
      on u here true e h = absurd (cc)
      on u here false e h = by (any_named (tag_of u.stamp) us)
        where
          value : Some (worth u.effect) ≡ Some z
          value = ap value_of (sym (made u here).op) ∙ h

          by : ((v : Stamped MultiOp MultiEffect) × In v us × (names (tag_of u.stamp) v.effect ≡ true)) ⊎ Unnamed (tag_of u.stamp) us
              → In z (filter_map (λ e. e.1) (entries m))
          by (inl x) = absurd (true≢false (sym (named_overwritten u x.0 x.1 x.2) ∙ e))
          by (inr unnamed) = entries_in m z (tag_of u.stamp) (is (tag_of u.stamp) ∙ kept (tag_of u.stamp) us u order unnamed here refl ∙ ap Some value)

get-multi_initial : (q : Tag) → get multi_initial q ≡ None
get-multi_initial q = get-empty tag_cmp q

prepared_made : (after : Tag → Tag → Bool) (us : List (Stamped MultiOp MultiEffect)) (u : Stamped MultiOp MultiEffect)
    → WasPrepared multi_initial multi_updated multi_prepared after us u → WasMade after us u
prepared_made after us u h =
    let earlier = before after u us in
    was_made after us u (state_after multi_updated multi_initial (with_sums h.sum earlier))
    (λ q. get-after multi_initial (with_sums h.sum earlier) q ∙ ap (λ o. entry_after q o (with_sums h.sum earlier)) (get-multi_initial q)
    ∙ entry_after-with_sums h.sum q None earlier)
    u.op refl h.effect

pub multi-in_order : AnswersInOrder multi_initial multi_updated multi_answered multi_prepared multi_value
multi-in_order after us history (MultiWrite v) = refl
multi-in_order after us history MultiRead =
    let made : (u : Stamped MultiOp MultiEffect) → In u us → WasMade after us u = λ u i. prepared_made after us u (history.made u i) in
    let m = state_after multi_updated multi_initial us in
    let is : (q : Tag) → get m q ≡ entry_after q None us = λ q. get-after multi_initial us q ∙ ap (λ o. entry_after q o us) (get-multi_initial q) in
    ap Values (ascending_same _ _
    (λ z. kept_surviving after us history.ordered made m is z)
    (λ z. surviving_kept after us history.ordered made m is z))
