-- A transaction's own updates stand behind all that it sees, so both together are a history.
use Rattle.std.proofs.Common.{◌≡◌, ◌≢◌, ◌<◌, ◌++◌, ℕ, Bool, true, List, [], ◌∷◌, refl, sym, ap, subst, ◌∙◌, arith}
use Rattle.std.proofs.lemmas.Bool.Decides.{nat_tests}
use Rattle.std.proofs.lemmas.List.Sorted.{IsPermutation-append_left}
use Rattle.us_kind.specs.declared.identity.Stamp.{Stamp}
use Rattle.us_kind.specs.declared.identity.Tag.{Tag}
use Rattle.us_kind.specs.declared.identity.Tid.{Tid}
use Rattle.us_kind.specs.Updates.{All, AllLater, StandsBefore, Stamped, state_after, update_of, updates_of}
use Rattle.us_kind.specs.Comparison.{lex, stamp_less, tag_of}
use Rattle.us_value.specs.declared.operation.Effect.{Effect}
use Rattle.us_value.specs.declared.operation.Op.{Op}
use Rattle.us_value.specs.Laws.{AreOwn, AreVisible, OwnUpdatesComeLast, own_sum}
use Rattle.us_value.specs.Values.{answered, initial, updated, value_of}
use Rattle.us_value.proofs.KindLaws.{answers-as-defined}

all_append : {X : Type 0} (P : X → Type 0) (xs ys : List X) → All P xs → All P ys → All P (xs ++ ys)
all_append P [] ys first second = second
all_append P (x ∷ xs) ys first second = (first.0, all_append P xs ys first.1 second)

-- two lists of which each of the first stands in R to each of the second
later_append : {X : Type 0} (R : X → X → Type 0) (xs ys : List X) → AllLater R xs → AllLater R ys → All (λ x. All (R x) ys) xs → AllLater R (xs ++ ys)
later_append R [] ys first second across = second
later_append R (x ∷ xs) ys first second across =
    (all_append (R x) xs ys first.0 across.0, later_append R xs ys first.1 second across.1)

all_both : {X : Type 0} (P Q R : X → Type 0) → ((x : X) → P x → Q x → R x) → (xs : List X) → All P xs → All Q xs → All R xs
all_both P Q R both [] p q = tt
all_both P Q R both (x ∷ xs) p q = (both x p.0 q.0, all_both P Q R both xs p.1 q.1)

after_append : {S O E : Type 0} (f : S → E → Stamp → S) (s : S) (xs ys : List (Stamped O E)) → state_after f s (xs ++ ys) ≡ state_after f (state_after f s xs) ys
after_append f s [] ys = refl
after_append f s (x ∷ xs) ys = after_append f (f s x.effect x.stamp) xs ys

updates_append : {O E : Type 0} (xs ys : List (Stamped O E)) → updates_of (xs ++ ys) ≡ updates_of xs ++ updates_of ys
updates_append [] ys = refl
updates_append (x ∷ xs) ys = λ i. update_of x ∷ updates_append xs ys i

-- STAMPS
lex_less : (a b : ℕ) (rest : Bool) → a < b → lex a b rest ≡ true
lex_less a b rest less = grind (arith, nat_tests)

lex_same : (a : ℕ) (rest : Bool) → rest ≡ true → lex a a rest ≡ true
lex_same a rest e = grind (arith, nat_tests)

-- an update that is seen stands before an own one
seen_before : (tid : Tid) (u v : Stamped Op Effect) → u.stamp.tid ≢ tid → u.stamp.sum < own_sum → v.stamp.tid ≡ tid → v.stamp.sum ≡ own_sum → StandsBefore u v
seen_before tid u v other lesser own greatest = record {
  apart = λ e. other (ap (λ (t : Tag). t.tid) e ∙ own);
  earlier = lex_less u.stamp.sum v.stamp.sum _ (omega (arith, lesser, greatest));
}

-- an own update stands before those of later operations
own_before : (tid : Tid) (u v : Stamped Op Effect) → u.stamp.tid ≡ tid → u.stamp.sum ≡ own_sum → v.stamp.tid ≡ tid → v.stamp.sum ≡ own_sum → u.stamp.place < v.stamp.place → StandsBefore u v
own_before tid u v own_u sum_u own_v sum_v earlier = record {
  apart = λ e. let same : u.stamp.place ≡ v.stamp.place = ap (λ (t : Tag). t.place) e in absurd (omega arith);
  earlier = subst (λ (s : Stamp). stamp_less s v.stamp ≡ true) (λ i. record { sum = (sum_v ∙ sym sum_u) i; tid = (own_v ∙ sym own_u) i; place = u.stamp.place })
      (lex_same v.stamp.sum _ (lex_same v.stamp.tid.site _ (lex_same v.stamp.tid.coord _ (lex_same v.stamp.tid.seq _ (lex_less u.stamp.place v.stamp.place _ earlier)))));
}

own_ordered : (tid : Tid) (us : List (Stamped Op Effect)) → All (λ u. u.stamp.tid ≡ tid) us → All (λ u. u.stamp.sum ≡ own_sum) us
    → AllLater (λ u v. u.stamp.place < v.stamp.place) us → AllLater StandsBefore us
own_ordered tid [] of_it greatest ordered = tt
own_ordered tid (u ∷ us) of_it greatest ordered = (each us of_it.1 greatest.1 ordered.0, own_ordered tid us of_it.1 greatest.1 ordered.1)
  where
    each : (vs : List (Stamped Op Effect)) → All (λ v. v.stamp.tid ≡ tid) vs → All (λ v. v.stamp.sum ≡ own_sum) vs → All (λ v. u.stamp.place < v.stamp.place) vs → All (StandsBefore u) vs
    each [] a b c = tt
    each (v ∷ vs) a b c = (own_before tid u v of_it.0 greatest.0 a.0 b.0 c.0, each vs a.1 b.1 c.1)

all_before : (tid : Tid) (visible own : List (Stamped Op Effect)) → AreVisible tid visible → AreOwn tid own → AllLater StandsBefore (visible ++ own)
all_before tid visible own seen owned =
    later_append StandsBefore visible own seen.ordered (own_ordered tid own owned.of_it owned.greatest owned.ordered)
    (all_both (λ u. u.stamp.tid ≢ tid) (λ u. u.stamp.sum < own_sum) (λ u. All (StandsBefore u) own)
    (λ u other lesser. all_both (λ v. v.stamp.tid ≡ tid) (λ v. v.stamp.sum ≡ own_sum) (StandsBefore u) (λ v of_it greatest. seen_before tid u v other lesser of_it greatest) own owned.of_it owned.greatest)
    visible seen.of_others seen.lesser)

pub own-updates-come-last : OwnUpdatesComeLast
own-updates-come-last k after tid visible own applied fit_visible fit_own seen owned made moved op fits =
    ap (answered op) (sym (after_append updated (initial k) applied own))
    ∙ answers-as-defined k after (visible ++ own) (applied ++ own) (all_append _ visible own fit_visible fit_own)
    (record { ordered = all_before tid visible own seen owned; made = made })
    (IsPermutation-append_left own visible applied moved) op fits
    ∙ ap (λ us. value_of op us after) (updates_append visible own)
