-- Each kind is a share of the joined type, so its laws are those of the joined type's operations of that kind.
use Rattle.std.proofs.Common.{◌≡◌, ℕ, ◌↔◌, ◌++◌, Bool, true, false, ◌<◌, List, [], ◌∷◌, Option, Some, None, refl, sym, ap, subst, ◌∙◌, inl, inr, cond, filter, map, IsPermutation, arith}
use Rattle.std.proofs.lemmas.List.Sorted.{IsPermutation-cons, IsPermutation-refl, IsPermutation-trans, IsPermutation-append_left}
use Rattle.us_kind.specs.declared.identity.Stamp.{Stamp}
use Rattle.us_kind.specs.declared.identity.Tag.{Tag}
use Rattle.us_kind.specs.Updates.{All, AllLater, AnswersInAnyOrder, IsHistoryInAnyOrder, StandsBefore, Stamped, Update, WasPreparedInAnyOrder, before, state_after, updates_of, with_sum, with_sums}
use Rattle.us_kind.specs.Comparison.{In, tag_of}
use Rattle.us_kind.proofs.Permutations.{along_permutation}
use Rattle.us_value.specs.declared.operation.Answer.{Answer}
use Rattle.us_value.specs.declared.operation.Effect.{Effect}
use Rattle.us_value.specs.declared.operation.Kind.{Kind}
use Rattle.us_value.specs.declared.operation.Op.{Op}
use Rattle.us_value.specs.declared.operation.State.{State}
use Rattle.us_value.specs.Laws.{AllFit}
use Rattle.us_value.specs.Values.{answered, effect_by, initial, is_update, op_fits, prepared, updated, value_of}

-- LISTS
-- a permutation of a mapped list is the map of a permutation
record Mapped {X Y : Type 0} (f : X → Y) (ps : List X) (ys : List Y) : Type 0 where
  from : List X
  is : ys ≡ map f from
  moved : IsPermutation ps from

abbrev KeepsMap : {X Y : Type 0} → (X → Y) → List Y → List Y → Type 0
KeepsMap {X} f xs ys = (ps : List X) → xs ≡ map f ps → Mapped f ps ys

first_two : {X : Type 0} (p q : X) (ps : List X) → IsPermutation (p ∷ q ∷ ps) (q ∷ p ∷ ps)
first_two p q ps = record { moves = (0, 1) ∷ []; below = (omega arith, omega arith, tt); is = refl }

permuted : {X Y : Type 0} (f : X → Y) (ps : List X) (ys : List Y) → IsPermutation (map f ps) ys → Mapped f ps ys
permuted {X} {Y} f ps ys moved = along_permutation (KeepsMap f) itself under exchange join (map f ps) ys moved ps refl
  where
    itself : (xs : List Y) → KeepsMap f xs xs
    itself xs ps e = record { from = ps; is = e; moved = IsPermutation-refl ps }

    under : (x : Y) (xs ys : List Y) → KeepsMap f xs ys → KeepsMap f (x ∷ xs) (x ∷ ys)
    under x xs ys keeps [] e = absurd (cc)
    under x xs ys keeps (p ∷ ps) e =
        let first : x ≡ f p = cc in
        let rest : xs ≡ map f ps = cc in
        let r = keeps ps rest in
        record { from = p ∷ r.from; is = λ i. first i ∷ r.is i; moved = IsPermutation-cons p _ _ r.moved }

    exchange : (x y : Y) (xs : List Y) → KeepsMap f (x ∷ y ∷ xs) (y ∷ x ∷ xs)
    exchange x y xs [] e = absurd (cc)
    exchange x y xs (p ∷ []) e = absurd (cc)
    exchange x y xs (p ∷ q ∷ ps) e = record { from = q ∷ p ∷ ps; is = cc; moved = first_two p q ps }

    join : (xs ys zs : List Y) → KeepsMap f xs ys → KeepsMap f ys zs → KeepsMap f xs zs
    join xs ys zs one two ps e =
        let a = one ps e in
        let b = two a.from a.is in
        record { from = b.from; is = b.is; moved = IsPermutation-trans _ _ _ a.moved b.moved }

in_mapped : {X Y : Type 0} (f : X → Y) (p : X) (ps : List X) → In p ps → In (f p) (map f ps)
in_mapped f p [] i = absurd i
in_mapped f p (q ∷ qs) (inl e) = inl (ap f e)
in_mapped f p (q ∷ qs) (inr i) = inr (in_mapped f p qs i)

all_unmapped : {X Y : Type 0} (f : X → Y) (P : Y → Type 0) (Q : X → Type 0) → ((p : X) → P (f p) → Q p) → (ps : List X) → All P (map f ps) → All Q ps
all_unmapped f P Q back [] all = tt
all_unmapped f P Q back (p ∷ ps) all = (back p all.0, all_unmapped f P Q back ps all.1)

later_unmapped : {X Y : Type 0} (f : X → Y) (P : Y → Y → Type 0) (Q : X → X → Type 0) → ((p q : X) → P (f p) (f q) → Q p q) → (ps : List X) → AllLater P (map f ps) → AllLater Q ps
later_unmapped f P Q back [] all = tt
later_unmapped f P Q back (p ∷ ps) all = (all_unmapped f (P (f p)) (Q p) (back p) ps all.0, later_unmapped f P Q back ps all.1)

all_in : {X : Type 0} (P : X → Type 0) (x : X) (xs : List X) → All P xs → In x xs → P x
all_in P x [] all i = absurd i
all_in P x (y ∷ xs) all (inl e) = subst P e all.0
all_in P x (y ∷ xs) all (inr i) = all_in P x xs all.1 i

-- A KIND'S OPERATIONS AMONG ALL
-- a kind's update as one of all
abbrev pub update_as : {O : Type 0} → (O → Op) → Update O → Update Op
update_as of_op u = record { tag = u.tag; op = of_op u.op }

abbrev pub updates_as : {O : Type 0} → (O → Op) → List (Update O) → List (Update Op)
updates_as of_op us = map (update_as of_op) us

abbrev stamped_as : {O E : Type 0} → (O → Op) → (E → Effect) → Stamped O E → Stamped Op Effect
stamped_as of_op of_effect u = record { stamp = u.stamp; op = of_op u.op; effect = of_effect u.effect }

-- a kind is a share of the joined type: its operations, effects, answers and states among all, with its own words
pub record IsShare {O E A S : Type 0} (k : Kind) (of_op : O → Op) (of_effect : E → Effect) (of_answer : A → Answer) (of_state : S → State)
    (kind_initial : S) (kind_updated : S → E → Stamp → S) (kind_answered : O → S → A) (kind_prepared : Tag → O → S → Option E)
    (kind_value : O → List (Update O) → (Tag → Tag → Bool) → A) : Type 0 where
  pub started : initial k ≡ of_state kind_initial
  pub fits : (o : Op) → op_fits k o ≡ true → (p : O) × (o ≡ of_op p)
  pub moved : (s : S) (e : E) (m : Stamp) → updated (of_state s) (of_effect e) m ≡ of_state (kind_updated s e m)
  pub stays : (s : S) (e : Effect) (m : Stamp) → (t : S) × (updated (of_state s) e m ≡ of_state t)
  pub answers : (o : O) (s : S) → answered (of_op o) (of_state s) ≡ of_answer (kind_answered o s)
  pub prepares : (tag : Tag) (o : O) (s : S) → prepared tag (of_op o) (of_state s) ≡ effect_by of_effect (kind_prepared tag o s)
  pub one : (e f : E) → of_effect e ≡ of_effect f → e ≡ f
  pub defined : (o : O) (us : List (Update O)) (after : Tag → Tag → Bool) → value_of (of_op o) (updates_as of_op us) after ≡ of_answer (kind_value o us after)
  pub updates : (tag : Tag) (o : O) (s : S) → (kind_prepared tag o s ≡ None) ↔ (is_update (of_op o) ≡ false)

module _ {O E A S : Type 0} (k : Kind) (of_op : O → Op) (of_effect : E → Effect) (of_answer : A → Answer) (of_state : S → State)
    (kind_initial : S) (kind_updated : S → E → Stamp → S) (kind_answered : O → S → A) (kind_prepared : Tag → O → S → Option E)
    (kind_value : O → List (Update O) → (Tag → Tag → Bool) → A)
    (share : IsShare k of_op of_effect of_answer of_state kind_initial kind_updated kind_answered kind_prepared kind_value) where
  abbrev embed : Stamped O E → Stamped Op Effect
  embed = stamped_as of_op of_effect

  -- whatever is applied to a state of the kind, it stays one
  stays_after : (s : S) (us : List (Stamped Op Effect)) → (t : S) × (state_after updated (of_state s) us ≡ of_state t)
  stays_after s [] = (s, refl)
  stays_after s (u ∷ us) =
      let a = share.stays s u.effect u.stamp in
      let b = stays_after a.0 us in
      (b.0, ap (λ x. state_after updated x us) a.1 ∙ b.1)

  stays_from_start : (us : List (Stamped Op Effect)) → (t : S) × (state_after updated (initial k) us ≡ of_state t)
  stays_from_start us = let b = stays_after kind_initial us in (b.0, ap (λ x. state_after updated x us) share.started ∙ b.1)

  -- the state after the kind's effects is the kind's
  mapped_after : (s : S) (ps : List (Stamped O E)) → state_after updated (of_state s) (map embed ps) ≡ of_state (state_after kind_updated s ps)
  mapped_after s [] = refl
  mapped_after s (p ∷ ps) =
      ap (λ x. state_after updated x (map embed ps)) (share.moved s p.effect p.stamp)
      ∙ mapped_after (kind_updated s p.effect p.stamp) ps

  mapped_from_start : (ps : List (Stamped O E)) → state_after updated (initial k) (map embed ps) ≡ of_state (state_after kind_updated kind_initial ps)
  mapped_from_start ps = ap (λ x. state_after updated x (map embed ps)) share.started ∙ mapped_after kind_initial ps

  -- what was prepared is an effect of the kind
  effect_of_kind : (o : Option E) (e : Effect) → effect_by of_effect o ≡ Some e → (f : E) × (e ≡ of_effect f)
  effect_of_kind None e h = absurd (cc)
  effect_of_kind (Some f) e h = (f, cc)

  had_effect : (after : Tag → Tag → Bool) (us : List (Stamped Op Effect)) (u : Stamped Op Effect) → op_fits k u.op ≡ true
      → WasPreparedInAnyOrder (initial k) updated prepared after us u → (e : E) × (u.effect ≡ of_effect e)
  had_effect after us u fit was =
      let o = share.fits u.op fit in
      let t = stays_from_start was.met in
      let same : prepared (tag_of u.stamp) u.op (state_after updated (initial k) was.met) ≡ effect_by of_effect (kind_prepared (tag_of u.stamp) o.0 t.0) =
      (λ i. prepared (tag_of u.stamp) (o.1 i) (t.1 i)) ∙ share.prepares (tag_of u.stamp) o.0 t.0 in
      effect_of_kind (kind_prepared (tag_of u.stamp) o.0 t.0) u.effect (sym same ∙ was.effect)

  -- so a list whose operations and effects are the kind's is one of the kind
  as_kind : (us : List (Stamped Op Effect)) → AllFit k us → ((u : Stamped Op Effect) → In u us → (e : E) × (u.effect ≡ of_effect e))
      → (ps : List (Stamped O E)) × (us ≡ map embed ps)
  as_kind [] fit effects = ([], refl)
  as_kind (u ∷ us) fit effects =
      let o = share.fits u.op fit.0 in
      let e = effects u (inl refl) in
      let r = as_kind us fit.1 (λ v i. effects v (inr i)) in
      (record { stamp = u.stamp; op = o.0; effect = e.0 } ∷ r.0, λ i. record { stamp = u.stamp; op = o.1 i; effect = e.1 i } ∷ r.1 i)

  -- its own words on lists go along
  before_mapped : (after : Tag → Tag → Bool) (p : Stamped O E) (ps : List (Stamped O E)) → before after (embed p) (map embed ps) ≡ map embed (before after p ps)
  before_mapped after p [] = refl
  before_mapped after p (q ∷ ps) = on (after (tag_of p.stamp) (tag_of q.stamp)) (before after (embed p) (map embed ps)) (before after p ps) (before_mapped after p ps)
    where
      on : (b : Bool) (xs : List (Stamped Op Effect)) (ys : List (Stamped O E)) → xs ≡ map embed ys → cond b (embed q ∷ xs) xs ≡ map embed (cond b (q ∷ ys) ys)
      on true xs ys e = ap (λ (xs : List (Stamped Op Effect)). embed q ∷ xs) e
      on false xs ys e = e

  sums_mapped : (sum : Stamped Op Effect → ℕ) (ps : List (Stamped O E)) → with_sums sum (map embed ps) ≡ map embed (with_sums (λ p. sum (embed p)) ps)
  sums_mapped sum [] = refl
  sums_mapped sum (p ∷ ps) = ap (λ (xs : List (Stamped Op Effect)). with_sum (sum (embed p)) (embed p) ∷ xs) (sums_mapped sum ps)

  updates_mapped : (ps : List (Stamped O E)) → updates_of (map embed ps) ≡ updates_as of_op (updates_of ps)
  updates_mapped [] = refl
  updates_mapped (p ∷ ps) = ap (λ (us : List (Update Op)). record { tag = tag_of p.stamp; op = of_op p.op } ∷ us) (updates_mapped ps)

  -- a history of the kind among all is a history of the kind
  of_the_kind : (tag : Tag) (o : O) (s : S) (e : E) → prepared tag (of_op o) (of_state s) ≡ Some (of_effect e) → kind_prepared tag o s ≡ Some e
  of_the_kind tag o s e h = on (kind_prepared tag o s) refl (sym (share.prepares tag o s) ∙ h)
    where
      on : (x : Option E) → kind_prepared tag o s ≡ x → effect_by of_effect x ≡ Some (of_effect e) → kind_prepared tag o s ≡ Some e
      on None is made = absurd (cc)
      on (Some f) is made = is ∙ ap Some (share.one f e (cc))

  was_prepared : (after : Tag → Tag → Bool) (ps : List (Stamped O E)) (p : Stamped O E)
      → WasPreparedInAnyOrder (initial k) updated prepared after (map embed ps) (embed p) → WasPreparedInAnyOrder kind_initial kind_updated kind_prepared after ps p
  was_prepared after ps p was =
      let sum : Stamped O E → ℕ = λ q. was.sum (embed q) in
      let met = permuted embed (with_sums sum (before after p ps)) was.met
      (subst (λ xs. IsPermutation xs was.met) (ap (with_sums was.sum) (before_mapped after p ps) ∙ sums_mapped was.sum (before after p ps)) was.order) in
      let same : state_after updated (initial k) was.met ≡ of_state (state_after kind_updated kind_initial met.from) =
      ap (state_after updated (initial k)) met.is ∙ mapped_from_start met.from in
      record {
        sum = sum;
        met = met.from;
        order = met.moved;
        effect = of_the_kind (tag_of p.stamp) p.op _ p.effect (subst (λ s. prepared (tag_of p.stamp) (of_op p.op) s ≡ Some (of_effect p.effect)) same was.effect);
      }

  kind_history : (after : Tag → Tag → Bool) (ps : List (Stamped O E))
      → IsHistoryInAnyOrder (initial k) updated prepared after (map embed ps) → IsHistoryInAnyOrder kind_initial kind_updated kind_prepared after ps
  kind_history after ps history = record {
    ordered = later_unmapped embed StandsBefore StandsBefore (λ p q s. record { apart = s.apart; earlier = s.earlier }) ps history.ordered;
    made = λ p i. was_prepared after ps p (history.made (embed p) (in_mapped embed p ps i));
  }

  -- THE LAWS OF THE SHARE
  answers_mapped : AnswersInAnyOrder kind_initial kind_updated kind_answered kind_prepared kind_value
      → (after : Tag → Tag → Bool) (ps : List (Stamped O E)) (vs : List (Stamped Op Effect))
      → IsHistoryInAnyOrder (initial k) updated prepared after (map embed ps) → IsPermutation (map embed ps) vs
      → (o : O) → answered (of_op o) (state_after updated (initial k) vs) ≡ value_of (of_op o) (updates_of (map embed ps)) after
  answers_mapped law after ps vs history moved o =
      let m = permuted embed ps vs moved in
      ap (answered (of_op o)) (ap (state_after updated (initial k)) m.is ∙ mapped_from_start m.from)
      ∙ share.answers o (state_after kind_updated kind_initial m.from)
      ∙ ap of_answer (law after ps m.from (kind_history after ps history) m.moved o)
      ∙ sym (share.defined o (updates_of ps) after)
      ∙ ap (λ us. value_of (of_op o) us after) (sym (updates_mapped ps))

  pub share_answers : AnswersInAnyOrder kind_initial kind_updated kind_answered kind_prepared kind_value
      → (after : Tag → Tag → Bool) (us vs : List (Stamped Op Effect)) → AllFit k us
      → IsHistoryInAnyOrder (initial k) updated prepared after us → IsPermutation us vs
      → (op : Op) → op_fits k op ≡ true → answered op (state_after updated (initial k) vs) ≡ value_of op (updates_of us) after
  share_answers law after us vs fit history moved op fits =
      let ps = as_kind us fit (λ u i. had_effect after us u (all_in _ u us fit i) (history.made u i)) in
      let o = share.fits op fits in
      let Answers : List (Stamped Op Effect) → Op → Type 0 = λ us op. answered op (state_after updated (initial k) vs) ≡ value_of op (updates_of us) after in
      let mapped : Answers (map embed ps.0) (of_op o.0) =
      answers_mapped law after ps.0 vs (subst (IsHistoryInAnyOrder (initial k) updated prepared after) ps.1 history) (subst (λ us. IsPermutation us vs) ps.1 moved) o.0 in
      subst (λ us. Answers us op) (sym ps.1) (subst (Answers (map embed ps.0)) (sym o.1) mapped)

  pub share_prepares : (us : List (Stamped Op Effect)) (tag : Tag) (op : Op) → op_fits k op ≡ true
      → (prepared tag op (state_after updated (initial k) us) ≡ None) ↔ (is_update op ≡ false)
  share_prepares us tag op fits =
      let o = share.fits op fits in
      let t = stays_from_start us in
      let same : prepared tag op (state_after updated (initial k) us) ≡ effect_by of_effect (kind_prepared tag o.0 t.0) =
      (λ i. prepared tag (o.1 i) (t.1 i)) ∙ share.prepares tag o.0 t.0 in
      let reads = share.updates tag o.0 t.0 in (
        λ none. ap is_update o.1 ∙ reads.0 (without (kind_prepared tag o.0 t.0) (sym same ∙ none)),
        λ read. same ∙ ap (effect_by of_effect) (reads.1 (sym (ap is_update o.1) ∙ read)),
      )
    where
      without : (x : Option E) → effect_by of_effect x ≡ None → x ≡ None
      without None e = refl
      without (Some f) e = absurd (cc)
