-- Why a verdict is given.
use Rattle.std.proofs.Common.{◌≡◌, ◌⊎◌, inl, inr, ℕ, zero, suc, ◌+◌, ◌<◌, List, [], ◌∷◌, length, get_or, slice_get, Option, Some, None}
use Rattle.std.proofs.Common.{Bool, true, false, not, ◌&&◌, ◌||◌, refl, sym, ap, ◌∙◌, subst, arith, true≢false}
use Rattle.std.proofs.lemmas.Bool.{and_parts, cond-true, cond-false}
use Rattle.std.proofs.lemmas.List.Quantifiers.{position-Some}
use Rattle.std.proofs.lemmas.Option.{slice_get-get_or}
use Rattle.std.specs.List.{list_any, position}
use Rattle.us_kind.proofs.TestLemmas.{tid_eq-same, tid_eq-true}
use Rattle.us_kind.specs.Comparison.{tid_eq}
use Rattle.us_kind.specs.declared.identity.Tid.{Tid}
use Rattle.us_value.specs.declared.item.Item.{Item}
use Rattle.us_value.specs.declared.operation.Class.{Class}
use Rattle.us_conflict.proofs.PlaceLemmas.{position-none}
use Rattle.us_conflict.specs.Conflicts.{conflicts_with_some, transactions_conflict}
use Rattle.us_peer_wire.specs.declared.message.LogEntry.{LogEntry}
use Rattle.us_peer_wire.specs.declared.message.Verdict.{Verdict}
use Rattle.us_peer_wire.specs.declared.message.Verdict.TheVariants.{Commit, Abort, Repeat}
use Rattle.us_certify.specs.declared.decision.Decision.{Decision}
use Rattle.us_certify.specs.Certification.{abort_by, abort_on, certified_by, verdict_after, verdict_or}
use Rattle.us_certify.specs.Certification.{conflict_item, decision_in, holds, is_commit, is_unseen, item_at, item_of}
use Rattle.us_certify.specs.Laws.{IsAbort, IsAgainst, IsHeld, IsVerdict, NoneAgainst}

-- HELD: what the test says
held-behind : (d : Decision) (ds : List Decision) (tid : Tid) (slot : ℕ) (x : Decision) → decision_in ds slot ≡ Some x → x.entry.tid ≡ tid → IsHeld (d ∷ ds) tid
held-behind d ds tid zero x here same = absurd (cc)
held-behind d ds tid (suc k) x here same = record { slot = suc (suc k); decision = x; here = here; same = same }

pub held : (ds : List Decision) (tid : Tid) → holds ds tid ≡ true → IsHeld ds tid
held [] tid h = absurd (true≢false (sym h))
held (d ∷ ds) tid h = on (tid_eq d.entry.tid tid) refl (held ds tid)
  where
    on : (b : Bool) → tid_eq d.entry.tid tid ≡ b → (holds ds tid ≡ true → IsHeld ds tid) → IsHeld (d ∷ ds) tid
    on true e rest = record { slot = 1; decision = d; here = refl; same = tid_eq-true d.entry.tid tid e }
    on false e rest = let r = rest (sym (ap (λ b. b || holds ds tid) e) ∙ h) in held-behind d ds tid r.slot r.decision r.here r.same

or-true : (b : Bool) {c : Bool} → c ≡ true → (b || c) ≡ true
or-true true e = refl
or-true false e = e

-- and what stands at a place passes it
pub held-test : (ds : List Decision) (k : ℕ) (d : Decision) (tid : Tid) → slice_get ds k ≡ Some d → d.entry.tid ≡ tid → holds ds tid ≡ true
held-test [] k d tid here same = absurd (cc)
held-test (x ∷ ds) zero d tid here same =
    let is : x ≡ d = cc in
    ap (λ (y : Decision). tid_eq y.entry.tid tid || holds ds tid) is
    ∙ ap (λ t. tid_eq t tid || holds ds tid) same
    ∙ ap (λ b. b || holds ds tid) (tid_eq-same tid)
held-test (x ∷ ds) (suc k) d tid here same = or-true (tid_eq x.entry.tid tid) (held-test ds k d tid here same)

held_in-test : (ds : List Decision) (slot : ℕ) (d : Decision) (tid : Tid) → decision_in ds slot ≡ Some d → d.entry.tid ≡ tid → holds ds tid ≡ true
held_in-test ds zero d tid here same = absurd (cc)
held_in-test ds (suc k) d tid here same = held-test ds k d tid here same

not_held : (ds : List Decision) (tid : Tid) → holds ds tid ≡ false → IsHeld ds tid → ⊥
not_held ds tid none h = absurd (true≢false (sym (held_in-test ds h.slot h.decision tid h.here h.same) ∙ none))

-- CONFLICTS: there is an item on which two entries conflict exactly where they do
record Found (touches : List (Item × Class)) (place : Option ℕ) : Type 0 where
  item : Item
  is : item_at touches place ≡ Some item

found-at : (p : Item × Class → Bool) (x : Item × Class) (xs : List (Item × Class)) → list_any p (x ∷ xs) ≡ true
    → (place : Option ℕ) → place ≡ position p (x ∷ xs) → Found (x ∷ xs) place
found-at p x xs some None is = absurd (true≢false (sym some ∙ (position-none p (x ∷ xs) None is).0 refl))
found-at p x xs some (Some k) is =
    let at = position-Some p (x ∷ xs) k x (sym is) in
    record { item = (get_or (x ∷ xs) k x).0; is = ap item_of (slice_get-get_or (x ∷ xs) k x at.0) }

found : (p : Item × Class → Bool) (xs : List (Item × Class)) → list_any p xs ≡ true → Found xs (position p xs)
found p [] some = absurd (true≢false (sym some))
found p (x ∷ xs) some = found-at p x xs some (position p (x ∷ xs)) refl

missed : (p : Item × Class → Bool) (xs : List (Item × Class)) → list_any p xs ≡ false → item_at xs (position p xs) ≡ None
missed p xs none = ap (item_at xs) ((position-none p xs (position p xs) refl).1 none)

-- ABORTS
commits : (v : Verdict) → is_commit v ≡ true → v ≡ Commit
commits Commit e = refl
commits (Abort slot named item) e = absurd (true≢false (sym e))
commits Repeat e = absurd (true≢false (sym e))

is_false : (b : Bool) → not b ≡ true → b ≡ false
is_false true e = absurd (true≢false (sym e))
is_false false e = refl

module _ (pairs : List (ℕ × Class × Class)) (e : LogEntry) where
  -- what an abort by the decision in a slot tells
  record Aborts (slot : ℕ) (d : Decision) : Type 0 where
    against : IsAgainst pairs e slot d
    item : Item
    item_is : conflict_item pairs e d.entry ≡ Some item
    is : abort_by pairs e slot d ≡ Some (Abort slot d.entry.tid item)

  aborts : (slot : ℕ) (d : Decision) → is_unseen e slot d ≡ true → transactions_conflict pairs e.touches d.entry.touches ≡ true → Aborts slot d
  aborts slot d unseen conflict =
      let f = found (conflicts_with_some pairs d.entry.touches) e.touches conflict in
      let parts = and_parts _ _ unseen in
      record {
        against = record { committed = commits d.verdict parts.0; conflicts = conflict; unseen = is_false _ parts.1 };
        item = f.item;
        item_is = f.is;
        is = cond-true _ _ _ unseen ∙ ap (abort_on slot d.entry.tid) f.is;
      }

  -- either there is none, or it tells that
  abort_cases : (slot : ℕ) (d : Decision) → (abort_by pairs e slot d ≡ None) ⊎ Aborts slot d
  abort_cases slot d = on (is_unseen e slot d) refl
    where
      conflicting : is_unseen e slot d ≡ true → (b : Bool) → transactions_conflict pairs e.touches d.entry.touches ≡ b
          → (abort_by pairs e slot d ≡ None) ⊎ Aborts slot d
      conflicting unseen true c = inr (aborts slot d unseen c)
      conflicting unseen false c =
          inl (cond-true _ _ _ unseen ∙ ap (abort_on slot d.entry.tid) (missed (conflicts_with_some pairs d.entry.touches) e.touches c))

      on : (b : Bool) → is_unseen e slot d ≡ b → (abort_by pairs e slot d ≡ None) ⊎ Aborts slot d
      on true u = conflicting u (transactions_conflict pairs e.touches d.entry.touches) refl
      on false u = inl (cond-false _ _ _ u)

  -- where there is none, the decision isn't against the entry
  not_against : (slot : ℕ) (d : Decision) → abort_by pairs e slot d ≡ None → IsAgainst pairs e slot d → ⊥
  not_against slot d none a =
      let unseen : is_unseen e slot d ≡ true = (λ i. is_commit (a.committed i) && not (a.unseen i)) in
      let some = aborts slot d unseen a.conflicts in
      let both = sym none ∙ some.is in
      absurd (cc)

  -- PASSES over decisions in the slots from n on
  record FirstAbort (n : ℕ) (ds : List Decision) (slot : ℕ) (named : Tid) (item : Item) : Type 0 where
    place : ℕ
    slot_is : slot ≡ n + place
    by : Decision
    here : slice_get ds place ≡ Some by
    against : IsAgainst pairs e (n + place) by
    least : (k : ℕ) (d : Decision) → k < place → slice_get ds k ≡ Some d → IsAgainst pairs e (n + k) d → ⊥
    named_is : named ≡ by.entry.tid
    item_is : conflict_item pairs e by.entry ≡ Some item

  abbrev Says : ℕ → List Decision → Verdict → Type 0
  Says n ds Commit = (k : ℕ) (d : Decision) → slice_get ds k ≡ Some d → IsAgainst pairs e (n + k) d → ⊥
  Says n ds (Abort slot named item) = FirstAbort n ds slot named item
  Says n ds Repeat = ⊥

  moved : (n k : ℕ) (d : Decision) → IsAgainst pairs e (n + suc k) d → IsAgainst pairs e ((n + 1) + k) d
  moved n k d a = subst (λ m. IsAgainst pairs e m d) (omega arith) a

  back : (n k : ℕ) (d : Decision) → IsAgainst pairs e ((n + 1) + k) d → IsAgainst pairs e (n + suc k) d
  back n k d a = subst (λ m. IsAgainst pairs e m d) (omega arith) a

  at_first : (n : ℕ) (x d : Decision) → x ≡ d → IsAgainst pairs e (n + 0) d → IsAgainst pairs e n x
  at_first n x d same a = subst (λ m. IsAgainst pairs e m x) (omega arith) (subst (λ y. IsAgainst pairs e (n + 0) y) (sym same) a)

  -- a decision that isn't against the entry stands in front
  passes : (n : ℕ) (x : Decision) (ds : List Decision) → (IsAgainst pairs e n x → ⊥) → (v : Verdict) → Says (n + 1) ds v → Says n (x ∷ ds) v
  passes n x ds free Commit says = none
    where
      none : (k : ℕ) (d : Decision) → slice_get (x ∷ ds) k ≡ Some d → IsAgainst pairs e (n + k) d → ⊥
      none zero d here a = free (at_first n x d (cc) a)
      none (suc k) d here a = says k d here (moved n k d a)
  passes n x ds free (Abort slot named item) says =
      record {
        place = suc says.place;
        slot_is = let s = says.slot_is in omega (arith, s);
        by = says.by;
        here = says.here;
        against = back n says.place says.by says.against;
        least = least;
        named_is = says.named_is;
        item_is = says.item_is;
      }
    where
      least : (k : ℕ) (d : Decision) → k < suc says.place → slice_get (x ∷ ds) k ≡ Some d → IsAgainst pairs e (n + k) d → ⊥
      least zero d below here a = free (at_first n x d (cc) a)
      least (suc k) d below here a = says.least k d (omega (arith, below)) here (moved n k d a)
  passes n x ds free Repeat says = says

  first : (n : ℕ) (x : Decision) (ds : List Decision) (a : Aborts n x) → Says n (x ∷ ds) (Abort n x.entry.tid a.item)
  first n x ds a =
      record {
        place = 0;
        slot_is = omega arith;
        by = x;
        here = refl;
        against = subst (λ m. IsAgainst pairs e m x) (omega arith) a.against;
        least = λ k d below here against. absurd (omega (arith, below));
        named_is = refl;
        item_is = a.item_is;
      }

  said : (n : ℕ) (ds : List Decision) → Says n ds (certified_by pairs e n ds)
  said n [] = λ k d here a. absurd (cc)
  said n (x ∷ ds) = on (abort_cases n x) (said (n + 1) ds)
    where
      on : (abort_by pairs e n x ≡ None) ⊎ Aborts n x → Says (n + 1) ds (certified_by pairs e (n + 1) ds) → Says n (x ∷ ds) (certified_by pairs e n (x ∷ ds))
      on (inl none) rest =
          subst (Says n (x ∷ ds)) (sym (ap (λ o. verdict_or o (certified_by pairs e (n + 1) ds)) none))
          (passes n x ds (not_against n x none) (certified_by pairs e (n + 1) ds) rest)
      on (inr a) rest = subst (Says n (x ∷ ds)) (sym (ap (λ o. verdict_or o (certified_by pairs e (n + 1) ds)) a.is)) (first n x ds a)

  -- VERDICTS
  against_at : (k : ℕ) (d : Decision) → IsAgainst pairs e (suc k) d → IsAgainst pairs e (1 + k) d
  against_at k d a = subst (λ m. IsAgainst pairs e m d) (omega arith) a

  told : (ds : List Decision) → (IsHeld ds e.tid → ⊥) → (v : Verdict) → Says 1 ds v → IsVerdict pairs ds e v
  told ds new Commit says = (new, none)
    where
      none : NoneAgainst pairs ds e (length ds + 1)
      none zero d below here a = absurd (cc)
      none (suc k) d below here a = says k d here (against_at k d a)
  told ds new (Abort slot named item) says = (new, subst (λ n. IsAbort pairs ds e n named item) (sym slot_is) abort)
    where
      slot_is : slot ≡ suc says.place
      slot_is = let s = says.slot_is in omega (arith, s)

      least : NoneAgainst pairs ds e (suc says.place)
      least zero d below here a = absurd (cc)
      least (suc k) d below here a = says.least k d (omega (arith, below)) here (against_at k d a)

      abort : IsAbort pairs ds e (suc says.place) named item
      abort =
          record {
            by = says.by;
            here = says.here;
            against = subst (λ m. IsAgainst pairs e m says.by) (omega arith) says.against;
            least = least;
            named_is = says.named_is;
            item_is = says.item_is;
          }
  told ds new Repeat says = absurd says

  pub verdict-says_why : (ds : List Decision) → IsVerdict pairs ds e (verdict_after pairs ds e)
  verdict-says_why ds = on (holds ds e.tid) refl
    where
      on : (b : Bool) → holds ds e.tid ≡ b → IsVerdict pairs ds e (verdict_after pairs ds e)
      on true h = subst (IsVerdict pairs ds e) (sym (cond-true _ _ _ h)) (held ds e.tid h)
      on false h = subst (IsVerdict pairs ds e) (sym (cond-false _ _ _ h)) (told ds (not_held ds e.tid h) (certified_by pairs e 1 ds) (said 1 ds))
