-- Every run keeps the facts, so chosen lists agree, and what is chosen is held by many.
use Rattle.std.proofs.Common.{◌≡◌, ◌⊎◌, inl, inr, ⊎_elim, ℕ, zero, suc, ◌+◌, ◌-◌, ◌*◌, ◌<◌, List, [], ◌∷◌, ◌++◌, length, Bool, true, false, Option}
use Rattle.std.proofs.Common.{Some, None, refl, sym, ap, ◌∙◌, subst, arith, true≢false}
use Rattle.std.specs.Prelude.{◌==◌, ◌&&◌, if◌then◌else◌, nat_le, replicate, slice_get}
use Rattle.std.specs.Bool.{Decides}
use Rattle.std.proofs.Math.Nat.{zero-mod}
use Rattle.std.proofs.lemmas.Bool.{cond_both, eqb-true, leb-true, and_parts}
use Rattle.us_kind.specs.Comparison.{In}
use Rattle.us_kind.proofs.ListLemmas.{in_got}
use Rattle.us_ballot_model.specs.declared.log.Role.TheVariants.{Follower, Leader}
use Rattle.us_ballot_model.specs.Ballots.{sites, sites_from, owner, first_acks, opening}
use Rattle.us_ballot_model.specs.Rules.{Stepped, lead, may_append, append, tick, take_message}
use Rattle.us_ballot_model.specs.Worlds.{Sent, World, WorldEvent, Lead, Append, Tick, Crash, Deliver, acts, stepped, steps, deliver_packet}
use Rattle.us_ballot_model.specs.Worlds.{world_step, run, opening_world}
use Rattle.us_agreement.specs.SiteCounts.{count}
use Rattle.us_agreement.proofs.Same.{IsDecided, same_refl}
use Rattle.us_agreement.proofs.History.{Start, Choice, IsStarted, ChoiceOk}
use Rattle.us_agreement.proofs.Growth.{is_own}
use Rattle.us_agreement.proofs.Logs.{length-merged}
use Rattle.us_agreement.proofs.Counting.{site_in}
use Rattle.us_agreement.proofs.Facts.{Past, RoleOk, SiteOk, HistoryOk, Holds}
use Rattle.us_agreement.proofs.Preservation.{Preserves, lead_preserves, append_preserves, tick_preserves, take_preserves}

abbrev pub WorldOk : {E : Type 0} → ℕ → World E → Type 0
WorldOk f w = Holds f w.at w.sent

-- BEFORE ANYTHING HAPPENED
everyone : (xs : List ℕ) → count (λ z. true) xs ≡ length xs
everyone [] = refl
everyone (x ∷ xs) = let h = everyone xs in omega arith

some_sites : (f : ℕ) → 0 < length (sites f)
some_sites f = let e : 2 * f + 1 ≡ suc (2 * f) = omega arith in let P : ℕ → Type 0 = λ k. 0 < length (sites_from 1 k) in subst P (sym e) (omega arith)

all_many : (f : ℕ) → length (sites f) < 2 * count (λ z. true) (sites f)
all_many f = let h = everyone (sites f) in let k = some_sites f in omega arith

first_owner : (f : ℕ) → owner f 1 ≡ 1
unfolding owner
first_owner f = let e : 1 - 1 ≡ 0 = refl in let z = zero-mod (2 * f + 1) in omega arith

nothing_told : (m k n : ℕ) → slice_get (replicate m (Some 0)) k ≡ Some (Some n) → n ≡ 0
nothing_told zero k n e = absurd (cc)
nothing_told (suc m) zero n e = cc
nothing_told (suc m) (suc k) n e = nothing_told m k n e

module _ (E : Type 0) (f : ℕ) where
  first_start : Start E
  first_start = record { ballot = 1; prefix = []; best = []; quorum = λ z. true }

  no_choice : Choice E
  no_choice = record { ballot = 1; log = []; quorum = λ z. true }

  first_past : Past E
  first_past = record { starts = first_start ∷ []; logs = λ b. []; choices = no_choice ∷ []; told = []; up = λ z. 1 }

  first_history : HistoryOk f first_past
  unfolding first_past first_start no_choice
  first_history = record {
    starts = (
      record {
        majority = all_many f;
        prefix_is = inl refl;
        acks = λ z b n m q lt i le. absurd i;
        within = omega (arith, length-merged {E = E} [] []);
        extends = record { at = λ k l. absurd (omega (arith, length-merged {E = E} [] [])) };
      },
      tt,
    );
    choices =
        λ c i. ⊎_elim (λ (e : no_choice ≡ c). subst (ChoiceOk (sites f) (λ b. []) []) e
        (record { within = omega arith; same = same_refl 0 []; majority = all_many f; acks = λ x q l. absurd (omega arith) })) (λ n. absurd n) i;
    started =
        λ c i. ⊎_elim (λ (e : no_choice ≡ c). let P : Choice E → Type 0 = λ y. IsStarted (first_start ∷ []) y.ballot in subst P e
        (record { start = first_start; here = inl refl; is = refl })) (λ n. absurd n) i;
    empty = λ b away. refl;
    moved = λ h i z q. ⊎_elim (λ (e : first_start ≡ h). let x = ap (λ (y : Start E). y.ballot) e in omega arith) (λ n. absurd n) i;
  }

  first_role : (s : ℕ) → RoleOk f first_past s (opening f s) (if s == 1 then Leader first_acks else Follower)
  unfolding first_past
  first_role s = cond_both (s == 1) (Leader first_acks) Follower (RoleOk f first_past s (opening f s))
      (λ t. record {
        owns = first_owner f ∙ sym (eqb-true s 1 t);
        same = refl;
        leading = inl (omega arith, record { at = λ k l. absurd (omega arith) });
        acks = λ k n e l. let x = nothing_told 9 k n e in absurd (omega arith);
      })
      (λ t. tt)

  first_site : (s : ℕ) → SiteOk f first_past s (opening f s)
  unfolding first_past first_start no_choice
  first_site s = record {
    f_is = refl;
    site_is = refl;
    reached = omega arith;
    acc = omega arith;
    log =
        record {
          at_each = λ n le. is_own le (record { at = λ k l. absurd (omega arith) });
          start = first_start;
          here = inl refl;
          is = refl;
          long = inl (omega (arith, length-merged {E = E} [] []));
        };
    chosen =
        record {
          choice = no_choice;
          here = inl refl;
          started = record { start = first_start; here = inl refl; is = refl };
          long = omega arith;
          same = same_refl 0 [];
        };
    role = first_role s;
    owned = λ h i e. ⊎_elim (λ (q : first_start ≡ h). let x = ap (λ (y : Start E). y.ballot) q in omega arith) (λ n. absurd n) i;
    acks = λ b n i. absurd i;
  }

  pub opening_ok : WorldOk f (opening_world {E = E} f)
  opening_ok = record { past = first_past; facts = record { history = first_history; site = first_site; sent = λ x i. absurd i } }

module _ {E : Type 0} (eq : E → E → Bool) (decides : (x y : E) → Decides (eq x y) (x ≡ y)) where
  pub dec : IsDecided E
  dec x y = on (eq x y) refl
    where
      on : (b : Bool) → eq x y ≡ b → (x ≡ y) ⊎ (x ≡ y → ⊥)
      on true e = inl ((decides x y).0 e)
      on false e = inr (λ q. true≢false (sym ((decides x y).1 q) ∙ e))

  module _ (f : ℕ) where
    acting : (w : World E) (s : ℕ) → acts f w s ≡ true → In s (sites f)
    acting w s t =
        let a = and_parts (w.live s) (nat_le 1 s && nat_le s (2 * f + 1)) t in
        let b = and_parts (nat_le 1 s) (nat_le s (2 * f + 1)) a.1 in
        let lo = leb-true 1 s b.0 in
        let hi = leb-true s (2 * f + 1) b.1 in
        site_in 1 (2 * f + 1) s lo (omega arith)

    stepped_ok : (w : World E) (s : ℕ) (r : Stepped E) → WorldOk f w → (In s (sites f) → Preserves f s [] (w.at s) r) → WorldOk f (steps f w s r)
    stepped_ok w s r h does = cond_both (acts f w s) (stepped w s r) w (WorldOk f) (λ t. does (acting w s t) w.at w.sent refl h (λ x i. absurd i)) (λ t. h)

    world_step_ok : (w : World E) (h : WorldEvent E) → WorldOk f w → WorldOk f (world_step eq f w h)
    unfolding world_step
    world_step_ok w (Lead s) h = stepped_ok w s (lead (w.at s)) h (λ here. lead_preserves dec f s here [] (w.at s))
    world_step_ok w (Tick s) h = stepped_ok w s (tick (w.at s)) h (λ here. tick_preserves dec f s here [] (w.at s))
    world_step_ok w (Crash s) h = h
    world_step_ok w (Append s e) h =
        cond_both (acts f w s && may_append (w.at s)) (record (stepped w s (append (w.at s) e)) { appended = w.appended ++ e ∷ [] }) w (WorldOk f)
        (λ t. append_preserves dec f s (acting w s (and_parts (acts f w s) (may_append (w.at s)) t).0) [] (w.at s) e w.at w.sent refl h (λ x i. absurd i))
        (λ t. h)
    world_step_ok w (Deliver k) h = on (slice_get w.sent k) refl
      where
        on : (o : Option (Sent E)) → slice_get w.sent k ≡ o → WorldOk f (deliver_packet eq f w o)
        on None e = h
        on (Some x) e =
            let there = in_got w.sent k x e in
            let ok = h.facts.sent x there in
            cond_both (acts f w x.to) (stepped w x.to (take_message eq (w.at x.to) x.from x.message)) w (WorldOk f)
            (λ t. take_preserves dec f x.to (acting w x.to t) (x ∷ []) eq decides (w.at x.to) x.from x.message (λ p given. given x (inl refl)) ok.apart
            w.at w.sent refl h (λ y i. ⊎_elim (λ q. subst (λ z. In z w.sent) q there) (λ n. absurd n) i))
            (λ t. h)

    run_ok : (hs : List (WorldEvent E)) (w : World E) → WorldOk f w → WorldOk f (run eq f hs w)
    run_ok [] w h = h
    run_ok (x ∷ hs) w h = run_ok hs (world_step eq f w x) (world_step_ok w x h)

    pub every_run_ok : (hs : List (WorldEvent E)) → WorldOk f (run eq f hs (opening_world f))
    every_run_ok hs = run_ok hs (opening_world f) (opening_ok E f)
