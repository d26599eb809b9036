-- What a start keeps: a ballot begins with the best of f + 1 promises.
use Rattle.std.proofs.Common.{◌≡◌, ◌⊎◌, inl, inr, ⊎_elim, ℕ, zero, suc, ◌+◌, ◌-◌, ◌*◌, ◌<◌, ◌≤◌, List, [], ◌∷◌, ◌++◌, length, length-append, drop}
use Rattle.std.proofs.Common.{Bool, true, false, Some, None, refl, sym, ap, ◌∙◌, subst, arith, true≢false}
use Rattle.std.specs.Prelude.{◌==◌, ◌&&◌, ◌||◌, if◌then◌else◌, nat_lt, replicate, slice_get}
use Rattle.std.proofs.lemmas.List.{drop-drop}
use Rattle.std.proofs.Math.Seq.{drop-append_seam}
use Rattle.std.proofs.lemmas.Bool.{cases_eq, cases_lt, eqb-true, ltb-true, and_parts, or_cases}
use Rattle.std.proofs.lemmas.Bool.Decides.{nat_tests}
use Rattle.us_kind.specs.Comparison.{In}
use Rattle.us_ballot_model.specs.declared.log.PromisedLog.{PromisedLog}
use Rattle.us_ballot_model.specs.declared.log.BallotLog.{BallotLog}
use Rattle.us_ballot_model.specs.declared.message.BallotMessage.TheVariants.{NewState}
use Rattle.us_ballot_model.specs.Ballots.{sites, owner, to_others, count, has_promised, reach, is_better, best}
use Rattle.us_ballot_model.specs.Rules.{led}
use Rattle.us_ballot_model.specs.Worlds.{put}
use Rattle.us_agreement.specs.SiteCounts.{count as count_of}
use Rattle.us_agreement.proofs.Same.{IsDecided, merged, Same, same_refl}
use Rattle.us_agreement.proofs.History.{Ack, Start, IsStarted, StartOk}
use Rattle.us_agreement.proofs.Growth.{is_own, Grows, started_later, chosen_later, best_later}
use Rattle.us_agreement.proofs.Logs.{Claim, best_ok}
use Rattle.us_agreement.proofs.Counting.{promises_count, has_promised_in, majority_of}
use Rattle.us_agreement.proofs.Facts.{Past, LogIs, PromiseOk, IsLeading, CollectOk, SiteOk, HistoryOk, Owes, starts_kept, choices_kept, put_same, put_other}
use Rattle.us_agreement.proofs.Steps.{Step, to_others_ok}
use Rattle.us_agreement.proofs.Growing.{put_grows}

-- nobody has acknowledged anything
no_ack : (m k n : ℕ) → slice_get (replicate m None) k ≡ Some (Some n) → ⊥
no_ack zero k n e = cc
no_ack (suc m) zero n e = cc
no_ack (suc m) (suc k) n e = no_ack m k n e

-- THE BEST PROMISE: of a greater ballot, or of the same one and not shorter
abbrev pub Beats : {E : Type 0} → PromisedLog E → PromisedLog E → Type 0
Beats v u = (u.accepted < v.accepted) ⊎ ((u.accepted ≡ v.accepted) × (reach u ≤ reach v))

beats_trans : {E : Type 0} (a b c : PromisedLog E) → Beats a b → Beats b c → Beats a c
beats_trans a b c (inl h) (inl k) = inl (omega arith)
beats_trans a b c (inl h) (inr k) = inl (let e = k.0 in omega arith)
beats_trans a b c (inr h) (inl k) = inl (let e = h.0 in omega arith)
beats_trans a b c (inr h) (inr k) = inr (k.0 ∙ h.0, let x = h.1 in let y = k.1 in omega arith)

not_less : (a b : ℕ) (rest : Bool) → (nat_lt a b || rest) ≡ false → (b ≤ a) × (rest ≡ false)
not_less a b rest e = on (nat_lt a b) refl e
  where
    on : (t : Bool) → nat_lt a b ≡ t → (t || rest) ≡ false → (b ≤ a) × (rest ≡ false)
    on true q k = absurd (true≢false k)
    on false q k = (grind (arith, nat_tests), k)

not_both : (a b : ℕ) (rest : Bool) → ((a == b) && rest) ≡ false → a ≡ b → rest ≡ false
not_both a b rest e q = on (a == b) refl e
  where
    on : (t : Bool) → (a == b) ≡ t → (t && rest) ≡ false → rest ≡ false
    on true k x = x
    on false k x = absurd (grind (arith, nat_tests))

better : {E : Type 0} (u v : PromisedLog E) → Beats (if is_better u v then u else v) v × Beats (if is_better u v then u else v) u
better {E} u v = on (is_better u v) refl
  where
    longer : (nat_lt (reach v) (reach u) || ((reach v == reach u) && nat_lt u.site v.site)) ≡ true → reach v ≤ reach u
    longer e = ⊎_elim
        (λ (a : nat_lt (reach v) (reach u) ≡ true). let x : reach v < reach u = ltb-true (reach v) (reach u) a in omega arith)
        (λ (a : ((reach v == reach u) && nat_lt u.site v.site) ≡ true). let x : reach v ≡ reach u = eqb-true (reach v) (reach u)
        (and_parts (reach v == reach u) (nat_lt u.site v.site) a).0 in omega arith)
        (or_cases (nat_lt (reach v) (reach u)) ((reach v == reach u) && nat_lt u.site v.site) e)

    on : (t : Bool) → is_better u v ≡ t → Beats (if t then u else v) v × Beats (if t then u else v) u
    on true e = (
      ⊎_elim (λ a. inl (ltb-true _ _ a)) (λ a. let f = and_parts _ _ a in inr (eqb-true v.accepted u.accepted f.0, longer f.1)) (or_cases _ _ e),
      inr (refl, omega arith),
    )
    on false e = (inr (refl, omega arith), worse (not_less v.accepted u.accepted _ e))
      where
        worse : (u.accepted ≤ v.accepted) × (((v.accepted == u.accepted) &&
            (nat_lt (reach v) (reach u) || ((reach v == reach u) && nat_lt u.site v.site))) ≡ false) → Beats v u
        worse w = ⊎_elim
            (λ (l : u.accepted < v.accepted). inl l)
            (λ (l : v.accepted ≤ u.accepted). let q : v.accepted ≡ u.accepted = (let x = w.0 in omega arith) in inr
            (sym q, (not_less (reach v) (reach u) _ (not_both v.accepted u.accepted _ w.1 q)).0))
            (cases_lt u.accepted v.accepted)

best_both : {E : Type 0} (v : PromisedLog E) (vs : List (PromisedLog E)) → Beats (best v vs) v × ((u : PromisedLog E) → In u vs → Beats (best v vs) u)
best_both v [] = (inr (refl, omega arith), λ u i. absurd i)
best_both v (u ∷ us) =
    let w = if is_better u v then u else v in
    let h = best_both w us in
    let k = better u v in
    (beats_trans (best w us) w v h.0 k.0, λ x i. ⊎_elim (λ e. subst (Beats (best w us)) e (beats_trans (best w us) w u h.0 k.1)) (λ j. h.1 x j) i)

pub best_beats : {E : Type 0} (v : PromisedLog E) (vs : List (PromisedLog E)) → (u : PromisedLog E) → In u (v ∷ vs) → Beats (best v vs) u
best_beats v vs u (inl e) = subst (Beats (best v vs)) e (best_both v vs).0
best_beats v vs u (inr i) = (best_both v vs).1 u i

pub best_in : {E : Type 0} (v : PromisedLog E) (vs : List (PromisedLog E)) → In (best v vs) (v ∷ vs)
best_in v [] = inl refl
best_in v (u ∷ us) = on (is_better u v) (best_in u us) (best_in v us)
  where
    on : (t : Bool) → In (best u us) (u ∷ us) → In (best v us) (v ∷ us) → In (best (if t then u else v) us) (v ∷ u ∷ us)
    on true a b = inr a
    on false a b = ⊎_elim (λ e. inl e) (λ j. inr (inr j)) b

module _ {E : Type 0} (dec : IsDecided E) (f : ℕ) (p : Past E) (hist : HistoryOk f p) (s : ℕ) (here : In s (sites f)) (c : BallotLog E)
    (g : SiteOk f p s c) (v : PromisedLog E) (vs : List (PromisedLog E)) (h : CollectOk f p s c (v ∷ vs)) (enough : f < length (v ∷ vs))
    (le : (best v vs).base ≤ length c.chosen) where
  the_best : PromiseOk f p c.ballot (best v vs)
  the_best = h.promises (best v vs) (best_in v vs)

  -- the ballot's log begins so
  begins : Start E
  begins = record { ballot = c.ballot; prefix = c.chosen; best = the_best.log; quorum = has_promised (v ∷ vs) }

  first_log : List E
  first_log = merged c.chosen the_best.log

  is_led : first_log ≡ c.chosen ++ drop (length c.chosen - (best v vs).base) (best v vs).tail
  unfolding first_log merged
  is_led =
      let b = (best v vs).base in
      let e : b + (length c.chosen - b) ≡ length c.chosen = omega arith in
      ap (λ l. c.chosen ++ l) (ap (λ k. drop k the_best.log) (sym e) ∙ sym (drop-drop (length c.chosen - b) b the_best.log) ∙ ap
      (drop (length c.chosen - b)) the_best.is)

  fresh : IsStarted p.starts c.ballot → ⊥
  fresh st = let x = g.owned st.start st.here (ap (owner f) st.is ∙ h.owns) in let y = st.is in let z = h.new in omega arith

  nothing : length (p.logs c.ballot) ≡ 0
  nothing = hist.empty c.ballot fresh

  logs' : ℕ → List E
  logs' = put p.logs c.ballot first_log

  at : logs' c.ballot ≡ first_log
  unfolding logs'
  at = put_same p.logs c.ballot first_log

  grows_logs : Grows p.starts p.starts p.logs logs' p.choices p.choices
  unfolding logs'
  grows_logs =
      put_grows p.starts p.logs p.choices c.ballot first_log (let x = nothing in omega arith)
      (record { at = λ k l. absurd (let x = nothing in omega arith) })

  middle_past : Past E
  middle_past = record p { logs = logs' }

  begun_past : Past E
  begun_past = record p { starts = begins ∷ p.starts; logs = logs' }

  own_logs : (b : ℕ) → (owner f b ≡ s) ⊎ (logs' b ≡ p.logs b)
  unfolding logs'
  own_logs b = ⊎_elim (λ (q : b ≡ c.ballot). inl (ap (owner f) q ∙ h.owns)) (λ q. inr (put_other p.logs c.ballot first_log b q)) (cases_eq b c.ballot)

  middle_owes : Owes f p middle_past s
  unfolding middle_past
  middle_owes =
      record {
        grows = grows_logs;
        told = λ a i. i;
        up = λ z. omega arith;
        new_acks = λ b z k i. inl i;
        new_starts = λ h i. inl i;
        new_logs = own_logs;
        same_up = λ z a. refl;
      }

  begun_owes : Owes f p begun_past s
  unfolding begun_past begins
  begun_owes = record {
    grows = record { starts = λ x i. inr i; longer = grows_logs.longer; same = grows_logs.same; choices = grows_logs.choices };
    told = λ a i. i;
    up = λ z. omega arith;
    new_acks = λ b z k i. inl i;
    new_starts = λ x i. ⊎_elim (λ (e : begins ≡ x). inr (subst (λ (y : Start E). owner f y.ballot ≡ s) e h.owns)) (λ j. inl j) i;
    new_logs = own_logs;
    same_up = λ z a. refl;
  }

  majority : length (sites f) < 2 * count_of (has_promised (v ∷ vs)) (sites f)
  majority = majority_of f _ (let k = promises_count (v ∷ vs) (sites f) (λ u i. (h.promises u i).here) h.apart in omega arith)

  -- the best log against each acknowledgement of who promised
  begins_ok : StartOk (sites f) logs' p.choices p.told begins p.starts
  unfolding begins first_log
  begins_ok = record {
    majority = majority;
    prefix_is = inr g.chosen;
    acks = λ z b n m q lt i le.
        let r = has_promised_in (v ∷ vs) z q in
        let x = h.promises r.0 r.1 in
        let k = x.acks b n (subst (λ y. In (Ack b y n) p.told) (sym r.2) i) lt in
        let mine : Claim E = record { accepted = (best v vs).accepted; log = the_best.log } in
        let theirs : Claim E = record { accepted = (r.0).accepted; log = x.log } in
        let beats =
        ⊎_elim (λ (a : (r.0).accepted < (best v vs).accepted). inl a)
        (λ (a : ((r.0).accepted ≡ (best v vs).accepted) × (reach r.0 ≤ reach (best v vs))). inr
        (a.0, let y = a.1 in let u = x.fits in let w = the_best.fits in omega arith)) (best_beats v vs r.0 r.1) in (
          k.1,
          best_later the_best.log b m grows_logs (best_ok dec (sites f) p.starts p.logs p.choices p.told hist.starts hist.choices hist.started
              mine theirs the_best.facts beats b n m k le),
        );
    within = (let x = ap length at in omega arith);
    extends = (let P : List E → Type 0 = λ y. Same (length first_log) first_log y in subst P (sym at) (same_refl _ first_log));
  }

  begun_history : HistoryOk f begun_past
  unfolding begun_past middle_past begins logs' first_log
  begun_history = record {
    starts = (begins_ok, starts_kept f p middle_past s middle_owes hist);
    choices = choices_kept f p middle_past s middle_owes hist;
    started = λ d i. started_later d.ballot begun_owes.grows (hist.started d i);
    empty = λ b away.
        let q : b ≡ c.ballot → ⊥ = λ z. away (record { start = begins; here = inl refl; is = sym z }) in
        ap length (other b q) ∙ hist.empty b (λ st. away (record { start = st.start; here = inr st.here; is = st.is }));
    moved =
        λ x i z q. ⊎_elim (λ (e : begins ≡ x). let P : Start E → Type 0 = λ y. y.quorum z ≡ true → y.ballot ≤ p.up z in subst P e (λ k. promised z k)
        q) (λ j. hist.moved x j z q) i;
  }
    where
      other : (b : ℕ) → (b ≡ c.ballot → ⊥) → logs' b ≡ p.logs b
      other b q = ⊎_elim (λ a. put_other p.logs c.ballot first_log b q) (λ a. a) (own_logs b)

      promised : (z : ℕ) → has_promised (v ∷ vs) z ≡ true → c.ballot ≤ p.up z
      promised z k = let r = has_promised_in (v ∷ vs) z k in subst (λ y. c.ballot ≤ p.up y) r.2 (h.promises r.0 r.1).moved

  led_log : LogIs begun_past c.ballot first_log
  unfolding begun_past begins first_log
  led_log = record {
    at_each =
        λ n le. let P : List E → Type 0 = λ y. (n ≤ length y) × Same n first_log y in let r = subst P (sym at) (le, same_refl n first_log) in is_own
        r.0 r.1;
    start = begins;
    here = inl refl;
    is = refl;
    long = inl (omega arith);
  }

  pub begin_step : Step f p s (led c (best v vs)) (to_others (led c (best v vs)) (NewState c.ballot (count c) (led c (best v vs)).tail))
  unfolding begun_past begins
  begin_step = record {
    past = begun_past;
    owes = begun_owes;
    history = begun_history;
    site = record {
      f_is = g.f_is;
      site_is = g.site_is;
      reached = g.reached;
      acc = omega arith;
      log = subst (LogIs begun_past c.ballot) is_led led_log;
      chosen = chosen_later c.chosen begun_owes.grows g.chosen;
      role = record {
        owns = h.owns;
        same = refl;
        leading =
            subst (IsLeading begun_past c.ballot) is_led (inl (let P : List E → Type 0 = λ y. (length y ≤ length first_log) × Same (length y)
            first_log y in subst P (sym at) (omega arith, same_refl _ first_log)));
        acks = λ k n e l. absurd (no_ack 9 k n e);
      };
      owned =
          λ x i e. ⊎_elim (λ (q : begins ≡ x). let P : Start E → Type 0 = λ y. y.ballot ≤ c.ballot in subst P q (omega arith))
          (λ j. let y = g.owned x j e in let z = h.new in omega arith) i;
      acks = λ b n i.
          let k = g.acks b n i in
          let x = k.0 in
          let z = h.new in
          (omega arith, started_later b begun_owes.grows k.1, λ e. absurd (omega arith));
    };
    sends = to_others_ok f s here begun_past (led c (best v vs)) g.f_is g.site_is (NewState c.ballot (count c) (led c (best v vs)).tail) (record {
      log = c.chosen ++ (led c (best v vs)).tail;
      fits = length-append c.chosen (led c (best v vs)).tail;
      is = drop-append_seam c.chosen (led c (best v vs)).tail;
      facts = subst (LogIs begun_past c.ballot) is_led led_log;
    });
  }
