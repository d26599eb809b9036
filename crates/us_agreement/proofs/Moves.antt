-- What learning, a leader's state, its entries and its choices keep.
use Rattle.std.proofs.Common.{◌≡◌, inl, inr, ⊎_elim, ℕ, ◌+◌, ◌-◌, ◌<◌, ◌≤◌, List, [], ◌∷◌, ◌++◌, length, length-append, length-drop, drop, refl, sym}
use Rattle.std.proofs.Common.{ap, ◌∙◌, subst, arith, append_assoc, append-nil}
use Rattle.std.specs.Prelude.{slice_get}
use Rattle.std.proofs.Math.Seq.{drop-append_seam}
use Rattle.std.proofs.lemmas.List.{drop-drop}
use Rattle.std.proofs.lemmas.Bool.{cases_lt}
use Rattle.us_kind.specs.Comparison.{In}
use Rattle.us_ballot_model.specs.declared.log.Role.{Role}
use Rattle.us_ballot_model.specs.declared.log.Role.TheVariants.{Follower, Candidate, Leader}
use Rattle.us_ballot_model.specs.declared.log.BallotLog.{BallotLog}
use Rattle.us_ballot_model.specs.declared.message.BallotMessage.TheVariants.{Accepted}
use Rattle.us_ballot_model.specs.Ballots.{sites}
use Rattle.us_agreement.proofs.Same.{IsDecided, merged, some_below, Same, same_refl, same_trans, same_less, get_drop, get_front, get_back}
use Rattle.us_agreement.proofs.Same.{merged-front, merged-back}
use Rattle.us_agreement.proofs.History.{Ack, initial, IsStarted, blocked_more}
use Rattle.us_agreement.proofs.Growth.{LogOk}
use Rattle.us_agreement.proofs.Logs.{length-merged, log_ok_same, compare_chosen, chosen_log, learn_log, learn_ack, learn_leader, merged_log}
use Rattle.us_agreement.proofs.Facts.{Past, whole, LogIs, Chosen, AckIs, StateOk, AcceptOk, LearnOk, IsLeading, RoleOk, SiteOk, HistoryOk, Owes}
use Rattle.us_agreement.proofs.Facts.{owes_nothing, starts_kept, choices_kept, promise_later, acks_later}
use Rattle.us_agreement.proofs.Steps.{Step, to_one_ok}

-- a list that begins with l
pub get_append : {E : Type 0} (c l : List E) (k : ℕ) → length c ≤ k → slice_get (c ++ l) k ≡ slice_get l (k - length c)
get_append c l k h =
    let e : length c + (k - length c) ≡ k = omega arith in
    subst (λ i. slice_get (c ++ l) i ≡ slice_get l (k - length c)) e (get_back c l (k - length c))

-- what is chosen and then what the log holds behind as many
pub merged-whole : {E : Type 0} (c : BallotLog E) → merged c.chosen (whole c) ≡ whole c
unfolding merged
merged-whole c = ap (λ l. c.chosen ++ l) (drop-append_seam c.chosen c.tail)

module _ {E : Type 0} (dec : IsDecided E) (f : ℕ) (p : Past E) (hist : HistoryOk f p) (s : ℕ) (here : In s (sites f)) (c : BallotLog E)
    (g : SiteOk f p s c) where
  pub started_at : (b : ℕ) (log : List E) → LogIs p b log → IsStarted p.starts b
  started_at b log h = record { start = h.start; here = h.here; is = h.is }

  -- what a role owes where chosen entries and tail change, and ballot and ballot of the tail stay
  role_with : (chosen tail : List E) (r : Role E) → length c.chosen ≤ length chosen
      → (c.accepted ≡ c.ballot → IsLeading p c.ballot (whole c) → IsLeading p c.ballot (chosen ++ tail)) → RoleOk f p s c r
      → RoleOk f p s (record c { chosen = chosen; tail = tail }) r
  role_with chosen tail Follower le k h = tt
  role_with chosen tail (Candidate promises) le k h =
      record { owns = h.owns; new = h.new; promises = h.promises; apart = h.apart; own = λ v i e. let x = h.own v i e in omega arith }
  role_with chosen tail (Leader acks) le k h = record { owns = h.owns; same = h.same; leading = k h.same h.leading; acks = h.acks }

  -- LEARN: chosen entries that hold all that is chosen here
  learnt_log : (chosen tail : List E) → Chosen p chosen → length c.chosen ≤ length chosen → LogIs p c.accepted (chosen ++ tail)
      → (c.accepted ≡ c.ballot → IsLeading p c.ballot (whole c) → IsLeading p c.ballot (chosen ++ tail))
      → ((b n : ℕ) → AckIs p c.accepted (whole c) b n → AckIs p c.accepted (chosen ++ tail) b n)
      → Step f p s (record c { chosen = chosen; tail = tail }) []
  learnt_log chosen tail ok le log leading acks = record {
    past = p;
    owes = owes_nothing f p s;
    history = hist;
    site = record {
      f_is = g.f_is;
      site_is = g.site_is;
      reached = g.reached;
      acc = g.acc;
      log = log;
      chosen = ok;
      role = role_with chosen tail c.role le leading g.role;
      owned = g.owned;
      acks = λ b n i. acks b n (g.acks b n i);
    };
    sends = λ m i. absurd i;
  }

  -- they stand at the front of the log
  pub learn_front : (es : List E) → Chosen p (c.chosen ++ es) → c.tail ≡ es ++ drop (length es) c.tail
      → Step f p s (record c { chosen = c.chosen ++ es; tail = drop (length es) c.tail }) []
  learn_front es ok e =
      let same : whole c ≡ (c.chosen ++ es) ++ drop (length es) c.tail = ap (λ l. c.chosen ++ l) e ∙ sym (append_assoc c.chosen es (drop (length es) c.tail)) in
      learnt_log (c.chosen ++ es) (drop (length es) c.tail) ok (omega (arith, length-append c.chosen es)) (subst (LogIs p c.accepted) same g.log)
      (λ q k. subst (IsLeading p c.ballot) same k)
      (λ b n k. subst (λ l. AckIs p c.accepted l b n) same k)

  -- they don't
  pub learn_apart : (es : List E) → Chosen p (c.chosen ++ es) → (Same (length (c.chosen ++ es)) (whole c) (c.chosen ++ es) → ⊥)
      → Step f p s (record c { chosen = c.chosen ++ es; tail = [] }) []
  learn_apart es ok apart =
      let l = c.chosen ++ es in
      let none : l ++ [] ≡ l = append-nil l in
      learnt_log l [] ok (omega (arith, length-append c.chosen es))
      (subst (LogIs p c.accepted) (sym none) (learn_log dec (sites f) p.starts p.logs p.choices p.told hist.starts hist.choices hist.started
      c.accepted (whole c) g.log l ok apart))
      (λ q k. subst (IsLeading p c.ballot) (sym none) (learn_leader dec (sites f) p.starts p.logs p.choices p.told hist.starts hist.choices
      hist.started c.ballot (whole c) (subst (λ a. LogIs p a (whole c)) q g.log) l ok apart k))
      (λ b n k. subst (λ y. AckIs p c.accepted y b n) (sym none)
      (learn_ack dec (sites f) p.starts p.logs p.choices p.told hist.starts hist.choices hist.started c.accepted (whole c) g.log l ok apart b n
      k))

  -- the later ones of a page behind what is chosen here
  pub page_chosen : (first : ℕ) (es : List E) → LearnOk p first es → first - 1 ≤ length c.chosen → length c.chosen - (first - 1) < length es
      → Chosen p (c.chosen ++ drop (length c.chosen - (first - 1)) es)
  page_chosen first es h le lt =
      let k = length c.chosen - (first - 1) in
      let size : length (c.chosen ++ drop k es) ≡ first - 1 + length es = omega (arith, length-append c.chosen (drop k es), length-drop k es) in
      let fits : length (c.chosen ++ drop k es) ≤ length h.log = (let x = h.within in omega arith) in
      record {
        choice = h.chosen.choice;
        here = h.chosen.here;
        started = h.chosen.started;
        long = (let x = h.chosen.long in omega arith);
        same = same_trans (record { at = at }) (same_less (length (c.chosen ++ drop k es)) fits h.chosen.same);
      }
    where
      front : Same (length c.chosen) c.chosen h.log
      front =
          compare_chosen dec (sites f) p.starts p.logs p.choices p.told hist.starts hist.choices hist.started c.chosen h.log g.chosen h.chosen
          (length c.chosen) (omega arith) (let x = h.within in omega arith)

      at : (j : ℕ) → j < length (c.chosen ++ drop (length c.chosen - (first - 1)) es)
          → slice_get (c.chosen ++ drop (length c.chosen - (first - 1)) es) j ≡ slice_get h.log j
      at j l = ⊎_elim
          (λ (a : j < length c.chosen). get_front c.chosen _ j a ∙ front.at j a)
          (λ (a : length c.chosen ≤ j).
          let k = length c.chosen - (first - 1) in
          let i = j - length c.chosen in
          let inside : k + i < length es = omega (arith, length-append c.chosen (drop k es), length-drop k es) in
          let place : first - 1 + (k + i) ≡ j = omega arith in
          get_append c.chosen (drop k es) j a ∙ get_drop k es i ∙ h.same (k + i) inside ∙ ap (slice_get h.log) place)
          (cases_lt j (length c.chosen))

  -- NEWSTATE: the leader's log behind what is chosen here, of a ballot above that of the tail
  pub restate : (base : ℕ) (tail : List E) → StateOk p c.ballot base tail → c.role ≡ Follower → base ≤ length c.chosen → c.accepted < c.ballot
      → SiteOk f p s (record c { tail = drop (length c.chosen - base) tail; accepted = c.ballot })
  unfolding merged
  restate base tail h follows le lt =
      let log' = merged c.chosen h.log in
      let is : log' ≡ c.chosen ++ drop (length c.chosen - base) tail = same_tail in
      record {
        f_is = g.f_is;
        site_is = g.site_is;
        reached = g.reached;
        acc = omega arith;
        log =
            subst (LogIs p c.ballot) is (merged_log dec (sites f) p.starts p.logs p.choices p.told hist.starts hist.choices hist.started c.ballot
            c.chosen h.log
            (λ n k. chosen_log dec (sites f) p.starts p.logs p.choices p.told hist.starts hist.choices hist.started c.chosen g.chosen c.ballot
            (started_at c.ballot h.log h.facts) n k) h.facts);
        chosen = g.chosen;
        role = subst (RoleOk f p s (record c { tail = drop (length c.chosen - base) tail; accepted = c.ballot })) (sym follows) tt;
        owned = λ x i e. let y = g.owned x i e in omega arith;
        acks = λ b n i. let k = g.acks b n i in let y = k.0 in (omega arith, k.1, λ q. absurd (omega arith));
      }
    where
      same_tail : merged c.chosen h.log ≡ c.chosen ++ drop (length c.chosen - base) tail
      same_tail =
          let e : base + (length c.chosen - base) ≡ length c.chosen = omega arith in
          ap (λ l. c.chosen ++ l) (ap (λ k. drop k h.log) (sym e) ∙ sym (drop-drop (length c.chosen - base) base h.log) ∙ ap
          (drop (length c.chosen - base)) h.is)

  -- ACKNOWLEDGE: the length of the whole log is told
  unfoldable pub told_past : ℕ → Past E
  told_past n = record p { told = Ack c.ballot s n ∷ p.told }

  pub told_owes : (n : ℕ) → Owes f p (told_past n) s
  unfolding told_past
  told_owes n = record {
    grows = record { starts = λ h i. i; longer = λ b. omega arith; same = λ b. same_refl _ (p.logs b); choices = λ c i. i };
    told = λ a i. inr i;
    up = λ z. omega arith;
    new_acks =
        λ b z k i. ⊎_elim (λ (e : Ack c.ballot s n ≡ Ack b z k). let x : s ≡ z = cc in let y : c.ballot ≡ b = cc in inr
        (sym x, let w = g.reached in omega arith)) (λ j. inl j) i;
    new_starts = λ h i. inl i;
    new_logs = λ b. inr refl;
    same_up = λ z a. refl;
  }

  pub told_history : (n : ℕ) → HistoryOk f (told_past n)
  unfolding told_past
  told_history n = record {
    starts = starts_kept f p (told_past n) s (told_owes n) hist;
    choices = choices_kept f p (told_past n) s (told_owes n) hist;
    started = hist.started;
    empty = hist.empty;
    moved = hist.moved;
  }

  told_role : (n : ℕ) (r : Role E) → RoleOk f p s c r → RoleOk f (told_past n) s c r
  unfolding told_past
  told_role n Follower h = tt
  told_role n (Candidate promises) h =
      record {
        owns = h.owns;
        new = h.new;
        promises = λ v i. promise_later f p (told_past n) s (told_owes n) c.ballot v (h.promises v i);
        apart = h.apart;
        own = h.own;
      }
  told_role n (Leader acks) h =
      record { owns = h.owns; same = h.same; leading = h.leading; acks = acks_later f p (told_past n) s (told_owes n) s c.ballot acks h.acks }

  pub acknowledge : c.accepted ≡ c.ballot → (to : ℕ) → (to ≡ s → ⊥) → (n : ℕ) → n ≡ length (whole c) → Step f p s c ((to, Accepted c.ballot n) ∷ [])
  unfolding told_past
  acknowledge same to apart n is = record {
    past = told_past n;
    owes = told_owes n;
    history = told_history n;
    site = record {
      f_is = g.f_is;
      site_is = g.site_is;
      reached = g.reached;
      acc = g.acc;
      log = g.log;
      chosen = g.chosen;
      role = told_role n c.role g.role;
      owned = g.owned;
      acks =
          λ b k i. ⊎_elim (λ (e : Ack c.ballot s n ≡ Ack b s k). let x : c.ballot ≡ b = cc in let y : n ≡ k = cc
          in (omega arith, subst (IsStarted p.starts) (same ∙ x) (started_at c.accepted (whole c) g.log), λ q. inl (omega arith))) (λ j. g.acks b k j)
          i;
    };
    sends = to_one_ok f s here (told_past n) to (Accepted c.ballot n) apart (inl refl);
  }

  -- ACCEPT: the next entry of the ballot's log
  longer_ack : (l : List E) → length (whole c) ≤ length l → (b n : ℕ) → AckIs p c.accepted (whole c) b n → AckIs p c.accepted l b n
  longer_ack l le b n k = (k.0, k.1, λ q. ⊎_elim (λ (z : n ≤ length (whole c)). inl (omega arith)) (λ z. inr (blocked_more (length l) le z)) (k.2 q))

  longer_log : (l : List E) → length (whole c) ≤ length l → ((n : ℕ) → n ≤ length l → LogOk p.starts p.logs p.choices c.accepted l n) → LogIs p c.accepted l
  longer_log l le all =
      record {
        at_each = all;
        start = g.log.start;
        here = g.log.here;
        is = g.log.is;
        long = ⊎_elim (λ (a : length (initial g.log.start) ≤ length (whole c)). inl (omega arith)) (λ x. inr (blocked_more (length l) le x)) g.log.long;
      }

  one_more : (e : E) → (c.chosen ++ (c.tail ++ e ∷ [])) ≡ whole c ++ e ∷ []
  one_more e = sym (append_assoc c.chosen c.tail (e ∷ []))

  pub join : (slot : ℕ) (e : E) → AcceptOk p c.ballot slot e → c.role ≡ Follower → c.accepted ≡ c.ballot → slot ≡ length (whole c) + 1
      → SiteOk f p s (record c { tail = c.tail ++ e ∷ [] })
  join slot e h follows same next = record {
    f_is = g.f_is;
    site_is = g.site_is;
    reached = g.reached;
    acc = g.acc;
    log = subst (LogIs p c.accepted) (sym (one_more e)) (longer_log (whole c ++ e ∷ []) le each);
    chosen = g.chosen;
    role = subst (RoleOk f p s (record c { tail = c.tail ++ e ∷ [] })) (sym follows) tt;
    owned = g.owned;
    acks = λ b n i. subst (λ l. AckIs p c.accepted l b n) (sym (one_more e)) (longer_ack (whole c ++ e ∷ []) le b n (g.acks b n i));
  }
    where
      le : length (whole c) ≤ length (whole c ++ e ∷ [])
      le = omega (arith, length-append (whole c) (e ∷ []))

      at_place : h.place ≡ length (whole c)
      at_place = let x = h.is in omega arith

      mine : LogIs p c.ballot (whole c)
      mine = subst (λ a. LogIs p a (whole c)) same g.log

      both : LogIs p c.ballot (merged (whole c) h.log)
      both =
          merged_log dec (sites f) p.starts p.logs p.choices p.told hist.starts hist.choices hist.started c.ballot (whole c) h.log
          (λ n k. mine.at_each n k) h.facts

      inside : length (whole c) < length h.log
      inside = let x = some_below h.log h.place e h.entry in let y = at_place in omega arith

      like : Same (length (whole c) + 1) (whole c ++ e ∷ []) (merged (whole c) h.log)
      like = record {
        at = λ k l. ⊎_elim
            (λ (a : k < length (whole c)). get_front (whole c) (e ∷ []) k a ∙ sym ((merged-front (whole c) h.log).at k a))
            (λ (a : length (whole c) ≤ k).
            let q : k ≡ length (whole c) = omega arith in
            let z : k - length (whole c) ≡ 0 = omega arith in
            get_append (whole c) (e ∷ []) k a ∙ ap (slice_get (e ∷ [])) z ∙ sym h.entry ∙ ap (slice_get h.log) (at_place ∙ sym q) ∙ sym
            (merged-back (whole c) h.log k a))
            (cases_lt k (length (whole c)));
      }

      each : (n : ℕ) → n ≤ length (whole c ++ e ∷ []) → LogOk p.starts p.logs p.choices c.accepted (whole c ++ e ∷ []) n
      each n k = subst (λ a. LogOk p.starts p.logs p.choices a (whole c ++ e ∷ []) n) (sym same)
          (log_ok_same p.starts p.logs p.choices c.ballot (whole c ++ e ∷ []) (merged (whole c) h.log) n
          (same_less n (omega (arith, length-append (whole c) (e ∷ []))) like)
          (both.at_each n (let x = inside in omega (arith, length-append (whole c) (e ∷ []), length-merged (whole c) h.log))))
