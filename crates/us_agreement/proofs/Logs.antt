-- What each step makes of a log.
use Rattle.std.proofs.Common.{◌≡◌, ◌⊎◌, inl, inr, ⊎_elim, ℕ, ◌<◌, ◌≤◌, List, length, length-append, length-drop, drop, sym, ◌∙◌, subst, arith, max}
use Rattle.std.proofs.lemmas.Bool.{cases_lt}
use Rattle.us_kind.specs.Comparison.{In}
use Rattle.us_agreement.proofs.Same.{IsDecided, merged, Same, same_refl, same_sym, same_trans, same_less, decide_same, merged-front, merged-back}
use Rattle.us_agreement.proofs.History.{Acknowledgement, Start, initial, Choice, IsStarted, Blocked, blocked_more, IsChosen, BestOk, own, blocked}
use Rattle.us_agreement.proofs.History.{learned, later, short, later_blocked, StartsOk, starts_in, ChoiceOk, NotBlocked, choice_above}
use Rattle.us_agreement.proofs.History.{blocked_by_choice, not_blocked, comparable}
use Rattle.us_agreement.proofs.Growth.{LogOk, is_own, is_blocked, is_learned, LogFacts, AckFacts}

-- what a promise claims: the ballot of its log, and that log
pub record Claim (E : Type 0) : Type 0 where
  pub accepted : ℕ
  pub log : List E

pub le_or_lt : (x y : ℕ) → (x ≤ y) ⊎ (y < x)
le_or_lt x y = ⊎_elim (λ a. inr a) (λ a. inl a) (cases_lt y x)

module _ {E : Type 0} where
  pub length-merged : (c l : List E) → length (merged c l) ≡ max (length c) (length l)
  unfolding merged
  length-merged c l = omega (arith, length-append c (drop (length c) l), length-drop (length c) l)

  pub log_ok_same : (hs : List (Start E)) (logs : ℕ → List E) (cs : List (Choice E)) (a : ℕ) (xs ys : List E) (n : ℕ) → Same n xs ys
      → LogOk hs logs cs a ys n → LogOk hs logs cs a xs n
  log_ok_same hs logs cs a xs ys n s (is_own w t) = is_own w (same_trans s t)
  log_ok_same hs logs cs a xs ys n s (is_blocked b) = is_blocked b
  log_ok_same hs logs cs a xs ys n s (is_learned c i l w t) = is_learned c i l w (same_trans s t)

  merged-same : (p l : List E) (n : ℕ) → Same (length p) p l → Same n (merged p l) l
  merged-same p l n s =
      record {
        at = λ k h. ⊎_elim (λ (a : k < length p). (merged-front p l).at k a ∙ s.at k a) (λ (a : length p ≤ k). merged-back p l k a)
            (cases_lt k (length p));
      }

module _ {E : Type 0} (dec : IsDecided E) (sites : List ℕ) (hs : List (Start E)) (logs : ℕ → List E) (cs : List (Choice E))
    (told : List Acknowledgement) (ok : StartsOk sites logs cs told hs) (choices : (c : Choice E) → In c cs → ChoiceOk sites logs told c)
    (started : (c : Choice E) → In c cs → IsStarted hs c.ballot) where
  pub free : NotBlocked sites logs told hs
  free = not_blocked dec sites logs cs told choices hs ok

  pub above : (c : Choice E) → In c cs → (b : ℕ) → IsStarted hs b → c.ballot ≤ b → (length c.log ≤ length (logs b)) × Same (length c.log) c.log (logs b)
  above c i b st le = choice_above dec sites logs cs told hs ok free c (choices c i) b st le

  pub compare : (c d : Choice E) → In c cs → In d cs → (n : ℕ) → n ≤ length c.log → n ≤ length d.log → Same n c.log d.log
  compare c d i j n l k = ⊎_elim
      (λ (a : length c.log ≤ length d.log). same_less n l
      (comparable dec sites logs cs told hs ok free c d (choices c i) (choices d j) (started c i) (started d j) a))
      (λ (a : length d.log < length c.log). same_sym (same_less n k
      (comparable dec sites logs cs told hs ok free d c (choices d j) (choices c i) (started d j) (started c i) (omega arith))))
      (le_or_lt (length c.log) (length d.log))

  -- a choice against the log of a ballot
  pub against : (c : Choice E) → In c cs → (b n : ℕ) → IsStarted hs b → n ≤ length c.log → n ≤ length (logs b) → Same n c.log (logs b) ⊎ Blocked hs logs b n
  against c i b n st l w = ⊎_elim
      (λ (a : b < c.ballot). ⊎_elim (λ s. inl s) (λ d. inr (blocked_by_choice sites logs cs told hs c b n ok (choices c i) (started c i) a l w d))
      (decide_same dec n c.log (logs b)))
      (λ (a : c.ballot ≤ b). inl (same_less n l (above c i b st a).1))
      (cases_lt b c.ballot)

  pub choice_log : (c : Choice E) → In c cs → (a : ℕ) → IsStarted hs a → (n : ℕ) → n ≤ length c.log → LogOk hs logs cs a c.log n
  choice_log c i a st n le = ⊎_elim
      (λ (l : a < c.ballot). is_learned c i l le (same_refl n c.log))
      (λ (l : c.ballot ≤ a). let f = above c i a st l in is_own (omega (arith, f.0)) (same_less n le f.1))
      (cases_lt a c.ballot)

  -- the same of what is a prefix of a choice
  pub compare_chosen : (l k : List E) → IsChosen hs cs l → IsChosen hs cs k → (n : ℕ) → n ≤ length l → n ≤ length k → Same n l k
  compare_chosen l k p q n a b =
      same_trans (same_less n a p.same) (same_trans (compare p.choice q.choice p.here q.here n (let x = p.long in omega arith)
      (let x = q.long in omega arith)) (same_sym (same_less n b q.same)))

  pub against_chosen : (l : List E) → IsChosen hs cs l → (b n : ℕ) → IsStarted hs b → n ≤ length l → n ≤ length (logs b)
      → Same n l (logs b) ⊎ Blocked hs logs b n
  against_chosen l p b n st a w =
      ⊎_elim (λ s. inl (same_trans (same_less n a p.same) s)) (λ x. inr x) (against p.choice p.here b n st (let x = p.long in omega arith) w)

  pub chosen_log : (l : List E) → IsChosen hs cs l → (a : ℕ) → IsStarted hs a → (n : ℕ) → n ≤ length l → LogOk hs logs cs a l n
  chosen_log l p a st n le =
      log_ok_same hs logs cs a l p.choice.log n (same_less n le p.same) (choice_log p.choice p.here a st n (let x = p.long in omega arith))

  -- LEARN, where what is chosen isn't at the log's front
  short_learn : (a : ℕ) (log : List E) → LogFacts hs logs cs a log → (l : List E) → IsChosen hs cs l → (Same (length l) log l → ⊥)
      → length l ≤ length log → Blocked hs logs a (length l)
  short_learn a log h l p apart le = on (h.at_each (length l) le)
    where
      on : LogOk hs logs cs a log (length l) → Blocked hs logs a (length l)
      on (is_own w s) =
          ⊎_elim (λ t. absurd (apart (same_trans s (same_sym t)))) (λ b. b)
          (against_chosen l p a (length l) (record { start = h.start; here = h.here; is = h.is }) (omega arith) w)
      on (is_blocked b) = b
      on (is_learned d j lt w s) = absurd (apart (same_trans s (same_trans (compare d p.choice j p.here (length l) w p.long) (same_sym p.same))))

  pub learn_log : (a : ℕ) (log : List E) → LogFacts hs logs cs a log → (l : List E) → IsChosen hs cs l → (Same (length l) log l → ⊥) → LogFacts hs logs cs a l
  learn_log a log h l p apart = record {
    at_each = λ n le. chosen_log l p a (record { start = h.start; here = h.here; is = h.is }) n le;
    start = h.start;
    here = h.here;
    is = h.is;
    long = ⊎_elim
        (λ (w : length l ≤ length log). inr (short_learn a log h l p apart w))
        (λ (w : length log < length l). ⊎_elim (λ (k : length (initial h.start) ≤ length log). inl (omega arith))
        (λ b. inr (blocked_more (length l) (omega arith) b)) h.long)
        (le_or_lt (length l) (length log));
  }

  pub learn_ack : (a : ℕ) (log : List E) → LogFacts hs logs cs a log → (l : List E) → IsChosen hs cs l → (Same (length l) log l → ⊥) → (b n : ℕ)
      → AckFacts hs logs a log b n → AckFacts hs logs a l b n
  learn_ack a log h l p apart b n k = (
    k.0,
    k.1,
    λ e. ⊎_elim
        (λ (w : length l ≤ length log). inr (let P : ℕ → Type 0 = λ x. Blocked hs logs x (length l) in subst P (sym e) (short_learn a log h l p apart w)))
        (λ (w : length log < length l). ⊎_elim (λ (v : n ≤ length log). inl (omega arith)) (λ x. inr (blocked_more (length l) (omega arith) x)) (k.2 e))
        (le_or_lt (length l) (length log)),
  )

  -- a leader's log holds all of its ballot's log, or the ballot is blocked
  pub learn_leader : (b : ℕ) (log : List E) → LogFacts hs logs cs b log → (l : List E) → IsChosen hs cs l → (Same (length l) log l → ⊥)
      → ((length (logs b) ≤ length log) × Same (length (logs b)) log (logs b)) ⊎ Blocked hs logs b (length log)
      → ((length (logs b) ≤ length l) × Same (length (logs b)) l (logs b)) ⊎ Blocked hs logs b (length l)
  learn_leader b log h l p apart k = ⊎_elim
      (λ (w : length l ≤ length log). inr (short_learn b log h l p apart w))
      (λ (w : length log < length l). ⊎_elim
      (λ (v : (length (logs b) ≤ length log) × Same (length (logs b)) log (logs b)). ⊎_elim (λ s. inl (let x = v.0 in omega arith, s))
      (λ x. inr (blocked_more (length l) (let y = v.0 in omega arith) x))
      (against_chosen l p b (length (logs b)) (record { start = h.start; here = h.here; is = h.is }) (let x = v.0 in omega arith) (omega arith)))
      (λ x. inr (blocked_more (length l) (omega arith) x))
      k)
      (le_or_lt (length l) (length log))

  -- STATE: the ballot's log behind what is there
  merged_ok : (b : ℕ) (p l : List E) (n : ℕ) → IsStarted hs b → LogOk hs logs cs b p (length p) → LogOk hs logs cs b l n → length p < n
      → LogOk hs logs cs b (merged p l) n
  merged_ok b p l n st (is_blocked x) k lt = is_blocked (blocked_more n (omega arith) x)
  merged_ok b p l n st (is_own w s) (is_blocked x) lt = is_blocked x
  merged_ok b p l n st (is_learned d i a w s) (is_blocked x) lt = is_blocked x
  merged_ok b p l n st (is_own w s) (is_own v t) lt =
      is_own v (same_trans (merged-same p l n (same_trans s (same_sym (same_less (length p) (omega arith) t)))) t)
  merged_ok b p l n st (is_own w s) (is_learned e j c v t) lt = ⊎_elim
      (λ (u : Same (length p) e.log (logs b)). is_learned e j c v
      (same_trans (merged-same p l n (same_trans s (same_trans (same_sym u) (same_sym (same_less (length p) (omega arith) t))))) t))
      (λ x. is_blocked (blocked_more n (omega arith) x))
      (against e j b (length p) st (omega arith) w)
  merged_ok b p l n st (is_learned d i a w s) (is_own v t) lt = ⊎_elim
      (λ (u : Same (length p) d.log (logs b)). is_own v (same_trans
      (merged-same p l n (same_trans s (same_trans u (same_sym (same_less (length p) (omega arith) t))))) t))
      (λ x. is_blocked (blocked_more n (omega arith) x))
      (against d i b (length p) st w (omega arith))
  merged_ok b p l n st (is_learned d i a w s) (is_learned e j c v t) lt =
      is_learned e j c v (same_trans (merged-same p l n (same_trans s
      (same_trans (compare d e i j (length p) w (omega arith)) (same_sym (same_less (length p) (omega arith) t))))) t)

  pub merged_log : (b : ℕ) (p l : List E) → ((n : ℕ) → n ≤ length p → LogOk hs logs cs b p n) → LogFacts hs logs cs b l → LogFacts hs logs cs b (merged p l)
  merged_log b p l front h = record {
    at_each = λ n le. ⊎_elim
        (λ (a : n ≤ length p). log_ok_same hs logs cs b (merged p l) p n (same_less n a (merged-front p l)) (front n a))
        (λ (a : length p < n). merged_ok b p l n (record { start = h.start; here = h.here; is = h.is }) (front (length p) (omega arith))
        (h.at_each n (omega (arith, length-merged p l))) a)
        (le_or_lt n (length p));
    start = h.start;
    here = h.here;
    is = h.is;
    long =
        ⊎_elim (λ (a : length (initial h.start) ≤ length l). inl (omega (arith, length-merged p l)))
        (λ x. inr (blocked_more (length (merged p l)) (omega (arith, length-merged p l)) x)) h.long;
  }

  -- START: the best promise's log against each acknowledgement of who promised
  pub best_ok : (best v : Claim E) → LogFacts hs logs cs best.accepted best.log
      → (v.accepted < best.accepted) ⊎ ((v.accepted ≡ best.accepted) × (length v.log ≤ length best.log)) → (b n m : ℕ)
      → AckFacts hs logs v.accepted v.log b n → m ≤ n → BestOk hs logs cs best.log b m
  best_ok best v h better b n m k le = ⊎_elim
      (λ (a : b < best.accepted). at_later a (le_or_lt m (length (initial h.start))) (le_or_lt m (length best.log)))
      (λ (a : best.accepted ≤ b). at_same a (le_or_lt m (length best.log)))
      (cases_lt b best.accepted)
    where
      ext : (length (initial h.start) ≤ length (logs h.start.ballot)) × Same (length (initial h.start)) (initial h.start) (logs h.start.ballot)
      ext = starts_in sites logs cs told hs h.start ok h.here

      blocks : Blocked hs logs best.accepted m → b < best.accepted → m ≤ length (initial h.start) → BestOk hs logs cs best.log b m
      blocks x a w =
          later_blocked h.start h.here (let e = h.is in omega arith) w ext.0 ext.1
          (let P : ℕ → Type 0 = λ y. Blocked hs logs y m in subst P (sym h.is) x)

      by_log : LogOk hs logs cs best.accepted best.log m → b < best.accepted → m ≤ length (initial h.start) → BestOk hs logs cs best.log b m
      by_log (is_own w s) a l =
          later h.start h.here (let e = h.is in omega arith) l
          (same_trans s (let P : ℕ → Type 0 = λ y. Same m (logs y) (initial h.start) in subst P h.is (same_sym (same_less m l ext.1))))
      by_log (is_blocked x) a l = blocks x a l
      by_log (is_learned c i lt w s) a l = learned c i (started c i) (omega arith) w s

      at_later : b < best.accepted → (m ≤ length (initial h.start)) ⊎ (length (initial h.start) < m) → (m ≤ length best.log) ⊎ (length best.log < m)
          → BestOk hs logs cs best.log b m
      at_later a (inl l) (inl w) = by_log (h.at_each m w) a l
      at_later a (inl l) (inr w) =
          ⊎_elim (λ (x : length (initial h.start) ≤ length best.log). absurd (omega arith)) (λ x. blocks (blocked_more m (omega arith) x) a l) h.long
      at_later a (inr l) w = short h.start h.here (let e = h.is in omega arith) l

      own_log : b ≡ best.accepted → LogOk hs logs cs best.accepted best.log m → BestOk hs logs cs best.log b m
      own_log e (is_own w s) = let P : ℕ → Type 0 = λ y. (m ≤ length (logs y)) × Same m best.log (logs y) in let f = subst P (sym e) (w, s) in own f.0 f.1
      own_log e (is_blocked x) = blocked (let P : ℕ → Type 0 = λ y. Blocked hs logs y m in subst P (sym e) x)
      own_log e (is_learned c i lt w s) = learned c i (started c i) (omega arith) w s

      at_same : best.accepted ≤ b → (m ≤ length best.log) ⊎ (length best.log < m) → BestOk hs logs cs best.log b m
      at_same a (inl w) =
          own_log (let x = k.0 in ⊎_elim (λ (y : v.accepted < best.accepted). absurd (omega arith))
          (λ (y : (v.accepted ≡ best.accepted) × (length v.log ≤ length best.log)). let z = y.0 in omega arith) better) (h.at_each m w)
      at_same a (inr w) = ⊎_elim
          (λ (y : v.accepted < best.accepted). absurd (let x = k.0 in omega arith))
          (λ (y : (v.accepted ≡ best.accepted) × (length v.log ≤ length best.log)).
          let x = k.0 in let z = y.0 in let u = y.1 in
          ⊎_elim (λ (l : n ≤ length v.log). absurd (omega arith)) (λ x. blocked (blocked_more m (omega arith) x)) (k.2 (omega arith)))
          better
