-- What a leader's entries, choices and start keep.
use Rattle.std.proofs.Common.{◌≡◌, ◌⊎◌, inl, inr, ⊎_elim, ℕ, ◌+◌, ◌-◌, ◌*◌, ◌<◌, ◌≤◌, List, [], ◌∷◌, ◌++◌, length, length-append, length-take, take}
use Rattle.std.proofs.Common.{drop, true, Option, Some, None, refl, sym, ap, ◌∙◌, subst, arith, append_assoc, true≢false}
use Rattle.std.specs.Prelude.{◌==◌, nat_lt, slice_get}
use Rattle.std.proofs.lemmas.List.{take-append-drop}
use Rattle.std.proofs.lemmas.Bool.{cases_eq, eqb-true, ltb-true, leb-true, and_parts, or_cases}
use Rattle.us_kind.specs.Comparison.{In}
use Rattle.us_ballot_model.specs.declared.log.Role.TheVariants.{Leader}
use Rattle.us_ballot_model.specs.declared.log.BallotLog.{BallotLog}
use Rattle.us_ballot_model.specs.declared.message.BallotMessage.TheVariants.{Accept, Learn}
use Rattle.us_ballot_model.specs.Ballots.{sites, owner, to_others, count, held, at_least, ack_of, flat, backers}
use Rattle.us_ballot_model.specs.Worlds.{put}
use Rattle.us_agreement.specs.SiteCounts.{count as count_of}
use Rattle.us_agreement.proofs.Same.{IsDecided, Same, same_refl, same_sym, same_trans, same_less, same_front, get_back}
use Rattle.us_agreement.proofs.History.{Acknowledgement, Ack, Start, initial, Choice, IsStarted, Blocked, blocked_more, ChoiceOk, not_blocked}
use Rattle.us_agreement.proofs.Growth.{LogOk, is_own, is_blocked, is_learned, Grows, chosen_later, log_later, ack_later}
use Rattle.us_agreement.proofs.Logs.{le_or_lt, log_ok_same, against}
use Rattle.us_agreement.proofs.Counting.{has, acked, backers_count, majority_of}
use Rattle.us_agreement.proofs.Facts.{Past, whole, LogIs, Chosen, AckIs, IsLeading, LeadOk, RoleOk, SiteOk, HistoryOk, Owes, starts_kept}
use Rattle.us_agreement.proofs.Facts.{choices_kept, acks_later, put_same, put_other, at_each}
use Rattle.us_agreement.proofs.Steps.{Step, to_others_ok}
use Rattle.us_agreement.proofs.Moves.{get_append, told_past, told_history}

-- the log of one ballot grows
pub put_grows : {E : Type 0} (hs : List (Start E)) (logs : ℕ → List E) (cs : List (Choice E)) (b : ℕ) (l : List E) → length (logs b) ≤ length l
    → Same (length (logs b)) (logs b) l → Grows hs hs logs (put logs b l) cs cs
put_grows hs logs cs b l le same = record {
  starts = λ h i. i;
  longer = at_each (λ x y. length (logs x) ≤ length y) logs b l (λ x n. omega arith) le;
  same = at_each (λ x y. Same (length (logs x)) (logs x) y) logs b l (λ x n. same_refl _ (logs x)) same;
  choices = λ c i. i;
}

module _ {E : Type 0} (dec : IsDecided E) (f : ℕ) (p : Past E) (hist : HistoryOk f p) (s : ℕ) (here : In s (sites f)) (c : BallotLog E)
    (g : SiteOk f p s c) (acks : List (Option ℕ)) (leads : c.role ≡ Leader acks) (h : LeadOk f p s c acks) where
  mine : LogIs p c.ballot (whole c)
  mine = subst (λ a. LogIs p a (whole c)) h.same g.log

  begun : IsStarted p.starts c.ballot
  begun = record { start = mine.start; here = mine.here; is = mine.is }

  -- of the ballot's log a leader's is the longest
  own_logs : (l : List E) (x : ℕ) → (owner f x ≡ s) ⊎ (put p.logs c.ballot l x ≡ p.logs x)
  own_logs l x = ⊎_elim (λ (q : x ≡ c.ballot). inl (ap (owner f) q ∙ h.owns)) (λ q. inr (put_other p.logs c.ballot l x q)) (cases_eq x c.ballot)

  own_empty : (l : List E) (x : ℕ) → (IsStarted p.starts x → ⊥) → length (put p.logs c.ballot l x) ≡ 0
  own_empty l x away =
      let n : x ≡ c.ballot → ⊥ = λ q. away (subst (IsStarted p.starts) (sym q) begun) in
      ap length (put_other p.logs c.ballot l x n) ∙ hist.empty x away

  -- APPEND
  logs_past : (ℕ → List E) → Past E
  logs_past logs' = record p { logs = logs' }

  logs_owes : (logs' : ℕ → List E) → Grows p.starts p.starts p.logs logs' p.choices p.choices → ((x : ℕ) → (owner f x ≡ s) ⊎ (logs' x ≡ p.logs x))
      → Owes f p (logs_past logs') s
  unfolding logs_past
  logs_owes logs' grows own = record {
    grows = grows;
    told = λ a i. i;
    up = λ z. omega arith;
    new_acks = λ b z k i. inl i;
    new_starts = λ h i. inl i;
    new_logs = own;
    same_up = λ z a. refl;
  }

  one_more : (e : E) → (c.chosen ++ (c.tail ++ e ∷ [])) ≡ whole c ++ e ∷ []
  one_more e = sym (append_assoc c.chosen c.tail (e ∷ []))

  longer : (e : E) → length (whole c) ≤ length (whole c ++ e ∷ [])
  longer e = omega (arith, length-append (whole c) (e ∷ []))

  append_at : (e : E) (logs' : ℕ → List E) → Owes f p (logs_past logs') s → LogIs (logs_past logs') c.ballot (whole c ++ e ∷ [])
      → IsLeading (logs_past logs') c.ballot (whole c ++ e ∷ []) → ((x : ℕ) → (IsStarted p.starts x → ⊥) → length (logs' x) ≡ 0)
      → Step f p s (record c { tail = c.tail ++ e ∷ [] }) (to_others c (Accept c.ballot (held c + 1) e))
  unfolding logs_past
  append_at e logs' owes lf leading empty =
      let p' = logs_past logs' in
      let c' : BallotLog E = record c { tail = c.tail ++ e ∷ [] } in
      record {
        past = p';
        owes = owes;
        history =
            record {
              starts = starts_kept f p p' s owes hist;
              choices = choices_kept f p p' s owes hist;
              started = hist.started;
              empty = empty;
              moved = hist.moved;
            };
        site = record {
          f_is = g.f_is;
          site_is = g.site_is;
          reached = g.reached;
          acc = g.acc;
          log = subst (LogIs p' c.accepted) (sym (one_more e)) (subst (λ a. LogIs p' a (whole c ++ e ∷ [])) (sym h.same) lf);
          chosen = chosen_later c.chosen owes.grows g.chosen;
          role =
              subst (RoleOk f p' s c') (sym leads) (record {
                owns = h.owns;
                same = h.same;
                leading = subst (IsLeading p' c.ballot) (sym (one_more e)) leading;
                acks = acks_later f p p' s owes s c.ballot acks h.acks;
              });
          owned = g.owned;
          acks = λ b n i.
              let x = ack_later c.accepted (whole c) b n owes.grows (g.acks b n i) in
              let y = longer e in
              subst (λ l. AckIs p' c.accepted l b n) (sym (one_more e)) (
                x.0,
                x.1,
                λ q. ⊎_elim (λ (z : n ≤ length (whole c)). inl (omega arith)) (λ z. inr (blocked_more (length (whole c ++ e ∷ [])) y z))
                    (x.2 q),
              );
        };
        sends = to_others_ok f s here p' c g.f_is g.site_is (Accept c.ballot (held c + 1) e) (record {
          log = whole c ++ e ∷ [];
          place = length (whole c);
          is = (let k = length-append c.chosen c.tail in omega arith);
          entry =
              (let z : length (whole c) - length (whole c) ≡ 0 = omega arith in get_append (whole c) (e ∷ []) (length (whole c)) (omega arith) ∙ ap
              (slice_get (e ∷ [])) z);
          facts = lf;
        });
      }

  longer_facts : (logs' : ℕ → List E) (l : List E) → Grows p.starts p.starts p.logs logs' p.choices p.choices → length (whole c) ≤ length l
      → ((n : ℕ) → n ≤ length l → LogOk p.starts logs' p.choices c.ballot l n) → LogIs (logs_past logs') c.ballot l
  unfolding logs_past
  longer_facts logs' l grows le all =
      let m = log_later c.ballot (whole c) grows mine in
      record {
        at_each = all;
        start = m.start;
        here = m.here;
        is = m.is;
        long = ⊎_elim (λ (a : length (initial m.start) ≤ length (whole c)). inl (omega arith)) (λ x. inr (blocked_more (length l) le x)) m.long;
      }

  pub append_step : (e : E) → Step f p s (record c { tail = c.tail ++ e ∷ [] }) (to_others c (Accept c.ballot (held c + 1) e))
  unfolding logs_past
  append_step e = on h.leading
    where
      on : IsLeading p c.ballot (whole c) → Step f p s (record c { tail = c.tail ++ e ∷ [] }) (to_others c (Accept c.ballot (held c + 1) e))
      on (inl a) =
          let l = whole c ++ e ∷ [] in
          let at = put_same p.logs c.ballot l in
          let grows =
          put_grows p.starts p.logs p.choices c.ballot l (let x = a.0 in let y = longer e in omega arith)
          (same_trans (same_sym a.1) (same_sym (same_less _ a.0 (same_front (whole c) (e ∷ []))))) in
          append_at e (put p.logs c.ballot l) (logs_owes (put p.logs c.ballot l) grows (own_logs l))
          (longer_facts (put p.logs c.ballot l) l grows (longer e)
          (λ n le. let P : List E → Type 0 = λ y. (n ≤ length y) × Same n l y in let r = subst P (sym at) (le, same_refl n l) in is_own r.0 r.1))
          (let P : List E → Type 0 = λ y. (length y ≤ length l) × Same (length y) l y in inl (subst P (sym at) (omega arith, same_refl _ l)))
          (own_empty l)
      on (inr bl) =
          let l = whole c ++ e ∷ [] in
          let grows : Grows p.starts p.starts p.logs p.logs p.choices p.choices =
          record { starts = λ h i. i; longer = λ b. omega arith; same = λ b. same_refl _ (p.logs b); choices = λ c i. i } in
          append_at e p.logs (logs_owes p.logs grows (λ x. inr refl))
          (longer_facts p.logs l grows (longer e) (λ n le. ⊎_elim
          (λ (a : n ≤ length (whole c)). log_ok_same p.starts p.logs p.choices c.ballot l (whole c) n (same_less n a (same_front (whole c) (e ∷ [])))
          (mine.at_each n a))
          (λ (a : length (whole c) < n). is_blocked (blocked_more n (omega arith) bl))
          (le_or_lt n (length (whole c)))))
          (inr (blocked_more _ (longer e) bl))
          hist.empty

  -- ADVANCE: what f + 1 sites hold is chosen
  module _ (k : ℕ) (some : 0 < k) (fits : k ≤ length c.tail) (enough : f ≤ backers acks (length c.chosen + k)) where
    n : ℕ
    n = length c.chosen + k

    l : List E
    l = c.chosen ++ take k c.tail

    size : length l ≡ n
    unfolding l n
    size = let x = length-append c.chosen (take k c.tail) in let y = length-take k c.tail in omega arith

    within : n ≤ length (whole c)
    unfolding n
    within = omega (arith, length-append c.chosen c.tail)

    parted : l ++ drop k c.tail ≡ whole c
    unfolding l
    parted = append_assoc c.chosen (take k c.tail) (drop k c.tail) ∙ ap (λ y. c.chosen ++ y) (take-append-drop k c.tail)

    front : Same n l (whole c)
    front = let P : List E → Type 0 = λ y. Same n l y in subst P parted (same_less n (let x = size in omega arith) (same_sym (same_front l (drop k c.tail))))

    reached : (j : ℕ) → at_least n (flat (slice_get acks j)) ≡ true → In (j + 1) (sites f) × (j + 1 ≡ s → ⊥)
    unfolding n
    reached j e = on (slice_get acks j) refl e
      where
        on : (o : Option (Option ℕ)) → slice_get acks j ≡ o → at_least (length c.chosen + k) (flat o) ≡ true → In (j + 1) (sites f) × (j + 1 ≡ s → ⊥)
        on None q e = absurd (true≢false (sym e))
        on (Some None) q e = absurd (true≢false (sym e))
        on (Some (Some m)) q e = let x = leb-true _ _ e in let r = h.acks j m q (omega arith) in (r.1, r.2)

    majority : length (sites f) < 2 * count_of (has s n acks) (sites f)
    unfolding n
    majority = majority_of f _ (backers_count f s (length c.chosen + k) acks here reached enough)

    -- who passes has told it, the leader by its own log
    told' : List Acknowledgement
    told' = Ack c.ballot s (length (whole c)) ∷ p.told

    backed : (z : ℕ) → has s n acks z ≡ true → (m : ℕ) × (n ≤ m) × In (Ack c.ballot z m) told'
    unfolding n told'
    backed z e = ⊎_elim
        (λ (a : (z == s) ≡ true). let q = eqb-true z s a in (
          length (whole c),
          within,
          inl
              (let P : ℕ → Type 0 = λ y. Ack c.ballot s (length (whole c)) ≡ Ack c.ballot y (length (whole c)) in subst P (sym q) refl),
        ))
        (λ (a : acked (length c.chosen + k) acks z ≡ true).
        let b = and_parts (nat_lt 0 z) (at_least (length c.chosen + k) (ack_of acks z)) a in on (slice_get acks (z - 1)) refl (ltb-true 0 z b.0) b.1)
        (or_cases (z == s) (acked (length c.chosen + k) acks z) e)
      where
        on : (o : Option (Option ℕ)) → slice_get acks (z - 1) ≡ o → 0 < z → at_least (length c.chosen + k) (flat o) ≡ true
            → (m : ℕ) × (length c.chosen + k ≤ m) × In (Ack c.ballot z m) (Ack c.ballot s (length (whole c)) ∷ p.told)
        on None q w e = absurd (true≢false (sym e))
        on (Some None) q w e = absurd (true≢false (sym e))
        on (Some (Some m)) q w e =
            let x = leb-true _ _ e in
            let r = h.acks (z - 1) m q (omega arith) in
            let y : z - 1 + 1 ≡ z = omega arith in (m, x, inr (let P : ℕ → Type 0 = λ v. In (Ack c.ballot v m) p.told in subst P y r.0))

    never : Blocked p.starts p.logs c.ballot n → ⊥
    unfolding told' told_past
    never bl =
        let t = told_history dec f p hist s here c g (length (whole c)) in
        not_blocked dec (sites f) p.logs p.choices told' t.choices p.starts t.starts c.ballot n (has s n acks)
        (record { majority = majority; acks = λ z e _. backed z e }) bl

    -- where its ballot is blocked behind, the leader holds the ballot's log so far
    at_n : Blocked p.starts p.logs c.ballot (length (whole c)) → LogOk p.starts p.logs p.choices c.ballot (whole c) n
        → (n ≤ length (p.logs c.ballot)) × Same n (whole c) (p.logs c.ballot)
    at_n bl (is_own le same) = (le, same)
    at_n bl (is_blocked x) = absurd (never x)
    at_n bl (is_learned d i lt le same) = ⊎_elim
        (λ (a : n ≤ length (p.logs c.ballot)). (
          a,
          ⊎_elim (λ t. same_trans same t) (λ x. absurd (never x))
              (against dec (sites f) p.starts p.logs p.choices p.told hist.starts hist.choices hist.started d i c.ballot n begun le a),
        ))
        (λ (a : length (p.logs c.ballot) < n). absurd (never
        (let x = bl.within in record {
          place = bl.place;
          by = bl.by;
          le = omega arith;
          within = bl.within;
          here = bl.here;
          above = bl.above;
          differ = bl.differ;
        })))
        (le_or_lt n (length (p.logs c.ballot)))

    choice : Choice E
    choice = record { ballot = c.ballot; log = l; quorum = has s n acks }

    chosen_past : (ℕ → List E) → Past E
    chosen_past logs' = record p { logs = logs'; choices = choice ∷ p.choices; told = told' }

    chosen_owes : (logs' : ℕ → List E) → Grows p.starts p.starts p.logs logs' p.choices p.choices → ((x : ℕ) → (owner f x ≡ s) ⊎ (logs' x ≡ p.logs x))
        → Owes f p (chosen_past logs') s
    unfolding chosen_past told'
    chosen_owes logs' grows own = record {
      grows = record { starts = grows.starts; longer = grows.longer; same = grows.same; choices = λ d i. inr i };
      told = λ a i. inr i;
      up = λ z. omega arith;
      new_acks =
          λ b z m i. ⊎_elim (λ (e : Ack c.ballot s (length (whole c)) ≡ Ack b z m). let x : s ≡ z = cc in let y : c.ballot ≡ b = cc in inr
          (sym x, let w = g.reached in omega arith)) (λ j. inl j) i;
      new_starts = λ h i. inl i;
      new_logs = own;
      same_up = λ z a. refl;
    }

    choice_ok : (logs' : ℕ → List E) → n ≤ length (logs' c.ballot) → Same n (whole c) (logs' c.ballot) → ChoiceOk (sites f) logs' told' choice
    unfolding choice
    choice_ok logs' le same = record {
      within = (let x = size in omega arith);
      same = same_less (length l) (let x = size in omega arith) (same_trans front same);
      majority = majority;
      acks = λ z e _. let r = backed z e in (r.0, let x = r.1 in let y = size in omega arith, r.2);
    }

    advance_at : (logs' : ℕ → List E) → Grows p.starts p.starts p.logs logs' p.choices p.choices → ((x : ℕ) → (owner f x ≡ s) ⊎ (logs' x ≡ p.logs x))
        → n ≤ length (logs' c.ballot) → Same n (whole c) (logs' c.ballot) → IsLeading (chosen_past logs') c.ballot (whole c)
        → ((x : ℕ) → (IsStarted p.starts x → ⊥) → length (logs' x) ≡ 0)
        → Step f p s (record c { chosen = c.chosen ++ take k c.tail; tail = drop k c.tail }) (to_others c (Learn (count c + 1) (take k c.tail)))
    unfolding chosen_past told' choice l n
    advance_at logs' grows own le same leading empty =
        let p' = chosen_past logs' in
        let o = chosen_owes logs' grows own in
        let c' : BallotLog E = record c { chosen = c.chosen ++ take k c.tail; tail = drop k c.tail } in
        let ok : Chosen p' (c.chosen ++ take k c.tail) =
        record { choice = choice; here = inl refl; started = begun; long = omega arith; same = same_refl _ _ } in
        record {
          past = p';
          owes = o;
          history = record {
            starts = starts_kept f p p' s o hist;
            choices = λ d i. ⊎_elim (λ e. subst (ChoiceOk (sites f) logs' told') e (choice_ok logs' le same)) (λ j. choices_kept f p p' s o hist d j) i;
            started =
                λ d i. ⊎_elim (λ (e : choice ≡ d). let P : Choice E → Type 0 = λ y. IsStarted p.starts y.ballot in subst P e begun)
                (λ j. hist.started d j) i;
            empty = empty;
            moved = hist.moved;
          };
          site = record {
            f_is = g.f_is;
            site_is = g.site_is;
            reached = g.reached;
            acc = g.acc;
            log = subst (LogIs p' c.accepted) (sym parted) (log_later c.accepted (whole c) o.grows g.log);
            chosen = ok;
            role =
                subst (RoleOk f p' s c') (sym leads) (record {
                  owns = h.owns;
                  same = h.same;
                  leading = subst (IsLeading p' c.ballot) (sym parted) leading;
                  acks = acks_later f p p' s o s c.ballot acks h.acks;
                });
            owned = g.owned;
            acks = λ b m i. subst (λ y. AckIs p' c.accepted y b m) (sym parted) (⊎_elim
                (λ (e : Ack c.ballot s (length (whole c)) ≡ Ack b s m). let x : c.ballot ≡ b = cc in let y : length (whole c) ≡ m = cc
                in let z = h.same in (omega arith, subst (IsStarted p.starts) x begun, λ q. inl (omega arith)))
                (λ j. ack_later c.accepted (whole c) b m o.grows (g.acks b m j)) i);
          };
          sends = to_others_ok f s here p' c g.f_is g.site_is (Learn (count c + 1) (take k c.tail)) (record {
            log = c.chosen ++ take k c.tail;
            chosen = ok;
            within = (let x = length-append c.chosen (take k c.tail) in omega arith);
            same =
                λ j lt. let e : length c.chosen + j ≡ length c.chosen + 1 - 1 + j = omega arith in sym (get_back c.chosen (take k c.tail) j) ∙ ap
                (slice_get (c.chosen ++ take k c.tail)) e;
          });
        }

    pub advance_step : Step f p s (record c { chosen = c.chosen ++ take k c.tail; tail = drop k c.tail }) (to_others c (Learn (count c + 1) (take k c.tail)))
    unfolding chosen_past
    advance_step = on h.leading
      where
        on : IsLeading p c.ballot (whole c)
            → Step f p s (record c { chosen = c.chosen ++ take k c.tail; tail = drop k c.tail }) (to_others c (Learn (count c + 1) (take k c.tail)))
        on (inr bl) =
            let r = at_n bl (mine.at_each n within) in
            let grows : Grows p.starts p.starts p.logs p.logs p.choices p.choices =
            record { starts = λ h i. i; longer = λ b. omega arith; same = λ b. same_refl _ (p.logs b); choices = λ c i. i } in
            advance_at p.logs grows (λ x. inr refl) r.0 r.1 (inr bl) hist.empty
        on (inl a) =
            let at = put_same p.logs c.ballot (whole c) in
            let P : List E → Type 0 = λ y. (n ≤ length y) × Same n (whole c) y in
            let Q : List E → Type 0 = λ y. (length y ≤ length (whole c)) × Same (length y) (whole c) y in
            let r = subst P (sym at) (within, same_refl n _) in
            advance_at (put p.logs c.ballot (whole c)) (put_grows p.starts p.logs p.choices c.ballot (whole c) a.0 (same_sym a.1))
            (own_logs (whole c)) r.0 r.1 (inl (subst Q (sym at) (omega arith, same_refl _ _))) (own_empty (whole c))
