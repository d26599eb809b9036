-- Of chosen lists one is a prefix of the other, and what is chosen is held by f + 1 sites.
use Rattle.std.proofs.Common.{◌≡◌, ◌⊎◌, inl, inr, ⊎_elim, ℕ, ◌+◌, ◌*◌, ◌<◌, ◌≤◌, List, length, drop, Bool, true, Some, sym, ◌∙◌, arith}
use Rattle.std.specs.Prelude.{slice_get}
use Rattle.std.proofs.lemmas.Bool.{cases_eq}
use Rattle.us_kind.specs.Comparison.{In}
use Rattle.us_ballot_model.specs.declared.log.BallotLog.{BallotLog}
use Rattle.us_ballot_model.specs.Ballots.{sites}
use Rattle.us_ballot_model.specs.Worlds.{World}
use Rattle.us_agreement.specs.SiteCounts.{count}
use Rattle.us_agreement.specs.Laws.{IsPrefix, IsHeldByMany, chosen_at}
use Rattle.us_agreement.proofs.Same.{IsDecided, some_below, Same, same_sym, same_trans, same_less, same_length, decide_same}
use Rattle.us_agreement.proofs.History.{Ack, Start, initial, Choice, IsStarted, Blocked, blocked_more, ChoiceOk, not_blocked, choice_above}
use Rattle.us_agreement.proofs.Growth.{LogOk, is_own, is_blocked, is_learned}
use Rattle.us_agreement.proofs.Logs.{le_or_lt, compare, compare_chosen}
use Rattle.us_agreement.proofs.Counting.{length_sites}
use Rattle.us_agreement.proofs.Facts.{Past, whole, Chosen, SiteOk, HistoryOk}
use Rattle.us_agreement.proofs.Preservation.{reads_front}
use Rattle.us_agreement.proofs.Runs.{WorldOk}

front_of : {E : Type 0} (xs ys : List E) → length xs ≤ length ys → Same (length xs) xs ys → IsPrefix xs ys
front_of xs ys le same = record { rest = drop (length xs) ys; is = reads_front xs ys (λ k l. sym (same.at k l)) }

module _ {E : Type 0} (dec : IsDecided E) (f : ℕ) (p : Past E) (hist : HistoryOk f p) where
  fronts : (xs ys : List E) → Chosen p xs → Chosen p ys → IsPrefix xs ys ⊎ IsPrefix ys xs
  fronts xs ys a b = ⊎_elim
      (λ (l : length xs ≤ length ys). inl (front_of xs ys l
      (compare_chosen dec (sites f) p.starts p.logs p.choices p.told hist.starts hist.choices hist.started xs ys a b (length xs) (omega arith)
      l)))
      (λ (l : length ys < length xs). inr (front_of ys xs (omega arith)
      (compare_chosen dec (sites f) p.starts p.logs p.choices p.told hist.starts hist.choices hist.started ys xs b a (length ys) (omega arith)
      (omega arith))))
      (le_or_lt (length xs) (length ys))

  module _ (d : Choice E) (here : In d p.choices) where
    ok : ChoiceOk (sites f) p.logs p.told d
    ok = hist.choices d here

    never : Blocked p.starts p.logs d.ballot (length d.log) → ⊥
    never bl =
        not_blocked dec (sites f) p.logs p.choices p.told hist.choices p.starts hist.starts d.ballot (length d.log) d.quorum
        (record { majority = ok.majority; acks = ok.acks }) bl

    -- each later ballot begins with it
    begins_with : (h : Start E) → In h p.starts → d.ballot < h.ballot → (length d.log ≤ length (initial h)) × Same (length d.log) (initial h) d.log
    begins_with h i above = ⊎_elim
        (λ (t : Same (length d.log) (initial h) (p.logs d.ballot)).
        (same_length (length d.log) (initial h) (p.logs d.ballot) ok.within t, same_trans t (same_sym ok.same)))
        (λ (t : Same (length d.log) (initial h) (p.logs d.ballot) → ⊥). absurd
        (never (record { place = length d.log; by = h; le = omega arith; within = ok.within; here = i; above = above; differ = t })))
        (decide_same dec (length d.log) (initial h) (p.logs d.ballot))

    above' : (a : ℕ) → IsStarted p.starts a → d.ballot ≤ a → (length d.log ≤ length (p.logs a)) × Same (length d.log) d.log (p.logs a)
    above' a st le =
        choice_above dec (sites f) p.logs p.choices p.told p.starts hist.starts
        (not_blocked dec (sites f) p.logs p.choices p.told hist.choices p.starts hist.starts) d ok a st le

    -- so none of those is blocked as far
    free : (a m : ℕ) → IsStarted p.starts a → d.ballot ≤ a → m ≤ length d.log → Blocked p.starts p.logs a m → ⊥
    free a m st le short bl =
        let up = bl.above in
        let w = bl.le in
        let b = begins_with bl.by bl.here (omega arith) in
        bl.differ (same_trans (same_less bl.place (omega arith) b.1) (same_less bl.place (omega arith) (above' a st le).1))

    module _ (x : ℕ) (c : BallotLog E) (g : SiteOk f p x c) (q : d.quorum x ≡ true) (some : 0 < length d.log) where
      st : IsStarted p.starts c.accepted
      st = record { start = g.log.start; here = g.log.here; is = g.log.is }

      told : (n : ℕ) × (length d.log ≤ n) × In (Ack d.ballot x n) p.told
      told = ok.acks x q some

      up : d.ballot ≤ c.accepted
      up = (g.acks d.ballot told.0 told.2).0

      long : length d.log ≤ length (whole c)
      long = ⊎_elim (λ l. l) (λ (l : length (whole c) < length d.log). absurd (too_short l)) (le_or_lt (length d.log) (length (whole c)))
        where
          too_short : length (whole c) < length d.log → ⊥
          too_short l = ⊎_elim
              (λ (e : d.ballot ≡ c.accepted). ⊎_elim
              (λ (w : told.0 ≤ length (whole c)). let y = told.1 in omega arith)
              (λ bl. never (blocked_more (length d.log) (omega arith) bl))
              ((g.acks d.ballot told.0 told.2).2 e))
              (λ (n : d.ballot ≡ c.accepted → ⊥). ⊎_elim
              (λ (w : length (initial g.log.start) ≤ length (whole c)). let e = g.log.is in let u = up
              in let b = (begins_with g.log.start g.log.here (omega arith)).0 in omega arith)
              (λ bl. free c.accepted (length (whole c)) st up (omega arith) bl)
              g.log.long)
              (cases_eq d.ballot c.accepted)

      same : Same (length d.log) (whole c) d.log
      same = on (g.log.at_each (length d.log) long)
        where
          on : LogOk p.starts p.logs p.choices c.accepted (whole c) (length d.log) → Same (length d.log) (whole c) d.log
          on (is_own w t) = same_trans t (same_sym (above' c.accepted st up).1)
          on (is_blocked bl) = absurd (free c.accepted (length d.log) st up (omega arith) bl)
          on (is_learned e j lt w t) =
              same_trans t (compare dec (sites f) p.starts p.logs p.choices p.told hist.starts hist.choices hist.started e d j here (length d.log) w
              (omega arith))

  pub held_slot : (at : ℕ → BallotLog E) → ((s : ℕ) → SiteOk f p s (at s)) → (s slot : ℕ) (e : E) → slice_get (at s).chosen slot ≡ Some e
      → (group : ℕ → Bool) × (f < count group (sites f)) × ((x : ℕ) → group x ≡ true → slice_get (whole (at x)) slot ≡ Some e)
  held_slot at sites_ok s slot e got =
      let l = (sites_ok s).chosen in
      let d = l.choice in
      let inside = some_below (at s).chosen slot e got in
      let many = (hist.choices d l.here).majority in
      let size = length_sites 1 (2 * f + 1) in (
        d.quorum,
        omega arith,
        λ x q. let w = l.long in (same d l.here x (at x) (sites_ok x) q (omega arith)).at slot (omega arith) ∙ sym
            (l.same.at slot inside) ∙ got,
      )

pub lists_agree : {E : Type 0} (dec : IsDecided E) (f : ℕ) (w : World E) → WorldOk f w → (s t : ℕ)
    → IsPrefix (chosen_at w s) (chosen_at w t) ⊎ IsPrefix (chosen_at w t) (chosen_at w s)
lists_agree dec f w h s t = fronts dec f h.past h.facts.history (chosen_at w s) (chosen_at w t) (h.facts.site s).chosen (h.facts.site t).chosen

pub held_by_many : {E : Type 0} (dec : IsDecided E) (f : ℕ) (w : World E) → WorldOk f w → (s slot : ℕ) (e : E)
    → slice_get (chosen_at w s) slot ≡ Some e → IsHeldByMany f w slot e
held_by_many dec f w h s slot e got =
    let r = held_slot dec f h.past h.facts.history w.at h.facts.site s slot e got in
    record { group = r.0; many = r.1; holds = r.2 }
