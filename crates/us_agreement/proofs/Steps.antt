-- What the parts of a rule keep.
use Rattle.std.proofs.Common.{◌≡◌, inl, inr, ℕ, ◌≤◌, List, [], ◌∷◌, ◌++◌, length-append, map, true, refl, sym, ap, ◌∙◌, subst, arith, append_assoc}
use Rattle.std.specs.Prelude.{◌==◌, not}
use Rattle.std.proofs.Math.Seq.{drop-append_seam}
use Rattle.std.proofs.lemmas.Bool.{eq-eqb}
use Rattle.us_kind.specs.Comparison.{In}
use Rattle.us_kind.proofs.ListLemmas.{in_filter, in_front}
use Rattle.us_ballot_model.specs.declared.log.Role.{Role}
use Rattle.us_ballot_model.specs.declared.log.BallotLog.{BallotLog}
use Rattle.us_ballot_model.specs.declared.message.BallotMessage.{BallotMessage}
use Rattle.us_ballot_model.specs.Ballots.{sites, others, to_others, count}
use Rattle.us_ballot_model.specs.Worlds.{Sent, put, sent_by}
use Rattle.us_agreement.proofs.History.{Ack}
use Rattle.us_agreement.proofs.Facts.{Past, whole, PromiseOk, MessageOk, SentOk, RoleOk, SiteOk, HistoryOk, Holds, Owes, put_same, put_other, at_each}
use Rattle.us_agreement.proofs.Facts.{put_put, net_step, owes_nothing}

pub in_mapped : {X Y : Type 0} (f : X → Y) (y : Y) (xs : List X) → In y (map f xs) → (x : X) × In x xs × (f x ≡ y)
in_mapped f y [] i = absurd i
in_mapped f y (x ∷ xs) (inl e) = (x, inl refl, e)
in_mapped f y (x ∷ xs) (inr i) = let r = in_mapped f y xs i in (r.0, inr r.1, r.2)

pub not_equal : (a b : ℕ) → not (a == b) ≡ true → a ≡ b → ⊥
not_equal a b e h = let k : not (a == b) ≡ not true = ap not (eq-eqb a b h) in absurd (cc)

sent_both : {E : Type 0} (s : ℕ) (xs ys : List (ℕ × BallotMessage E)) → sent_by s (xs ++ ys) ≡ sent_by s xs ++ sent_by s ys
sent_both s [] ys = refl
sent_both s (x ∷ xs) ys = λ i. record { from = s; to = x.0; message = x.1 } ∷ sent_both s xs ys i

-- what a step of site s that leaves c' and sends these messages owes at a history
pub record Step {E : Type 0} (f : ℕ) (p : Past E) (s : ℕ) (c' : BallotLog E) (ms : List (ℕ × BallotMessage E)) : Type 0 where
  pub past : Past E
  pub owes : Owes f p past s
  pub history : HistoryOk f past
  pub site : SiteOk f past s c'
  pub sends : (m : ℕ × BallotMessage E) → In m ms → SentOk f past (record { from = s; to = m.0; message = m.1 })

-- a step of site s from c that leaves c' and sends these messages keeps the facts, where the packets xs were sent before
abbrev pub Keeps : {E : Type 0} → ℕ → ℕ → List (Sent E) → BallotLog E → BallotLog E → List (ℕ × BallotMessage E) → Type 0
Keeps {E} f s xs c c' ms =
    (at : ℕ → BallotLog E) (sent : List (Sent E)) → at s ≡ c → Holds f at sent → ((x : Sent E) → In x xs → In x sent)
    → Holds f (put at s c') (sent ++ sent_by s ms)

module _ {E : Type 0} (f s : ℕ) (xs : List (Sent E)) where
  pub by_step : (c c' : BallotLog E) (ms : List (ℕ × BallotMessage E))
      → ((p : Past E) → HistoryOk f p → SiteOk f p s c → ((x : Sent E) → In x xs → SentOk f p x) → Step f p s c' ms) → Keeps f s xs c c' ms
  by_step c c' ms step at sent e h given =
      let r = step h.past h.facts.history (subst (SiteOk f h.past s) e (h.facts.site s)) (λ x i. h.facts.sent x (given x i)) in
      record {
        past = r.past;
        facts = net_step f h.past r.past s r.owes at sent (sent_by s ms) c' h.facts r.history r.site
            (λ x i. let m = in_mapped _ x ms i in subst (SentOk f r.past) m.2 (r.sends m.0 m.1));
      }

  -- one after another
  pub and_then : (c c1 c2 : BallotLog E) (ms1 ms2 : List (ℕ × BallotMessage E)) → Keeps f s xs c c1 ms1 → Keeps f s xs c1 c2 ms2
      → Keeps f s xs c c2 (ms1 ++ ms2)
  and_then c c1 c2 ms1 ms2 first second at sent e h given =
      let h1 = first at sent e h given in
      let h2 = second (put at s c1) (sent ++ sent_by s ms1) (put_same at s c1) h1 (λ x i. in_front x sent (sent_by s ms1) (given x i)) in
      let joined : (sent ++ sent_by s ms1) ++ sent_by s ms2 ≡ sent ++ sent_by s (ms1 ++ ms2) =
      append_assoc sent (sent_by s ms1) (sent_by s ms2) ∙ ap (λ l. sent ++ l) (sym (sent_both s ms1 ms2)) in
      let P : List (Sent E) → Type 0 = λ l. Holds f (put at s c2) l in
      let Q : (ℕ → BallotLog E) → Type 0 = λ g. Holds f g ((sent ++ sent_by s ms1) ++ sent_by s ms2) in
      subst P joined (subst Q (put_put at s c1 c2) h2)

  -- nothing happens
  pub nothing_keeps : (c : BallotLog E) → Keeps f s xs c c []
  nothing_keeps c = by_step c c [] (λ p hist g given. record { past = p; owes = owes_nothing f p s; history = hist; site = g; sends = λ m i. absurd i })

module _ {E : Type 0} (f s : ℕ) (here : In s (sites f)) where
  -- SENDS: to every other site
  pub to_others_ok : (p' : Past E) (d : BallotLog E) → d.f ≡ f → d.site ≡ s → (m : BallotMessage E) → MessageOk f p' s m → (x : ℕ × BallotMessage E)
      → In x (to_others d m) → SentOk f p' (record { from = s; to = x.0; message = x.1 })
  to_others_ok p' d ef es m ok x i =
      let r = in_mapped (λ j. (j, m)) x (others d) i in
      let k = in_filter (λ j. not (j == d.site)) r.0 (sites d.f) r.1 in
      let apart : s ≡ r.0 → ⊥ = λ q. not_equal r.0 d.site k.1 (sym q ∙ sym es) in
      let P : ℕ × BallotMessage E → Type 0 = λ y. SentOk f p' (record { from = s; to = y.0; message = y.1 }) in
      subst P r.2 (record { here = here; apart = apart; message = ok })

  -- to one
  pub to_one_ok : (p' : Past E) (to : ℕ) (m : BallotMessage E) → (to ≡ s → ⊥) → MessageOk f p' s m → (x : ℕ × BallotMessage E) → In x ((to, m) ∷ [])
      → SentOk f p' (record { from = s; to = x.0; message = x.1 })
  to_one_ok p' to m apart ok x (inl e) =
      let P : ℕ × BallotMessage E → Type 0 = λ y. SentOk f p' (record { from = s; to = y.0; message = y.1 }) in
      subst P e (record { here = here; apart = λ q. apart (sym q); message = ok })
  to_one_ok p' to m apart ok x (inr n) = absurd n

module _ {E : Type 0} (f : ℕ) (p : Past E) (hist : HistoryOk f p) (s : ℕ) (here : In s (sites f)) (c : BallotLog E) (g : SiteOk f p s c) where
  -- a site that sends alone
  pub sends_alone : (ms : List (ℕ × BallotMessage E))
      → ((m : ℕ × BallotMessage E) → In m ms → SentOk f p (record { from = s; to = m.0; message = m.1 })) → Step f p s c ms
  sends_alone ms ok = record { past = p; owes = owes_nothing f p s; history = hist; site = g; sends = ok }

  -- A GREATER BALLOT: the site has come up to it
  unfoldable pub raised_past : ℕ → Past E
  raised_past b = record p { up = put p.up s b }

  raised_up : (b : ℕ) → c.ballot ≤ b → (z : ℕ) → p.up z ≤ put p.up s b z
  raised_up b le = at_each (λ z n. p.up z ≤ n) p.up s b (λ z n. omega arith) (let x = g.reached in omega arith)

  raised_owes : (b : ℕ) → c.ballot ≤ b → Owes f p (raised_past b) s
  unfolding raised_past
  raised_owes b le = record {
    grows = record { starts = λ h i. i; longer = λ b. omega arith; same = λ b. record { at = λ k l. refl }; choices = λ c i. i };
    told = λ a i. i;
    up = raised_up b le;
    new_acks = λ b z n i. inl i;
    new_starts = λ h i. inl i;
    new_logs = λ b. inr refl;
    same_up = λ z n. put_other p.up s b z n;
  }

  raised_history : (b : ℕ) → c.ballot ≤ b → HistoryOk f (raised_past b)
  unfolding raised_past
  raised_history b le = record {
    starts = hist.starts;
    choices = hist.choices;
    started = hist.started;
    empty = hist.empty;
    moved = λ h i z q. let x = hist.moved h i z q in let y = raised_up b le z in omega arith;
  }

  -- the own promise
  pub own_promise_ok : (b z : ℕ) → c.ballot ≤ b → z ≡ s → PromiseOk f (raised_past b) b (record { site = z; accepted = c.accepted; base = count c; tail = c.tail })
  unfolding raised_past
  own_promise_ok b z le e = record {
    log = whole c;
    fits = length-append c.chosen c.tail;
    is = drop-append_seam c.chosen c.tail;
    acc = (let x = g.acc in omega arith);
    facts = g.log;
    acks = λ b0 n i lt. g.acks b0 n (subst (λ y. In (Ack b0 y n) p.told) e i);
    moved = (let k : put p.up s b z ≡ b = ap (put p.up s b) e ∙ put_same p.up s b in omega arith);
    here = subst (λ y. In y (sites f)) (sym e) here;
  }

  pub repromise : (b : ℕ) (r : Role E) (ms : List (ℕ × BallotMessage E)) → c.ballot ≤ b → RoleOk f (raised_past b) s (record c { ballot = b; role = r }) r
      → ((m : ℕ × BallotMessage E) → In m ms → SentOk f (raised_past b) (record { from = s; to = m.0; message = m.1 }))
      → Step f p s (record c { ballot = b; role = r }) ms
  unfolding raised_past
  repromise b r ms le role sends = record {
    past = raised_past b;
    owes = raised_owes b le;
    history = raised_history b le;
    site = record {
      f_is = g.f_is;
      site_is = g.site_is;
      reached = (let k = put_same p.up s b in omega arith);
      acc = (let x = g.acc in omega arith);
      log = g.log;
      chosen = g.chosen;
      role = role;
      owned = g.owned;
      acks = g.acks;
    };
    sends = sends;
  }

  -- the role changes alone
  pub with_role : (r : Role E) → RoleOk f p s (record c { role = r }) r → Step f p s (record c { role = r }) []
  with_role r role = record {
    past = p;
    owes = owes_nothing f p s;
    history = hist;
    site =
        record {
          f_is = g.f_is;
          site_is = g.site_is;
          reached = g.reached;
          acc = g.acc;
          log = g.log;
          chosen = g.chosen;
          role = role;
          owned = g.owned;
          acks = g.acks;
        };
    sends = λ m i. absurd i;
  }
