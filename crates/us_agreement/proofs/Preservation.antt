-- Each rule keeps the facts.
use Rattle.std.proofs.Common.{◌≡◌, ◌⊎◌, inl, inr, ⊎_elim, ℕ, zero, suc, ◌+◌, ◌-◌, ◌*◌, ◌<◌, ◌≤◌, List, [], ◌∷◌, ◌++◌, length, length-append}
use Rattle.std.proofs.Common.{length-drop, length-take, map, take, drop, Bool, true, false, Option, Some, None, refl, sym, ap, ◌∙◌, subst, arith}
use Rattle.std.proofs.Common.{true≢false}
use Rattle.std.specs.Prelude.{◌==◌, ◌&&◌, ◌||◌, not, filter, nat_lt, nat_le, max, slice_get, slice_set}
use Rattle.std.specs.List.{flat_map, starts_with}
use Rattle.std.specs.Bool.{Decides}
use Rattle.std.proofs.lemmas.Slice.Eq.{starts_is}
use Rattle.std.proofs.Math.Seq.{drop-append_seam}
use Rattle.std.proofs.lemmas.Bool.{cases_lt, cond_both, eqb-true, eq-eqb, ltb-true, ltb-false, leb-true, and_parts}
use Rattle.us_kind.specs.Comparison.{In}
use Rattle.us_kind.proofs.ListLemmas.{in_either, in_push, in_filter, in_map}
use Rattle.us_ballot_model.specs.declared.log.PromisedLog.{PromisedLog}
use Rattle.us_ballot_model.specs.declared.log.Role.{Role}
use Rattle.us_ballot_model.specs.declared.log.Role.TheVariants.{Follower, Candidate, Leader}
use Rattle.us_ballot_model.specs.declared.log.BallotLog.{BallotLog}
use Rattle.us_ballot_model.specs.declared.message.BallotMessage.{BallotMessage}
use Rattle.us_ballot_model.specs.declared.message.BallotMessage.TheVariants.{NewBallot, Promise, NewState, Accept, Accepted, CatchUp, Learn}
use Rattle.us_ballot_model.specs.Ballots.{LAST, WINDOW, sites, owner, next_ballot, others, to_others, count, held, has_promised, own_promise, best, backers}
use Rattle.us_ballot_model.specs.Ballots.{ack_of, flat, follows, leads}
use Rattle.us_ballot_model.specs.Rules.{Stepped, sending, dropped, before, ready, ready_as, advanced, advance, led, begin, start_by, best_of, due}
use Rattle.us_ballot_model.specs.Rules.{start_with, start, collecting, lead, may_follow, following, new_ballot, may_promise, with_promise, recorded}
use Rattle.us_ballot_model.specs.Rules.{promise, restated, acknowledging, state_in, new_state, may_accept, joined, accept_in, tell_accepted, accept}
use Rattle.us_ballot_model.specs.Rules.{risen, raised, with_ack, heard, may_hear, accepted, catch_up, known, may_learn, learn_from, learn}
use Rattle.us_ballot_model.specs.Rules.{take_message, missing, accepts, repeated, repeats, tick, may_append, put_in, append}
use Rattle.us_ballot_model.specs.Worlds.{Sent}
use Rattle.us_agreement.proofs.Same.{IsDecided, Same, get_drop, get_back}
use Rattle.us_agreement.proofs.History.{Ack}
use Rattle.us_agreement.proofs.Counting.{site_within}
use Rattle.us_agreement.proofs.Owners.{owner_next, next_above, most_fits, most_passes}
use Rattle.us_agreement.proofs.Facts.{Past, whole, LogIs, Chosen, PromiseOk, StateOk, AcceptOk, LearnOk, MessageOk, SentOk, AllApart, CollectOk, AcksOk}
use Rattle.us_agreement.proofs.Facts.{RoleOk, SiteOk, HistoryOk, owes_nothing}
use Rattle.us_agreement.proofs.Steps.{Step, Keeps, by_step, and_then, nothing_keeps, to_others_ok, to_one_ok, sends_alone, raised_past, own_promise_ok}
use Rattle.us_agreement.proofs.Steps.{repromise, with_role, in_mapped, not_equal}
use Rattle.us_agreement.proofs.Moves.{learn_front, learn_apart, page_chosen, restate, acknowledge, join, get_append}
use Rattle.us_agreement.proofs.Growing.{append_step, advance_step}
use Rattle.us_agreement.proofs.Starting.{begin_step, best_in}

-- what a rule gives keeps the facts
abbrev pub Preserves : {E : Type 0} → ℕ → ℕ → List (Sent E) → BallotLog E → Stepped E → Type 0
Preserves f s xs c r = Keeps f s xs c r.log r.out.sends

all_apart_push : {E : Type 0} (vs : List (PromisedLog E)) (v : PromisedLog E) → AllApart vs → ((u : PromisedLog E) → In u vs → v.site ≡ u.site → ⊥) → AllApart (vs ++ v ∷ [])
all_apart_push [] v a h = (λ u i. absurd i, tt)
all_apart_push (x ∷ xs) v a h = (in_push (λ u. u.site ≡ x.site → ⊥) xs v a.0 (h x (inl refl)), all_apart_push xs v a.1 (λ u i. h u (inr i)))

not_has_promised : {E : Type 0} (vs : List (PromisedLog E)) (z : ℕ) → not (has_promised vs z) ≡ true → (u : PromisedLog E) → In u vs → z ≡ u.site → ⊥
not_has_promised [] z e u i q = i
not_has_promised (v ∷ vs) z e u i q = on (v.site == z) refl e i (not_has_promised vs z)
  where
    on : (b : Bool) → (v.site == z) ≡ b → not (b || has_promised vs z) ≡ true → In u (v ∷ vs) → (not (has_promised vs z) ≡ true → (u : PromisedLog _) → In u vs → z ≡ u.site → ⊥) → ⊥
    on true k e i rest = absurd (true≢false (sym e))
    on false k e (inl j) rest = let same : v.site ≡ z = ap (λ (w : PromisedLog _). w.site) j ∙ sym q in true≢false (sym (eq-eqb v.site z same) ∙ k)
    on false k e (inr j) rest = rest e u j q

set_got : {X : Type 0} (xs : List X) (i : ℕ) (a : X) (k : ℕ) (b : X) → slice_get (slice_set xs i a) k ≡ Some b → ((k ≡ i) × (a ≡ b)) ⊎ (slice_get xs k ≡ Some b)
set_got [] i a k b e = absurd (cc)
set_got (x ∷ xs) zero a zero b e = inl (refl, cc)
set_got (x ∷ xs) zero a (suc k) b e = inr e
set_got (x ∷ xs) (suc i) a zero b e = inr e
set_got (x ∷ xs) (suc i) a (suc k) b e = ⊎_elim (λ r. inl (ap suc r.0, r.1)) (λ r. inr r) (set_got xs i a k b e)

get_take : {X : Type 0} (n : ℕ) (xs : List X) (k : ℕ) → k < length (take n xs) → slice_get (take n xs) k ≡ slice_get xs k
get_take zero xs k l = absurd (omega arith)
get_take (suc n) [] k l = refl
get_take (suc n) (x ∷ xs) zero l = refl
get_take (suc n) (x ∷ xs) (suc k) l = get_take n xs k (omega arith)

pub in_gathered : {X Y : Type 0} (g : X → List Y) (y : Y) (xs : List X) → In y (flat_map g xs) → (x : X) × In x xs × In y (g x)
in_gathered g y [] i = absurd i
in_gathered g y (x ∷ xs) i = ⊎_elim (λ a. (x, inl refl, a)) (λ a. let r = in_gathered g y xs a in (r.0, inr r.1, r.2)) (in_either y (g x) (flat_map g xs) i)

-- a list that reads as es at its front begins with it
pub reads_front : {X : Type 0} (es tail : List X) → ((k : ℕ) → k < length es → slice_get tail k ≡ slice_get es k) → tail ≡ es ++ drop (length es) tail
reads_front [] tail h = refl
reads_front (e ∷ es) [] h = absurd (let q = h 0 (omega arith) in cc)
reads_front (e ∷ es) (x ∷ tail) h =
    let q : Some x ≡ Some e = h 0 (omega arith) in
    let same : x ≡ e = cc in
    let rest = reads_front es tail (λ k l. h (suc k) (omega arith)) in
    λ i. same i ∷ rest i

module _ {E : Type 0} (dec : IsDecided E) (f s : ℕ) (here : In s (sites f)) (xs : List (Sent E)) where
  -- ADVANCE
  advance_in : (c : BallotLog E) (r : Role E) → c.role ≡ r → 0 < ready_as c r → (p : Past E) → HistoryOk f p → SiteOk f p s c
      → Step f p s (advanced c (ready_as c r)).log (advanced c (ready_as c r)).out.sends
  advance_in c Follower e some p hist g = absurd (omega arith)
  advance_in c (Candidate promises) e some p hist g = absurd (omega arith)
  advance_in c (Leader acks) e some p hist g =
      let pass : nat_le c.f (backers acks (count c + ready c acks)) ≡ true = most_passes (λ k. nat_le c.f (backers acks (count c + k))) (length c.tail) some in
      let enough : c.f ≤ backers acks (count c + ready c acks) = leb-true _ _ pass in
      advance_step dec f p hist s here c g acks e (subst (RoleOk f p s c) e g.role) (ready c acks) some
      (most_fits (λ k. nat_le c.f (backers acks (count c + k))) (length c.tail))
      (subst (λ x. x ≤ backers acks (count c + ready c acks)) g.f_is enough)

  pub advance_preserves : (c : BallotLog E) → Preserves f s xs c (advance c)
  unfolding advance
  advance_preserves c = cond_both (nat_lt 0 (ready_as c c.role)) (advanced c (ready_as c c.role)) (dropped c) (λ (r : Stepped E). Preserves f s xs c r)
      (λ e. by_step f s xs c _ _ (λ p hist g given. advance_in c c.role refl (ltb-true 0 (ready_as c c.role) e) p hist g))
      (λ e. nothing_keeps f s xs c)

  -- START
  start_at : (c : BallotLog E) (v : PromisedLog E) (vs : List (PromisedLog E)) → c.role ≡ Candidate (v ∷ vs) → c.f < length (v ∷ vs) → Preserves f s xs c (start_by c (best v vs))
  start_at c v vs e enough =
      cond_both (nat_lt (count c) (best v vs).base) (sending c (((best v vs).site, CatchUp (count c)) ∷ [])) (begin (led c (best v vs)))
      (λ (r : Stepped E). Preserves f s xs c r)
      (λ t. by_step f s xs c c (((best v vs).site, CatchUp (count c)) ∷ []) (λ p hist g given.
      let h : CollectOk f p s c (v ∷ vs) = subst (RoleOk f p s c) e g.role in
      let less = ltb-true (count c) (best v vs).base t in
      sends_alone f p hist s here c g (((best v vs).site, CatchUp (count c)) ∷ [])
      (to_one_ok f s here p (best v vs).site (CatchUp (count c)) (λ q. let x = h.own (best v vs) (best_in v vs) q in absurd (omega arith)) tt)))
      (λ t. and_then f s xs c (led c (best v vs)) _ _ _
      (by_step f s xs c _ _ (λ p hist g given.
      let h : CollectOk f p s c (v ∷ vs) = subst (RoleOk f p s c) e g.role in
      begin_step dec f p hist s here c g v vs h (subst (λ x. x < length (v ∷ vs)) g.f_is enough) (ltb-false (count c) (best v vs).base t)))
      (advance_preserves (led c (best v vs))))

  start_of : (c : BallotLog E) (promises : List (PromisedLog E)) → c.role ≡ Candidate promises → c.f < length promises → Preserves f s xs c (start_with c (best_of promises))
  start_of c [] e enough = absurd (omega arith)
  start_of c (v ∷ vs) e enough = start_at c v vs e enough

  start_in : (c : BallotLog E) (r : Role E) → c.role ≡ r → Preserves f s xs c (start_with c (due c r))
  start_in c Follower e = nothing_keeps f s xs c
  start_in c (Leader acks) e = nothing_keeps f s xs c
  start_in c (Candidate promises) e =
      cond_both (nat_lt c.f (length promises)) (best_of promises) None (λ (o : Option (PromisedLog E)). Preserves f s xs c (start_with c o))
      (λ t. start_of c promises e (ltb-true c.f (length promises) t)) (λ t. nothing_keeps f s xs c)

  pub start_preserves : (c : BallotLog E) → Preserves f s xs c (start c)
  unfolding start
  start_preserves c = start_in c c.role refl

  -- LEAD
  lead_step : (c : BallotLog E) (p : Past E) (hist : HistoryOk f p) (g : SiteOk f p s c) (b : ℕ) → c.ballot < b → owner f b ≡ s
      → Step f p s (collecting c b) (to_others c (NewBallot b))
  unfolding raised_past
  lead_step c p hist g b above own =
      repromise f p hist s here c g b (Candidate (own_promise c ∷ [])) (to_others c (NewBallot b)) (omega arith)
      (record {
        owns = own;
        new = (let x = g.acc in omega arith);
        promises =
            λ v i. ⊎_elim (λ e. subst (PromiseOk f (raised_past f p hist s here c g b) b) e
            (own_promise_ok f p hist s here c g b c.site (omega arith) g.site_is)) (λ n. absurd n) i;
        apart = (λ u i. absurd i, tt);
        own = λ v i e. ⊎_elim (λ (q : own_promise c ≡ v). let x = ap (λ (u : PromisedLog E). u.base) q in omega arith) (λ n. absurd n) i;
      })
      (to_others_ok f s here (raised_past f p hist s here c g b) c g.f_is g.site_is (NewBallot b) tt)

  pub lead_preserves : (c : BallotLog E) → Preserves f s xs c (lead c)
  unfolding lead
  lead_preserves c = cond_both (nat_lt LAST b) (dropped c) (before (to_others c (NewBallot b)) [] (start (collecting c b))) (λ (r : Stepped E). Preserves f s xs c r)
      (λ t. nothing_keeps f s xs c)
      (λ t. and_then f s xs c (collecting c b) _ _ _
      (by_step f s xs c _ _ (λ p hist g given. lead_step c p hist g b (next_above c.f c.site c.ballot) (owns p g)))
      (start_preserves (collecting c b)))
    where
      b : ℕ
      b = next_ballot c.f c.site c.ballot

      owns : (p : Past E) → SiteOk f p s c → owner f (next_ballot c.f c.site c.ballot) ≡ s
      owns p g =
          let w = site_within 1 (2 * f + 1) s here in
          let P : ℕ → ℕ → Type 0 = λ x y. owner f (next_ballot x y c.ballot) ≡ s in
          let e = owner_next f s c.ballot w.0 (let z = w.1 in omega arith) in
          subst (λ x. P x c.site) (sym g.f_is) (subst (P f) (sym g.site_is) e)

  -- NEWBALLOT
  pub new_ballot_preserves : (c : BallotLog E) (from b : ℕ) → (from ≡ s → ⊥) → Preserves f s xs c (new_ballot c from b)
  unfolding new_ballot raised_past
  new_ballot_preserves c from b apart =
      cond_both (may_follow c from b) (sending (following c b) ((from, Promise b c.accepted (count c) c.tail) ∷ [])) (dropped c)
      (λ (r : Stepped E). Preserves f s xs c r)
      (λ t. by_step f s xs c (following c b) ((from, Promise b c.accepted (count c) c.tail) ∷ []) (λ p hist g given.
      let le = leb-true c.ballot b (and_parts (nat_le c.ballot b) (owner c.f b == from) t).0 in
      repromise f p hist s here c g b Follower ((from, Promise b c.accepted (count c) c.tail) ∷ []) le tt
      (to_one_ok f s here (raised_past f p hist s here c g b) from (Promise b c.accepted (count c) c.tail) apart (own_promise_ok f p hist s here c g b s le refl))))
      (λ t. nothing_keeps f s xs c)

  -- PROMISE
  promise_role : (c : BallotLog E) (p : Past E) → SiteOk f p s c → (b : ℕ) (v : PromisedLog E) → PromiseOk f p b v → (v.site ≡ s → ⊥) → (r : Role E)
      → RoleOk f p s c r → may_promise c v.site b r ≡ true → RoleOk f p s (record c { role = with_promise r v }) (with_promise r v)
  promise_role c p g b v ok apart Follower h e = absurd (true≢false (sym e))
  promise_role c p g b v ok apart (Leader acks) h e = absurd (true≢false (sym e))
  promise_role c p g b v ok apart (Candidate promises) h e =
      let k = and_parts (b == c.ballot) (nat_le (length promises) c.f && not (has_promised promises v.site)) e in
      let same : b ≡ c.ballot = eqb-true b c.ballot k.0 in
      let new = and_parts (nat_le (length promises) c.f) (not (has_promised promises v.site)) k.1 in
      record {
        owns = h.owns;
        new = h.new;
        promises = in_push (λ u. PromiseOk f p c.ballot u) promises v h.promises (subst (λ x. PromiseOk f p x v) same ok);
        apart = all_apart_push promises v h.apart (not_has_promised promises v.site new.1);
        own = in_push (λ u. u.site ≡ s → u.base ≤ length c.chosen) promises v h.own (λ q. absurd (apart q));
      }

  pub promise_preserves : (c : BallotLog E) (b : ℕ) (v : PromisedLog E) → ((p : Past E) → ((x : Sent E) → In x xs → SentOk f p x) → PromiseOk f p b v)
      → (v.site ≡ s → ⊥) → Preserves f s xs c (promise c b v)
  unfolding promise
  promise_preserves c b v told apart = cond_both (may_promise c v.site b c.role) (start (recorded c v)) (dropped c) (λ (r : Stepped E). Preserves f s xs c r)
      (λ t. and_then f s xs c (recorded c v) (start (recorded c v)).log [] (start (recorded c v)).out.sends
      (by_step f s xs c (recorded c v) [] (λ p hist g given. with_role f p hist s here c g (with_promise c.role v)
      (promise_role c p g b v (told p given) apart c.role g.role t)))
      (start_preserves (recorded c v)))
      (λ t. nothing_keeps f s xs c)

  -- NEWSTATE
  follow_step : (c : BallotLog E) (from b : ℕ) → may_follow c from b ≡ true → Keeps f s xs c (following c b) []
  follow_step c from b t = by_step f s xs c (following c b) [] (λ p hist g given.
      let le = leb-true c.ballot b (and_parts (nat_le c.ballot b) (owner c.f b == from) t).0 in
      repromise f p hist s here c g b Follower [] le tt (λ m i. absurd i))

  tell : (c : BallotLog E) (from : ℕ) → c.accepted ≡ c.ballot → (from ≡ s → ⊥) → Preserves f s xs c (acknowledging c from c.ballot)
  tell c from same apart =
      by_step f s xs c c ((from, Accepted c.ballot (held c)) ∷ [])
      (λ p hist g given. acknowledge dec f p hist s here c g same from apart (held c) (sym (length-append c.chosen c.tail)))

  -- the state of the ballot that this site follows
  state_preserves : (c : BallotLog E) (from base : ℕ) (tail : List E) → c.role ≡ Follower
      → ((p : Past E) → ((x : Sent E) → In x xs → SentOk f p x) → StateOk p c.ballot base tail) → (from ≡ s → ⊥)
      → Preserves f s xs c (state_in c from c.ballot base tail)
  state_preserves c from base tail follows told apart =
      cond_both (nat_lt (count c) base) (sending c ((from, CatchUp (count c)) ∷ [])) (acknowledging (restated c c.ballot base tail) from c.ballot)
      (λ (r : Stepped E). Preserves f s xs c r)
      (λ t. by_step f s xs c c ((from, CatchUp (count c)) ∷ [])
      (λ p hist g given. sends_alone f p hist s here c g ((from, CatchUp (count c)) ∷ [])
      (to_one_ok f s here p from (CatchUp (count c)) apart tt)))
      (λ t. cond_both (nat_lt c.accepted c.ballot) (record c { tail = drop (count c - base) tail; accepted = c.ballot }) c
      (λ (d : BallotLog E). Preserves f s xs c (acknowledging d from c.ballot))
      (λ u. and_then f s xs c (record c { tail = drop (count c - base) tail; accepted = c.ballot })
      (record c { tail = drop (count c - base) tail; accepted = c.ballot }) []
      ((from, Accepted c.ballot (held (record c { tail = drop (count c - base) tail; accepted = c.ballot }))) ∷ [])
      (by_step f s xs c (record c { tail = drop (count c - base) tail; accepted = c.ballot }) [] (λ p hist g given. record {
        past = p;
        owes = owes_nothing f p s;
        history = hist;
        site = restate dec f p hist s here c g base tail (told p given) follows (ltb-false (count c) base t) (ltb-true c.accepted c.ballot u);
        sends = λ m i. absurd i;
      }))
      (tell (record c { tail = drop (count c - base) tail; accepted = c.ballot }) from refl apart))
      (λ u. by_step f s xs c c ((from, Accepted c.ballot (held c)) ∷ []) (λ p hist g given.
      let same : c.accepted ≡ c.ballot = (let x = g.acc in let y = ltb-false c.accepted c.ballot u in omega arith) in
      acknowledge dec f p hist s here c g same from apart (held c) (sym (length-append c.chosen c.tail)))))

  pub new_state_preserves : (c : BallotLog E) (from b base : ℕ) (tail : List E)
      → ((p : Past E) → ((x : Sent E) → In x xs → SentOk f p x) → StateOk p b base tail) → (from ≡ s → ⊥)
      → Preserves f s xs c (new_state c from b base tail)
  unfolding new_state
  new_state_preserves c from b base tail told apart =
      cond_both (may_follow c from b) (state_in (following c b) from b base tail) (dropped c) (λ (r : Stepped E). Preserves f s xs c r)
      (λ t. and_then f s xs c (following c b) (state_in (following c b) from b base tail).log [] (state_in (following c b) from b base tail).out.sends
      (follow_step c from b t)
      (state_preserves (following c b) from base tail refl told apart))
      (λ t. nothing_keeps f s xs c)

  -- ACCEPT
  tell_for : (c : BallotLog E) (from slot : ℕ) → c.accepted ≡ c.ballot → (from ≡ s → ⊥) → Preserves f s xs c (tell_accepted c from c.ballot slot)
  tell_for c from slot same apart =
      cond_both (nat_le slot (held c)) (acknowledging c from c.ballot) (dropped c) (λ (r : Stepped E). Preserves f s xs c r) (λ t. tell c from same apart)
      (λ t. nothing_keeps f s xs c)

  is_follows : (r : Role E) → follows r ≡ true → r ≡ Follower
  is_follows Follower e = refl
  is_follows (Candidate promises) e = absurd (true≢false (sym e))
  is_follows (Leader acks) e = absurd (true≢false (sym e))

  accept_for : (c : BallotLog E) (from slot : ℕ) (e : E) → c.role ≡ Follower → c.accepted ≡ c.ballot
      → ((p : Past E) → ((x : Sent E) → In x xs → SentOk f p x) → AcceptOk p c.ballot slot e) → (from ≡ s → ⊥)
      → Preserves f s xs c (tell_accepted (accept_in c slot e) from c.ballot slot)
  accept_for c from slot e follows same told apart =
      cond_both ((slot == held c + 1) && nat_lt (length c.tail) WINDOW) (joined c e) c
      (λ (d : BallotLog E). Preserves f s xs c (tell_accepted d from c.ballot slot))
      (λ t. and_then f s xs c (joined c e) (tell_accepted (joined c e) from c.ballot slot).log [] (tell_accepted (joined c e) from c.ballot slot).out.sends
      (by_step f s xs c (joined c e) [] (λ p hist g given. record {
        past = p;
        owes = owes_nothing f p s;
        history = hist;
        site =
            join dec f p hist s here c g slot e (told p given) follows same
            (let x = eqb-true slot (held c + 1) (and_parts (slot == held c + 1) (nat_lt (length c.tail) WINDOW) t).0 in let y = length-append c.chosen
            c.tail in omega arith);
        sends = λ m i. absurd i;
      }))
      (tell_for (joined c e) from slot same apart))
      (λ t. tell_for c from slot same apart)

  pub accept_preserves : (c : BallotLog E) (from b slot : ℕ) (e : E) → ((p : Past E) → ((x : Sent E) → In x xs → SentOk f p x) → AcceptOk p b slot e)
      → (from ≡ s → ⊥) → Preserves f s xs c (accept c from b slot e)
  unfolding accept
  accept_preserves c from b slot e told apart =
      cond_both (may_accept c from b) (tell_accepted (accept_in c slot e) from b slot) (dropped c) (λ (r : Stepped E). Preserves f s xs c r)
      (λ t.
      let k = and_parts (follows c.role) ((owner c.f b == from) && ((b == c.ballot) && (b == c.accepted))) t in
      let l = and_parts (owner c.f b == from) ((b == c.ballot) && (b == c.accepted)) k.1 in
      let m = and_parts (b == c.ballot) (b == c.accepted) l.1 in
      let at : b ≡ c.ballot = eqb-true b c.ballot m.0 in
      let of' : b ≡ c.accepted = eqb-true b c.accepted m.1 in
      subst (λ y. Preserves f s xs c (tell_accepted (accept_in c slot e) from y slot)) (sym at)
      (accept_for c from slot e (is_follows c.role k.0) (sym of' ∙ at) (λ p given. subst (λ y. AcceptOk p y slot e) at (told p given)) apart))
      (λ t. nothing_keeps f s xs c)

  -- ACCEPTED
  heard_role : (c : BallotLog E) (p : Past E) → SiteOk f p s c → (from n : ℕ) → In (Ack c.ballot from n) p.told → In from (sites f) → (from ≡ s → ⊥)
      → (r : Role E) → RoleOk f p s c r → RoleOk f p s (record c { role = with_ack r from n }) (with_ack r from n)
  heard_role c p g from n told from_site apart Follower h = tt
  heard_role c p g from n told from_site apart (Candidate promises) h = record { owns = h.owns; new = h.new; promises = h.promises; apart = h.apart; own = h.own }
  heard_role c p g from n told from_site apart (Leader acks) h = record { owns = h.owns; same = h.same; leading = h.leading; acks = ok }
    where
      first : from - 1 + 1 ≡ from
      first = let w = site_within 1 (2 * f + 1) from from_site in let y = w.0 in omega arith

      mine : (m : ℕ) → n ≡ m → In (Ack c.ballot (from - 1 + 1) m) p.told × In (from - 1 + 1) (sites f) × (from - 1 + 1 ≡ s → ⊥)
      mine m e =
          subst (λ y. In (Ack c.ballot y m) p.told × In y (sites f) × (y ≡ s → ⊥)) (sym first)
          (subst (λ y. In (Ack c.ballot from y) p.told) e told, from_site, apart)

      -- the risen one is the old one or the new one
      at_own : (o : Option ℕ) → ack_of acks from ≡ o → (m : ℕ) → risen o n ≡ m → 0 < m
          → In (Ack c.ballot (from - 1 + 1) m) p.told × In (from - 1 + 1) (sites f) × (from - 1 + 1 ≡ s → ⊥)
      at_own None q m e l = mine m e
      at_own (Some k) q m e l = ⊎_elim
          (λ (a : k < n). mine m (let x : max k n ≡ n = omega arith in sym x ∙ e))
          (λ (a : n ≤ k). let x : max k n ≡ k = omega arith in let y : k ≡ m = sym x ∙ e in old (slice_get acks (from - 1)) refl q y)
          (cases_lt k n)
        where
          old : (o : Option (Option ℕ)) → slice_get acks (from - 1) ≡ o → ack_of acks from ≡ Some k → k ≡ m
              → In (Ack c.ballot (from - 1 + 1) m) p.told × In (from - 1 + 1) (sites f) × (from - 1 + 1 ≡ s → ⊥)
          old None r q y = let z : ack_of acks from ≡ None = ap flat r in absurd (let w : None ≡ Some k = sym z ∙ q in cc)
          old (Some a) r q y = let z : ack_of acks from ≡ a = ap flat r in let w : a ≡ Some m = sym z ∙ q ∙ ap Some y in h.acks (from - 1) m (r ∙ ap Some w) l

      ok : AcksOk f p s c.ballot (raised acks from n)
      ok k m e l = ⊎_elim
          (λ (r : (k ≡ from - 1) × (Some (risen (ack_of acks from) n) ≡ Some m)).
          let same : risen (ack_of acks from) n ≡ m = (let q = r.1 in cc) in
          subst (λ y. In (Ack c.ballot (y + 1) m) p.told × In (y + 1) (sites f) × (y + 1 ≡ s → ⊥)) (sym r.0) (at_own (ack_of acks from) refl m same l))
          (λ (r : slice_get acks k ≡ Some (Some m)). h.acks k m r l)
          (set_got acks (from - 1) (Some (risen (ack_of acks from) n)) k (Some m) e)

  pub accepted_preserves : (c : BallotLog E) (from b n : ℕ)
      → ((p : Past E) → ((x : Sent E) → In x xs → SentOk f p x) → In (Ack b from n) p.told × In from (sites f)) → (from ≡ s → ⊥)
      → Preserves f s xs c (accepted c from b n)
  unfolding accepted
  accepted_preserves c from b n told apart = cond_both (may_hear c b n) (advance (heard c from n)) (dropped c) (λ (r : Stepped E). Preserves f s xs c r)
      (λ t. and_then f s xs c (heard c from n) (advance (heard c from n)).log [] (advance (heard c from n)).out.sends
      (by_step f s xs c (heard c from n) [] (λ p hist g given.
      let k = and_parts (leads c.role) ((b == c.ballot) && nat_le n (held c)) t in
      let at : b ≡ c.ballot = eqb-true b c.ballot (and_parts (b == c.ballot) (nat_le n (held c)) k.1).0 in
      let r = told p given in
      with_role f p hist s here c g (with_ack c.role from n) (heard_role c p g from n (subst (λ y. In (Ack y from n) p.told) at r.0) r.1 apart c.role g.role)))
      (advance_preserves (heard c from n)))
      (λ t. nothing_keeps f s xs c)

  -- CATCHUP
  page_ok : (c : BallotLog E) (p : Past E) → SiteOk f p s c → (n : ℕ) → n < length c.chosen → LearnOk p (n + 1) (take WINDOW (drop n c.chosen))
  page_ok c p g n lt = record {
    log = c.chosen;
    chosen = g.chosen;
    within = omega (arith, length-take WINDOW (drop n c.chosen), length-drop n c.chosen);
    same = λ k l. let e : n + k ≡ n + 1 - 1 + k = omega arith in get_take WINDOW (drop n c.chosen) k l ∙ get_drop n c.chosen k ∙ ap (slice_get c.chosen) e;
  }

  pub catch_up_preserves : (c : BallotLog E) (from n : ℕ) → (from ≡ s → ⊥) → Preserves f s xs c (catch_up c from n)
  unfolding catch_up
  catch_up_preserves c from n apart =
      cond_both (nat_lt n (count c)) (sending c ((from, Learn (n + 1) (take WINDOW (drop n c.chosen))) ∷ [])) (dropped c)
      (λ (r : Stepped E). Preserves f s xs c r)
      (λ t. by_step f s xs c c ((from, Learn (n + 1) (take WINDOW (drop n c.chosen))) ∷ []) (λ p hist g given.
      sends_alone f p hist s here c g ((from, Learn (n + 1) (take WINDOW (drop n c.chosen))) ∷ [])
      (to_one_ok f s here p from (Learn (n + 1) (take WINDOW (drop n c.chosen))) apart (page_ok c p g n (ltb-true n (count c) t)))))
      (λ t. nothing_keeps f s xs c)

  -- APPEND
  append_in : (c : BallotLog E) (e : E) (r : Role E) → c.role ≡ r → leads r ≡ true → (p : Past E) → HistoryOk f p → SiteOk f p s c
      → Step f p s (joined c e) (to_others c (Accept c.ballot (held c + 1) e))
  append_in c e Follower q l p hist g = absurd (true≢false (sym l))
  append_in c e (Candidate promises) q l p hist g = absurd (true≢false (sym l))
  append_in c e (Leader acks) q l p hist g = append_step dec f p hist s here c g acks q (subst (RoleOk f p s c) q g.role) e

  pub append_preserves : (c : BallotLog E) (e : E) → Preserves f s xs c (append c e)
  unfolding append
  append_preserves c e = cond_both (may_append c) (put_in c e) (dropped c) (λ (r : Stepped E). Preserves f s xs c r)
      (λ t. and_then f s xs c (joined c e) (advance (joined c e)).log (to_others c (Accept c.ballot (held c + 1) e)) (advance (joined c e)).out.sends
      (by_step f s xs c (joined c e) (to_others c (Accept c.ballot (held c + 1) e))
      (λ p hist g given. append_in c e c.role refl (and_parts (leads c.role) (nat_lt (length c.tail) WINDOW) t).0 p hist g))
      (advance_preserves (joined c e)))
      (λ t. nothing_keeps f s xs c)

  -- TICK
  missing_ok : (c : BallotLog E) (p : Past E) → SiteOk f p s c → (q : ℕ → Bool) (m : BallotMessage E) → MessageOk f p s m → (x : ℕ × BallotMessage E)
      → In x (map (λ j. (j, m)) (filter q (others c))) → SentOk f p (record { from = s; to = x.0; message = x.1 })
  missing_ok c p g q m ok x i =
      let r = in_mapped (λ j. (j, m)) x (filter q (others c)) i in
      to_others_ok f s here p c g.f_is g.site_is m ok x (subst (λ y. In y (to_others c m)) r.2
      (in_map (λ j. (j, m)) r.0 (others c) (in_filter q r.0 (others c) r.1).0))

  accepts_ok : (c : BallotLog E) (p : Past E) (j b slot : ℕ) (es : List E) → (s ≡ j → ⊥)
      → ((k : ℕ) (e : E) → slice_get es k ≡ Some e → AcceptOk p b (slot + k) e) → (x : ℕ × BallotMessage E) → In x (accepts j b slot es)
      → SentOk f p (record { from = s; to = x.0; message = x.1 })
  accepts_ok c p j b slot [] apart ok x i = absurd i
  accepts_ok c p j b slot (e ∷ es) apart ok x (inl q) =
      let P : ℕ × BallotMessage E → Type 0 = λ y. SentOk f p (record { from = s; to = y.0; message = y.1 }) in
      let z : slot + 0 ≡ slot = omega arith in
      subst P q (record { here = here; apart = apart; message = subst (λ y. AcceptOk p b y e) z (ok 0 e refl) })
  accepts_ok c p j b slot (e ∷ es) apart ok x (inr i) =
      accepts_ok c p j b (slot + 1) es apart (λ k d q. let z : slot + suc k ≡ slot + 1 + k = omega arith in subst (λ y. AcceptOk p b y d) z
      (ok (suc k) d q)) x i

  repeated_ok : (c : BallotLog E) (p : Past E) → SiteOk f p s c → c.accepted ≡ c.ballot → (j : ℕ) → In j (others c) → (o : Option ℕ)
      → (x : ℕ × BallotMessage E) → In x (repeated c j o) → SentOk f p (record { from = s; to = x.0; message = x.1 })
  repeated_ok c p g same j i o x k = on o k
    where
      log : LogIs p c.ballot (whole c)
      log = subst (λ a. LogIs p a (whole c)) same g.log

      apart : s ≡ j → ⊥
      apart q = not_equal j c.site (in_filter (λ z. not (z == c.site)) j (sites c.f) i).1 (sym q ∙ sym g.site_is)

      state : StateOk p c.ballot (count c) c.tail
      state = record { log = whole c; fits = length-append c.chosen c.tail; is = drop-append_seam c.chosen c.tail; facts = log }

      entry : (n k : ℕ) (e : E) → count c ≤ n → slice_get (drop (n - count c) c.tail) k ≡ Some e → AcceptOk p c.ballot (n + 1 + k) e
      entry n k e le q = record {
        log = whole c;
        place = n + k;
        is = omega arith;
        entry =
            let a : n - count c + k ≡ n + k - length c.chosen = omega arith in
            get_append c.chosen c.tail (n + k) (omega arith) ∙ ap (slice_get c.tail) (sym a) ∙ sym (get_drop (n - count c) c.tail k) ∙ q;
        facts = log;
      }

      on : (o : Option ℕ) → In x (repeated c j o) → SentOk f p (record { from = s; to = x.0; message = x.1 })
      on None k = to_one_ok f s here p j (NewState c.ballot (count c) c.tail) (λ q. apart (sym q)) state x k
      on (Some n) k =
          accepts_ok c p j c.ballot (max n (count c) + 1) (drop (max n (count c) - count c) c.tail) apart
          (λ k e q. entry (max n (count c)) k e (omega arith) q) x k

  repeats_ok : (c : BallotLog E) (p : Past E) → SiteOk f p s c → (r : Role E) → RoleOk f p s c r → (x : ℕ × BallotMessage E) → In x (repeats c r)
      → SentOk f p (record { from = s; to = x.0; message = x.1 })
  repeats_ok c p g Follower h x i = absurd i
  repeats_ok c p g (Candidate promises) h x i =
      cond_both (nat_lt c.f (length promises)) [] (map (λ j. (j, NewBallot c.ballot)) (missing c promises))
      (λ l. In x l → SentOk f p (record { from = s; to = x.0; message = x.1 }))
      (λ t n. absurd n)
      (λ t j. missing_ok c p g (λ j. not (has_promised promises j)) (NewBallot c.ballot) tt x j)
      i
  repeats_ok c p g (Leader acks) h x i =
      let r = in_gathered (λ j. repeated c j (ack_of acks j)) x (others c) i in
      repeated_ok c p g h.same r.0 r.1 (ack_of acks r.0) x r.2

  pub tick_preserves : (c : BallotLog E) → Preserves f s xs c (tick c)
  unfolding tick
  tick_preserves c = by_step f s xs c c (to_others c (CatchUp (count c)) ++ repeats c c.role) (λ p hist g given.
      sends_alone f p hist s here c g (to_others c (CatchUp (count c)) ++ repeats c c.role) (λ x i. ⊎_elim
      (λ a. to_others_ok f s here p c g.f_is g.site_is (CatchUp (count c)) tt x a)
      (λ a. repeats_ok c p g c.role g.role x a)
      (in_either x (to_others c (CatchUp (count c))) (repeats c c.role) i)))

  -- LEARN
  module _ (eq : E → E → Bool) (decides : (x y : E) → Decides (eq x y) (x ≡ y)) where
    at_front : (c : BallotLog E) (es : List E) → starts_with eq c.tail es ≡ true → c.tail ≡ es ++ drop (length es) c.tail
    at_front c es t = (starts_is decides c.tail es (starts_with eq c.tail es) refl).0 t

    not_at_front : (c : BallotLog E) (es : List E) → starts_with eq c.tail es ≡ false → Same (length (c.chosen ++ es)) (whole c) (c.chosen ++ es) → ⊥
    not_at_front c es t same =
        let reads : (k : ℕ) → k < length es → slice_get c.tail k ≡ slice_get es k =
        λ k l. sym (get_back c.chosen c.tail k) ∙ same.at (length c.chosen + k) (omega (arith, length-append c.chosen es)) ∙ get_back c.chosen es
        k in
        let e = (starts_is decides c.tail es (starts_with eq c.tail es) refl).1 (drop (length es) c.tail) (reads_front es c.tail reads) in
        true≢false (sym e ∙ t)

    learn_with : (c : BallotLog E) (es : List E)
        → ((p : Past E) → HistoryOk f p → SiteOk f p s c → ((x : Sent E) → In x xs → SentOk f p x) → Chosen p (c.chosen ++ es))
        → Preserves f s xs c (learn_from eq c es)
    learn_with c es told =
        cond_both (starts_with eq c.tail es) (drop (length es) c.tail) []
        (λ tail. Preserves f s xs c (before [] es (start (record c { chosen = c.chosen ++ es; tail = tail }))))
        (λ t. and_then f s xs c (record c { chosen = c.chosen ++ es; tail = drop (length es) c.tail })
        (start (record c { chosen = c.chosen ++ es; tail = drop (length es) c.tail })).log []
        (start (record c { chosen = c.chosen ++ es; tail = drop (length es) c.tail })).out.sends
        (by_step f s xs c (record c { chosen = c.chosen ++ es; tail = drop (length es) c.tail }) []
        (λ p hist g given. learn_front dec f p hist s here c g es (told p hist g given) (at_front c es t)))
        (start_preserves (record c { chosen = c.chosen ++ es; tail = drop (length es) c.tail })))
        (λ t. and_then f s xs c (record c { chosen = c.chosen ++ es; tail = [] }) (start (record c { chosen = c.chosen ++ es; tail = [] })).log []
        (start (record c { chosen = c.chosen ++ es; tail = [] })).out.sends
        (by_step f s xs c (record c { chosen = c.chosen ++ es; tail = [] }) []
        (λ p hist g given. learn_apart dec f p hist s here c g es (told p hist g given) (not_at_front c es t)))
        (start_preserves (record c { chosen = c.chosen ++ es; tail = [] })))

    pub learn_preserves : (c : BallotLog E) (first : ℕ) (es : List E) → ((p : Past E) → ((x : Sent E) → In x xs → SentOk f p x) → LearnOk p first es)
        → Preserves f s xs c (learn eq c first es)
    unfolding learn
    learn_preserves c first es told = cond_both (may_learn c first es) (learn_from eq c (drop (known c first) es)) (dropped c) (λ (r : Stepped E). Preserves f s xs c r)
        (λ t.
        let k = and_parts (nat_le (first - 1) (count c)) (nat_lt (known c first) (length es)) t in
        learn_with c (drop (known c first) es) (λ p hist g given. page_chosen dec f p hist s here c g first es (told p given)
        (leb-true (first - 1) (count c) k.0) (ltb-true (known c first) (length es) k.1)))
        (λ t. nothing_keeps f s xs c)

    -- ANY MESSAGE that was sent here
    pub take_preserves : (c : BallotLog E) (from : ℕ) (m : BallotMessage E)
        → ((p : Past E) → ((x : Sent E) → In x xs → SentOk f p x) → SentOk f p (record { from = from; to = s; message = m })) → (from ≡ s → ⊥)
        → Preserves f s xs c (take_message eq c from m)
    unfolding take_message
    take_preserves c from (NewBallot b) told apart = new_ballot_preserves c from b apart
    take_preserves c from (Promise b accepted base tail) told apart =
        promise_preserves c b (record { site = from; accepted = accepted; base = base; tail = tail }) (λ p given. (told p given).message) apart
    take_preserves c from (NewState b base tail) told apart = new_state_preserves c from b base tail (λ p given. (told p given).message) apart
    take_preserves c from (Accept b slot e) told apart = accept_preserves c from b slot e (λ p given. (told p given).message) apart
    take_preserves c from (Accepted b n) told apart = accepted_preserves c from b n (λ p given. ((told p given).message, (told p given).here)) apart
    take_preserves c from (CatchUp n) told apart = catch_up_preserves c from n apart
    take_preserves c from (Learn first es) told apart = learn_preserves c first es (λ p given. (told p given).message)
