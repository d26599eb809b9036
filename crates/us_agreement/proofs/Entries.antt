-- Where entries come from, how long tails are, and that chosen lists grow.
use Rattle.std.proofs.Common.{◌≡◌, inl, inr, ⊎_elim, ℕ, zero, suc, ◌+◌, ◌-◌, ◌≤◌, List, [], ◌∷◌, ◌++◌, length, length-append, length-drop, map, take}
use Rattle.std.proofs.Common.{drop, Bool, true, Option, Some, None, refl, sym, ap, ◌∙◌, subst, arith, append_assoc, append-nil}
use Rattle.std.specs.Prelude.{◌==◌, ◌&&◌, if◌then◌else◌, nat_lt, nat_le, max, slice_get}
use Rattle.std.specs.List.{starts_with}
use Rattle.std.proofs.lemmas.Bool.{cond_both, ltb-true, and_parts}
use Rattle.us_kind.specs.Comparison.{In}
use Rattle.us_kind.proofs.ListLemmas.{in_either, in_front, in_back, in_push, in_got}
use Rattle.us_ballot_model.specs.declared.log.PromisedLog.{PromisedLog}
use Rattle.us_ballot_model.specs.declared.log.Role.{Role}
use Rattle.us_ballot_model.specs.declared.log.Role.TheVariants.{Follower, Candidate, Leader}
use Rattle.us_ballot_model.specs.declared.log.BallotLog.{BallotLog}
use Rattle.us_ballot_model.specs.declared.message.BallotMessage.{BallotMessage}
use Rattle.us_ballot_model.specs.declared.message.BallotMessage.TheVariants.{NewBallot, Promise, NewState, Accept, Accepted, CatchUp, Learn}
use Rattle.us_ballot_model.specs.Ballots.{LAST, WINDOW, next_ballot, others, to_others, count, held, best, ack_of, first_acks}
use Rattle.us_ballot_model.specs.Rules.{Stepped, sending, dropped, before, ready_as, advanced, advance, led, begin, start_by, best_of, due}
use Rattle.us_ballot_model.specs.Rules.{start_with, start, collecting, lead, may_follow, following, new_ballot, may_promise, with_promise, recorded}
use Rattle.us_ballot_model.specs.Rules.{promise, restated, acknowledging, state_in, new_state, may_accept, joined, accept_in, tell_accepted, accept}
use Rattle.us_ballot_model.specs.Rules.{with_ack, heard, may_hear, accepted, catch_up, trimmed, learnt, known, may_learn, learn_from, learn}
use Rattle.us_ballot_model.specs.Rules.{take_message, missing, accepts, repeated, repeats, tick, may_append, put_in, append}
use Rattle.us_ballot_model.specs.Worlds.{Sent, World, WorldEvent, Lead, Append, Tick, Crash, Deliver, put, sent_by, acts, stepped}
use Rattle.us_ballot_model.specs.Worlds.{steps, deliver_packet, world_step, run, opening_world}
use Rattle.us_agreement.specs.Laws.{IsPrefix, chosen_at}
use Rattle.us_agreement.proofs.Facts.{at_each}
use Rattle.us_agreement.proofs.Steps.{in_mapped}
use Rattle.us_agreement.proofs.Starting.{best_in}
use Rattle.us_agreement.proofs.Preservation.{in_gathered}

-- a short list of entries that were appended
pub record IsTail {E : Type 0} (app : List E) (t : List E) : Type 0 where
  pub short : length t ≤ WINDOW
  pub known : (e : E) → In e t → In e app

abbrev pub MessageKnown : {E : Type 0} → List E → BallotMessage E → Type 0
MessageKnown app (NewBallot b) = Unit {0}
MessageKnown app (Promise b accepted base tail) = IsTail app tail
MessageKnown app (NewState b base tail) = IsTail app tail
MessageKnown app (Accept b slot e) = In e app
MessageKnown app (Accepted b n) = Unit {0}
MessageKnown app (CatchUp n) = Unit {0}
MessageKnown {E} app (Learn first es) = (e : E) → In e es → In e app

abbrev pub RoleKnown : {E : Type 0} → List E → Role E → Type 0
RoleKnown app Follower = Unit {0}
RoleKnown {E} app (Candidate promises) = (v : PromisedLog E) → In v promises → IsTail app v.tail
RoleKnown app (Leader acks) = Unit {0}

pub record LogKnown {E : Type 0} (app : List E) (c : BallotLog E) : Type 0 where
  pub chosen : (e : E) → In e c.chosen → In e app
  pub tail : IsTail app c.tail
  pub role : RoleKnown app c.role

-- what a step leaves, where the chosen list was the old one
pub record Leaves {E : Type 0} (app old : List E) (c' : BallotLog E) (ms : List (ℕ × BallotMessage E)) : Type 0 where
  pub log : LogKnown app c'
  pub sends : (m : ℕ × BallotMessage E) → In m ms → MessageKnown app m.1
  pub grows : IsPrefix old c'.chosen

abbrev pub Yields : {E : Type 0} → List E → BallotLog E → Stepped E → Type 0
Yields app c r = LogKnown app c → Leaves app c.chosen r.log r.out.sends

pub front_self : {E : Type 0} (xs : List E) → IsPrefix xs xs
front_self xs = record { rest = []; is = sym (append-nil xs) }

pub front_more : {E : Type 0} (xs ys : List E) → IsPrefix xs (xs ++ ys)
front_more xs ys = record { rest = ys; is = refl }

pub front_trans : {E : Type 0} {xs ys zs : List E} → IsPrefix xs ys → IsPrefix ys zs → IsPrefix xs zs
front_trans {E} {xs} {ys} {zs} h k = record { rest = h.rest ++ k.rest; is = k.is ∙ ap (λ l. l ++ k.rest) h.is ∙ append_assoc xs h.rest k.rest }

in_drop : {E : Type 0} (n : ℕ) (e : E) (xs : List E) → In e (drop n xs) → In e xs
in_drop zero e xs i = i
in_drop (suc n) e [] i = i
in_drop (suc n) e (x ∷ xs) i = inr (in_drop n e xs i)

in_take : {E : Type 0} (n : ℕ) (e : E) (xs : List E) → In e (take n xs) → In e xs
in_take zero e xs i = absurd i
in_take (suc n) e [] i = i
in_take (suc n) e (x ∷ xs) (inl q) = inl q
in_take (suc n) e (x ∷ xs) (inr i) = inr (in_take n e xs i)

module _ {E : Type 0} (app : List E) where
  drop_tail : (n : ℕ) (t : List E) → IsTail app t → IsTail app (drop n t)
  drop_tail n t h = record { short = (let x = h.short in omega (arith, length-drop n t)); known = λ e i. h.known e (in_drop n e t i) }

  no_tail : IsTail app []
  no_tail = record { short = omega arith; known = λ e i. absurd i }

  rests : (c : BallotLog E) → Yields app c (dropped c)
  rests c h = record { log = h; sends = λ m i. absurd i; grows = front_self c.chosen }

  says : (c : BallotLog E) (ms : List (ℕ × BallotMessage E)) → (LogKnown app c → (m : ℕ × BallotMessage E) → In m ms → MessageKnown app m.1)
      → Yields app c (sending c ms)
  says c ms ok h = record { log = h; sends = ok h; grows = front_self c.chosen }

  says_one : (c : BallotLog E) (to : ℕ) (m : BallotMessage E) → (LogKnown app c → MessageKnown app m) → Yields app c (sending c ((to, m) ∷ []))
  says_one c to m ok =
      says c ((to, m) ∷ []) (λ h x i. ⊎_elim (λ q. let P : ℕ × BallotMessage E → Type 0 = λ y. MessageKnown app y.1 in subst P q (ok h))
      (λ n. absurd n) i)

  to_all : (d : BallotLog E) (m : BallotMessage E) → MessageKnown app m → (x : ℕ × BallotMessage E) → In x (to_others d m) → MessageKnown app x.1
  to_all d m ok x i = let r = in_mapped (λ j. (j, m)) x (others d) i in let P : ℕ × BallotMessage E → Type 0 = λ y. MessageKnown app y.1 in subst P r.2 ok

  and_more : (c c1 c2 : BallotLog E) (ms1 ms2 : List (ℕ × BallotMessage E)) → Leaves app c.chosen c1 ms1
      → (LogKnown app c1 → Leaves app c1.chosen c2 ms2) → Leaves app c.chosen c2 (ms1 ++ ms2)
  and_more c c1 c2 ms1 ms2 a b =
      let r = b a.log in
      record { log = r.log; sends = λ m i. ⊎_elim (λ j. a.sends m j) (λ j. r.sends m j) (in_either m ms1 ms2 i); grows = front_trans a.grows r.grows }

  advance_grows : (c : BallotLog E) → Yields app c (advance c)
  unfolding advance
  advance_grows c = cond_both (nat_lt 0 (ready_as c c.role)) (advanced c (ready_as c c.role)) (dropped c) (λ (r : Stepped E). Yields app c r)
      (λ t h.
      let k = ready_as c c.role in
      let page : (e : E) → In e (take k c.tail) → In e app = λ e i. h.tail.known e (in_take k e c.tail i) in
      record {
        log =
            record {
              chosen = λ e i. ⊎_elim (λ j. h.chosen e j) (λ j. page e j) (in_either e c.chosen (take k c.tail) i);
              tail = drop_tail k c.tail h.tail;
              role = h.role;
            };
        sends = to_all c (Learn (count c + 1) (take k c.tail)) page;
        grows = front_more c.chosen (take k c.tail);
      })
      (λ t. rests c)

  start_at : (c : BallotLog E) (v : PromisedLog E) → IsTail app v.tail → Yields app c (start_by c v)
  start_at c v ok = cond_both (nat_lt (count c) v.base) (sending c ((v.site, CatchUp (count c)) ∷ [])) (begin (led c v)) (λ (r : Stepped E). Yields app c r)
      (λ t. says_one c v.site (CatchUp (count c)) (λ h. tt))
      (λ t h. and_more c (led c v) (advance (led c v)).log (to_others (led c v) (NewState c.ballot (count c) (led c v).tail)) (advance (led c v)).out.sends
      (record {
        log = record { chosen = h.chosen; tail = drop_tail (count c - v.base) v.tail ok; role = tt };
        sends = to_all (led c v) (NewState c.ballot (count c) (led c v).tail) (drop_tail (count c - v.base) v.tail ok);
        grows = front_self c.chosen;
      })
      (advance_grows (led c v)))

  start_of : (c : BallotLog E) (promises : List (PromisedLog E)) → ((v : PromisedLog E) → In v promises → IsTail app v.tail) → Yields app c (start_with c (best_of promises))
  start_of c [] ok = rests c
  start_of c (v ∷ vs) ok = start_at c (best v vs) (ok (best v vs) (best_in v vs))

  start_in : (c : BallotLog E) (r : Role E) → RoleKnown app r → Yields app c (start_with c (due c r))
  start_in c Follower ok = rests c
  start_in c (Leader acks) ok = rests c
  start_in c (Candidate promises) ok =
      cond_both (nat_lt c.f (length promises)) (best_of promises) None (λ (o : Option (PromisedLog E)). Yields app c (start_with c o)) (λ t. start_of c promises ok)
      (λ t. rests c)

  start_grows : (c : BallotLog E) → Yields app c (start c)
  unfolding start
  start_grows c h = start_in c c.role h.role h

  pub lead_grows : (c : BallotLog E) → Yields app c (lead c)
  unfolding lead
  lead_grows c =
      cond_both (nat_lt LAST (next_ballot c.f c.site c.ballot)) (dropped c)
      (before (to_others c (NewBallot (next_ballot c.f c.site c.ballot))) [] (start (collecting c (next_ballot c.f c.site c.ballot))))
      (λ (r : Stepped E). Yields app c r)
      (λ t. rests c)
      (λ t h.
      let b = next_ballot c.f c.site c.ballot in
      and_more c (collecting c b) (start (collecting c b)).log (to_others c (NewBallot b)) (start (collecting c b)).out.sends
      (record {
        log = record { chosen = h.chosen; tail = h.tail; role = λ v i. ⊎_elim (λ q. subst (λ (u : PromisedLog E). IsTail app u.tail) q h.tail) (λ n. absurd n) i };
        sends = to_all c (NewBallot b) tt;
        grows = front_self c.chosen;
      })
      (start_grows (collecting c b)))

  new_ballot_grows : (c : BallotLog E) (from b : ℕ) → Yields app c (new_ballot c from b)
  unfolding new_ballot
  new_ballot_grows c from b =
      cond_both (may_follow c from b) (sending (following c b) ((from, Promise b c.accepted (count c) c.tail) ∷ [])) (dropped c)
      (λ (r : Stepped E). Yields app c r)
      (λ t h. record {
        log = record { chosen = h.chosen; tail = h.tail; role = tt };
        sends = λ m i. ⊎_elim (λ q. let P : ℕ × BallotMessage E → Type 0 = λ y. MessageKnown app y.1 in subst P q h.tail) (λ n. absurd n) i;
        grows = front_self c.chosen;
      })
      (λ t. rests c)

  promise_role : (r : Role E) (v : PromisedLog E) → RoleKnown app r → IsTail app v.tail → RoleKnown app (with_promise r v)
  promise_role Follower v h ok = tt
  promise_role (Leader acks) v h ok = tt
  promise_role (Candidate promises) v h ok = in_push (λ u. IsTail app u.tail) promises v h ok

  promise_grows : (c : BallotLog E) (b : ℕ) (v : PromisedLog E) → IsTail app v.tail → Yields app c (promise c b v)
  unfolding promise
  promise_grows c b v ok = cond_both (may_promise c v.site b c.role) (start (recorded c v)) (dropped c) (λ (r : Stepped E). Yields app c r)
      (λ t h. and_more c (recorded c v) (start (recorded c v)).log [] (start (recorded c v)).out.sends
      (record { log = record { chosen = h.chosen; tail = h.tail; role = promise_role c.role v h.role ok }; sends = λ m i. absurd i; grows = front_self c.chosen })
      (start_grows (recorded c v)))
      (λ t. rests c)

  restated_known : (c : BallotLog E) (b base : ℕ) (tail : List E) → IsTail app tail → LogKnown app c → LogKnown app (restated c b base tail)
  restated_known c b base tail ok h = cond_both (nat_lt c.accepted b) (record c { tail = drop (count c - base) tail; accepted = b }) c (LogKnown app)
      (λ t. record { chosen = h.chosen; tail = drop_tail (count c - base) tail ok; role = h.role })
      (λ t. h)

  restated_chosen : (c : BallotLog E) (b base : ℕ) (tail : List E) → IsPrefix c.chosen (restated c b base tail).chosen
  restated_chosen c b base tail =
      cond_both (nat_lt c.accepted b) (record c { tail = drop (count c - base) tail; accepted = b }) c
      (λ (d : BallotLog E). IsPrefix c.chosen d.chosen) (λ t. front_self c.chosen) (λ t. front_self c.chosen)

  state_grows : (c : BallotLog E) (from b base : ℕ) (tail : List E) → IsTail app tail → Yields app c (state_in c from b base tail)
  state_grows c from b base tail ok =
      cond_both (nat_lt (count c) base) (sending c ((from, CatchUp (count c)) ∷ [])) (acknowledging (restated c b base tail) from b)
      (λ (r : Stepped E). Yields app c r)
      (λ t. says_one c from (CatchUp (count c)) (λ h. tt))
      (λ t h. record {
        log = restated_known c b base tail ok h;
        sends = λ m i. ⊎_elim (λ q. let P : ℕ × BallotMessage E → Type 0 = λ y. MessageKnown app y.1 in subst P q tt) (λ n. absurd n) i;
        grows = restated_chosen c b base tail;
      })

  new_state_grows : (c : BallotLog E) (from b base : ℕ) (tail : List E) → IsTail app tail → Yields app c (new_state c from b base tail)
  unfolding new_state
  new_state_grows c from b base tail ok =
      cond_both (may_follow c from b) (state_in (following c b) from b base tail) (dropped c) (λ (r : Stepped E). Yields app c r)
      (λ t h. state_grows (following c b) from b base tail ok (record { chosen = h.chosen; tail = h.tail; role = tt }))
      (λ t. rests c)

  join_known : (c : BallotLog E) (e : E) → In e app → nat_lt (length c.tail) WINDOW ≡ true → LogKnown app c → LogKnown app (joined c e)
  join_known c e i t h = record {
    chosen = h.chosen;
    tail =
        record {
          short = (let x = ltb-true (length c.tail) WINDOW t in omega (arith, length-append c.tail (e ∷ [])));
          known = in_push (λ y. In y app) c.tail e h.tail.known i;
        };
    role = h.role;
  }

  tell_grows : (c : BallotLog E) (from b slot : ℕ) → Yields app c (tell_accepted c from b slot)
  tell_grows c from b slot =
      cond_both (nat_le slot (held c)) (acknowledging c from b) (dropped c) (λ (r : Stepped E). Yields app c r)
      (λ t. says_one c from (Accepted b (held c)) (λ h. tt)) (λ t. rests c)

  accept_grows : (c : BallotLog E) (from b slot : ℕ) (e : E) → In e app → Yields app c (accept c from b slot e)
  unfolding accept
  accept_grows c from b slot e i =
      cond_both (may_accept c from b) (tell_accepted (accept_in c slot e) from b slot) (dropped c) (λ (r : Stepped E). Yields app c r)
      (λ t. cond_both ((slot == held c + 1) && nat_lt (length c.tail) WINDOW) (joined c e) c (λ (d : BallotLog E). Yields app c (tell_accepted d from b slot))
      (λ u h. and_more c (joined c e) (tell_accepted (joined c e) from b slot).log [] (tell_accepted (joined c e) from b slot).out.sends
      (record {
        log = join_known c e i (and_parts (slot == held c + 1) (nat_lt (length c.tail) WINDOW) u).1 h;
        sends = λ m j. absurd j;
        grows = front_self c.chosen;
      })
      (tell_grows (joined c e) from b slot))
      (λ u. tell_grows c from b slot))
      (λ t. rests c)

  ack_role : (r : Role E) (from n : ℕ) → RoleKnown app r → RoleKnown app (with_ack r from n)
  ack_role Follower from n h = tt
  ack_role (Candidate promises) from n h = h
  ack_role (Leader acks) from n h = tt

  accepted_grows : (c : BallotLog E) (from b n : ℕ) → Yields app c (accepted c from b n)
  unfolding accepted
  accepted_grows c from b n = cond_both (may_hear c b n) (advance (heard c from n)) (dropped c) (λ (r : Stepped E). Yields app c r)
      (λ t h. advance_grows (heard c from n) (record { chosen = h.chosen; tail = h.tail; role = ack_role c.role from n h.role }))
      (λ t. rests c)

  catch_up_grows : (c : BallotLog E) (from n : ℕ) → Yields app c (catch_up c from n)
  unfolding catch_up
  catch_up_grows c from n =
      cond_both (nat_lt n (count c)) (sending c ((from, Learn (n + 1) (take WINDOW (drop n c.chosen))) ∷ [])) (dropped c)
      (λ (r : Stepped E). Yields app c r)
      (λ t. says_one c from (Learn (n + 1) (take WINDOW (drop n c.chosen))) (λ h e i. h.chosen e (in_drop n e c.chosen (in_take WINDOW e (drop n c.chosen) i))))
      (λ t. rests c)

  trimmed_tail : (eq : E → E → Bool) (t es : List E) → IsTail app t → IsTail app (trimmed eq t es)
  trimmed_tail eq t es h = cond_both (starts_with eq t es) (drop (length es) t) [] (IsTail app) (λ q. drop_tail (length es) t h) (λ q. no_tail)

  learn_grows : (eq : E → E → Bool) (c : BallotLog E) (first : ℕ) (es : List E) → ((e : E) → In e es → In e app) → Yields app c (learn eq c first es)
  unfolding learn
  learn_grows eq c first es ok = cond_both (may_learn c first es) (learn_from eq c (drop (known c first) es)) (dropped c) (λ (r : Stepped E). Yields app c r)
      (λ t h.
      let more = drop (known c first) es in
      and_more c (learnt eq c more) (start (learnt eq c more)).log [] (start (learnt eq c more)).out.sends
      (record {
        log =
            record {
              chosen = λ e i. ⊎_elim (λ j. h.chosen e j) (λ j. ok e (in_drop (known c first) e es j)) (in_either e c.chosen more i);
              tail = trimmed_tail eq c.tail more h.tail;
              role = h.role;
            };
        sends = λ m i. absurd i;
        grows = front_more c.chosen more;
      })
      (start_grows (learnt eq c more)))
      (λ t. rests c)

  pub take_grows : (eq : E → E → Bool) (c : BallotLog E) (from : ℕ) (m : BallotMessage E) → MessageKnown app m → Yields app c (take_message eq c from m)
  unfolding take_message
  take_grows eq c from (NewBallot b) ok = new_ballot_grows c from b
  take_grows eq c from (Promise b accepted base tail) ok = promise_grows c b (record { site = from; accepted = accepted; base = base; tail = tail }) ok
  take_grows eq c from (NewState b base tail) ok = new_state_grows c from b base tail ok
  take_grows eq c from (Accept b slot e) ok = accept_grows c from b slot e ok
  take_grows eq c from (Accepted b n) ok = accepted_grows c from b n
  take_grows eq c from (CatchUp n) ok = catch_up_grows c from n
  take_grows eq c from (Learn first es) ok = learn_grows eq c first es ok

  accepts_known : (j b slot : ℕ) (es : List E) → ((e : E) → In e es → In e app) → (x : ℕ × BallotMessage E) → In x (accepts j b slot es) → MessageKnown app x.1
  accepts_known j b slot [] ok x i = absurd i
  accepts_known j b slot (e ∷ es) ok x (inl q) = let P : ℕ × BallotMessage E → Type 0 = λ y. MessageKnown app y.1 in subst P q (ok e (inl refl))
  accepts_known j b slot (e ∷ es) ok x (inr i) = accepts_known j b (slot + 1) es (λ d k. ok d (inr k)) x i

  repeated_known : (c : BallotLog E) → LogKnown app c → (j : ℕ) (o : Option ℕ) (x : ℕ × BallotMessage E) → In x (repeated c j o) → MessageKnown app x.1
  repeated_known c h j None x i = ⊎_elim (λ q. let P : ℕ × BallotMessage E → Type 0 = λ y. MessageKnown app y.1 in subst P q h.tail) (λ n. absurd n) i
  repeated_known c h j (Some n) x i =
      accepts_known j c.ballot (max n (count c) + 1) (drop (max n (count c) - count c) c.tail)
      (λ e k. h.tail.known e (in_drop (max n (count c) - count c) e c.tail k)) x i

  repeats_known : (c : BallotLog E) → LogKnown app c → (r : Role E) (x : ℕ × BallotMessage E) → In x (repeats c r) → MessageKnown app x.1
  repeats_known c h Follower x i = absurd i
  repeats_known c h (Candidate promises) x i =
      cond_both (nat_lt c.f (length promises)) [] (map (λ j. (j, NewBallot c.ballot)) (missing c promises)) (λ l. In x l → MessageKnown app x.1)
      (λ t n. absurd n)
      (λ t k. let r = in_mapped (λ j. (j, NewBallot c.ballot)) x (missing c promises) k in let P : ℕ × BallotMessage E → Type 0 = λ y. MessageKnown app
      y.1 in subst P r.2 tt)
      i
  repeats_known c h (Leader acks) x i = let r = in_gathered (λ j. repeated c j (ack_of acks j)) x (others c) i in repeated_known c h r.0 (ack_of acks r.0) x r.2

  pub tick_grows : (c : BallotLog E) → Yields app c (tick c)
  unfolding tick
  tick_grows c =
      says c (to_others c (CatchUp (count c)) ++ repeats c c.role)
      (λ h x i. ⊎_elim (λ a. to_all c (CatchUp (count c)) tt x a) (λ a. repeats_known c h c.role x a)
      (in_either x (to_others c (CatchUp (count c))) (repeats c c.role) i))

  pub append_grows : (c : BallotLog E) (e : E) → In e app → Yields app c (append c e)
  unfolding append
  append_grows c e i = cond_both (may_append c) (put_in c e) (dropped c) (λ (r : Stepped E). Yields app c r)
      (λ t h. and_more c (joined c e) (advance (joined c e)).log (to_others c (Accept c.ballot (held c + 1) e)) (advance (joined c e)).out.sends
      (record {
        log = join_known c e i (and_parts _ (nat_lt (length c.tail) WINDOW) t).1 h;
        sends = to_all c (Accept c.ballot (held c + 1) e) i;
        grows = front_self c.chosen;
      })
      (advance_grows (joined c e)))
      (λ t. rests c)

-- MORE ENTRIES are appended
module _ {E : Type 0} (app : List E) (e : E) where
  tail_more : (t : List E) → IsTail app t → IsTail (app ++ e ∷ []) t
  tail_more t h = record { short = h.short; known = λ x i. in_front x app (e ∷ []) (h.known x i) }

  message_more : (m : BallotMessage E) → MessageKnown app m → MessageKnown (app ++ e ∷ []) m
  message_more (NewBallot b) h = tt
  message_more (Promise b accepted base tail) h = tail_more tail h
  message_more (NewState b base tail) h = tail_more tail h
  message_more (Accept b slot x) h = in_front x app (e ∷ []) h
  message_more (Accepted b n) h = tt
  message_more (CatchUp n) h = tt
  message_more (Learn first es) h = λ x i. in_front x app (e ∷ []) (h x i)

  role_more : (r : Role E) → RoleKnown app r → RoleKnown (app ++ e ∷ []) r
  role_more Follower h = tt
  role_more (Candidate promises) h = λ v i. tail_more v.tail (h v i)
  role_more (Leader acks) h = tt

  log_more : (c : BallotLog E) → LogKnown app c → LogKnown (app ++ e ∷ []) c
  log_more c h = record { chosen = λ x i. in_front x app (e ∷ []) (h.chosen x i); tail = tail_more c.tail h.tail; role = role_more c.role h.role }

-- THE WORLD
pub record WorldKnown {E : Type 0} (app : List E) (at : ℕ → BallotLog E) (ms : List (Sent E)) : Type 0 where
  pub logs : (s : ℕ) → LogKnown app (at s)
  pub sent : (x : Sent E) → In x ms → MessageKnown app x.message

abbrev pub Known : {E : Type 0} → World E → Type 0
Known w = WorldKnown w.appended w.at w.sent

-- what an event leaves: known entries and longer chosen lists
pub record Goes {E : Type 0} (w w' : World E) : Type 0 where
  pub known : Known w'
  pub longer : (s : ℕ) → IsPrefix (chosen_at w s) (chosen_at w' s)

module _ {E : Type 0} where
  stays : (w : World E) → Known w → Goes w w
  stays w h = record { known = h; longer = λ s. front_self (chosen_at w s) }

  stepped_known : (app : List E) (at : ℕ → BallotLog E) (sent : List (Sent E)) (s : ℕ) (r : Stepped E) → WorldKnown app at sent
      → Leaves app (at s).chosen r.log r.out.sends → WorldKnown app (put at s r.log) (sent ++ sent_by s r.out.sends)
  stepped_known app at sent s r h l = record {
    logs = at_each (λ j c. LogKnown app c) at s r.log (λ j n. h.logs j) l.log;
    sent =
        λ x i. ⊎_elim (λ j. h.sent x j) (λ j. let m = in_mapped (λ m. record { from = s; to = m.0; message = m.1 }) x r.out.sends j in subst
        (λ (y : Sent E). MessageKnown app y.message) m.2 (l.sends m.0 m.1)) (in_either x sent (sent_by s r.out.sends) i);
  }

  stepped_longer : (at : ℕ → BallotLog E) (s : ℕ) (c : BallotLog E) → IsPrefix (at s).chosen c.chosen → (j : ℕ) → IsPrefix (at j).chosen (put at s c j).chosen
  stepped_longer at s c h = at_each (λ j d. IsPrefix (at j).chosen d.chosen) at s c (λ j n. front_self (at j).chosen) h

  steps_goes : (f : ℕ) (w : World E) (s : ℕ) (r : Stepped E) → Known w → Yields w.appended (w.at s) r → Goes w (steps f w s r)
  steps_goes f w s r h y = cond_both (acts f w s) (stepped w s r) w (Goes w)
      (λ t. let l = y (h.logs s) in record { known = stepped_known w.appended w.at w.sent s r h l; longer = stepped_longer w.at s r.log l.grows })
      (λ t. stays w h)

  world_step_goes : (eq : E → E → Bool) (f : ℕ) (w : World E) (x : WorldEvent E) → Known w → Goes w (world_step eq f w x)
  unfolding world_step
  world_step_goes eq f w (Lead s) h = steps_goes f w s (lead (w.at s)) h (lead_grows w.appended (w.at s))
  world_step_goes eq f w (Tick s) h = steps_goes f w s (tick (w.at s)) h (tick_grows w.appended (w.at s))
  world_step_goes eq f w (Crash s) h = record { known = h; longer = λ s. front_self (chosen_at w s) }
  world_step_goes eq f w (Append s e) h =
      cond_both (acts f w s && may_append (w.at s)) (record (stepped w s (append (w.at s) e)) { appended = w.appended ++ e ∷ [] }) w (Goes w)
      (λ t.
      let app = w.appended ++ e ∷ [] in
      let k : WorldKnown app w.at w.sent =
      record { logs = λ j. log_more w.appended e (w.at j) (h.logs j); sent = λ y i. message_more w.appended e y.message (h.sent y i) } in
      let l = append_grows app (w.at s) e (in_back e w.appended (e ∷ []) (inl refl)) (k.logs s) in
      record { known = stepped_known app w.at w.sent s (append (w.at s) e) k l; longer = stepped_longer w.at s (append (w.at s) e).log l.grows })
      (λ t. stays w h)
  world_step_goes eq f w (Deliver k) h = on (slice_get w.sent k) refl
    where
      on : (o : Option (Sent E)) → slice_get w.sent k ≡ o → Goes w (deliver_packet eq f w o)
      on None e = stays w h
      on (Some x) e =
          steps_goes f w x.to (take_message eq (w.at x.to) x.from x.message) h
          (take_grows w.appended eq (w.at x.to) x.from x.message (h.sent x (in_got w.sent k x e)))

  pub run_goes : (eq : E → E → Bool) (f : ℕ) (hs : List (WorldEvent E)) (w : World E) → Known w → Goes w (run eq f hs w)
  run_goes eq f [] w h = stays w h
  run_goes eq f (x ∷ hs) w h =
      let a = world_step_goes eq f w x h in
      let b = run_goes eq f hs (world_step eq f w x) a.known in
      record { known = b.known; longer = λ s. front_trans (a.longer s) (b.longer s) }

  pub run_both : (eq : E → E → Bool) (f : ℕ) (hs more : List (WorldEvent E)) (w : World E) → run eq f (hs ++ more) w ≡ run eq f more (run eq f hs w)
  run_both eq f [] more w = refl
  run_both eq f (x ∷ hs) more w = run_both eq f hs more (world_step eq f w x)

opening_role : (E : Type 0) (s : ℕ) → RoleKnown {E = E} [] (if s == 1 then Leader first_acks else Follower)
opening_role E s = cond_both (s == 1) (Leader first_acks) Follower (RoleKnown {E = E} []) (λ t. tt) (λ t. tt)

pub opening_known : (E : Type 0) (f : ℕ) → Known {E = E} (opening_world f)
opening_known E f = record { logs = λ s. record { chosen = λ e i. absurd i; tail = no_tail []; role = opening_role E s }; sent = λ x i. absurd i }
