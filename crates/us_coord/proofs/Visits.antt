-- The turn of one session, where the rule changes nothing at the others.
use Rattle.std.proofs.Common.{◌≡◌, ℕ, zero, suc, ◌+◌, ◌<◌, ◌≤◌, List, [], ◌∷◌, ◌++◌, length, get_or, Bool, true, false, refl, sym, ap, ◌∙◌, arith}
use Rattle.std.proofs.Common.{subst}
use Rattle.std.specs.Prelude.{cond, not, nat_lt, slice_set, remove}
use Rattle.std.specs.List.{AllWithin}
use Rattle.std.specs.List.Sorted.{IsPartitionedBy}
use Rattle.std.proofs.lemmas.Bool.{ltb-true, ltb-false, lt-ltb}
use Rattle.std.proofs.lemmas.List.{get_or_default}
use Rattle.us_model.specs.declared.coordinator.Session.{Session}
use Rattle.us_model.specs.declared.coordinator.Context.{Context}
use Rattle.us_model.specs.declared.coordinator.View.{View}
use Rattle.us_model.specs.declared.event.Outputs.{Outputs}
use Rattle.us_model.specs.State.{Coordinator}
use Rattle.us_model.specs.Sessions.{SessionStep}
use Rattle.us_model.specs.Coordinators.{each_session, and_rest, in_front, remembered, is_over, new_session}
use Rattle.us_model.specs.Coordinators.{context_of, with_sessions, each_acts}
use Rattle.us_coord.specs.Order.{InOrder, StandsAt, Absent, Concerns, put_back}

-- THE LIST STAYS IN ORDER
pub in_order_weaken : (low low' high : ℕ) (ss : List Session) → low' ≤ low → InOrder low ss high → InOrder low' ss high
in_order_weaken low low' high [] le h = omega arith
in_order_weaken low low' high (s ∷ ss) le h = (omega (arith, h.0), h.1)

pub in_order_set : (low high : ℕ) (ss : List Session) (i : ℕ) (s : Session) → StandsAt s.number ss i → is_over s ≡ false → InOrder low ss high
    → InOrder low (slice_set ss i s) high
in_order_set low high [] i s at left h = absurd (omega (arith, at.0))
in_order_set low high (x ∷ ss) zero s at left h =
    let same = at.1 s in
    (subst (λ n. low < n) same h.0, (left, subst (λ n. InOrder n ss high) same h.1.1))
in_order_set low high (x ∷ ss) (suc i) s at left h = (h.0, (h.1.0, in_order_set x.number high ss i s (omega (arith, at.0), at.1) left h.1.1))

pub in_order_remove : (low high : ℕ) (ss : List Session) (i : ℕ) → InOrder low ss high → InOrder low (remove ss i) high
in_order_remove low high [] zero h = h
in_order_remove low high [] (suc i) h = h
in_order_remove low high (x ∷ ss) zero h = in_order_weaken x.number low high ss (omega (arith, h.0)) h.1.1
in_order_remove low high (x ∷ ss) (suc i) h = (h.0, (h.1.0, in_order_remove x.number high ss i h.1.1))

pub in_order_put_back : (low high : ℕ) (ss : List Session) (i : ℕ) (s : Session) → StandsAt s.number ss i → InOrder low ss high
    → InOrder low (put_back ss i s) high
in_order_put_back low high ss i s at h = on (is_over s) refl
  where
    on : (b : Bool) → is_over s ≡ b → InOrder low (cond b (remove ss i) (slice_set ss i s)) high
    on true e = in_order_remove low high ss i h
    on false e = in_order_set low high ss i s at e h

pub in_order_push : (low high : ℕ) (ss : List Session) → InOrder low ss high → InOrder low (ss ++ new_session (high + 1) ∷ []) (high + 1)
in_order_push low high [] h = (omega (arith, h), (refl, omega arith))
in_order_push low high (s ∷ ss) h = (h.0, (h.1.0, in_order_push s.number high ss h.1.1))

-- those that are left after the turns of all
pub in_order_each : (f : Context → Session → SessionStep) → ((d : Context) (s : Session) → (f d s).session.number ≡ s.number) → (low high : ℕ) (d : Context)
    (ss : List Session)
    → InOrder low ss high
    → InOrder low (remembered (each_session f d ss).sessions) high
in_order_each f same low high d [] h = h
in_order_each f same low high d (s ∷ ss) h = on (is_over (f d s).session) refl (in_order_each f same s.number high (f d s).context ss h.1.1)
  where
    rest : List Session
    rest = remembered (each_session f (f d s).context ss).sessions

    on : (b : Bool) → is_over (f d s).session ≡ b → InOrder s.number rest high → InOrder low (cond (not b) ((f d s).session ∷ rest) rest) high
    on true e kept = in_order_weaken s.number low high rest (omega (arith, h.0)) kept
    on false e kept = (subst (λ n. low < n) (sym (same d s)) h.0, (e, subst (λ n. InOrder n rest high) (sym (same d s)) kept))

-- NONE IS FORGOTTEN
pub remembered_same : (low high : ℕ) (ss : List Session) → InOrder low ss high → remembered ss ≡ ss
remembered_same low high [] h = refl
remembered_same low high (s ∷ ss) h =
    ap (λ b. cond (not b) (s ∷ remembered ss) (remembered ss)) h.1.0 ∙ ap (λ r. s ∷ r) (remembered_same s.number high ss h.1.1)

-- but for the one that had its turn
pub remembered_set : (low high : ℕ) (ss : List Session) (i : ℕ) (s : Session) → i < length ss → InOrder low ss high
    → remembered (slice_set ss i s) ≡ put_back ss i s
remembered_set low high [] i s less h = absurd (omega (arith, less))
remembered_set low high (x ∷ ss) zero s less h = on (is_over s)
  where
    on : (b : Bool) → cond (not b) (s ∷ remembered ss) (remembered ss) ≡ cond b ss (s ∷ ss)
    on true = remembered_same x.number high ss h.1.1
    on false = ap (λ r. s ∷ r) (remembered_same x.number high ss h.1.1)
remembered_set low high (x ∷ ss) (suc i) s less h =
    ap (λ b. cond (not b) (x ∷ remembered (slice_set ss i s)) (remembered (slice_set ss i s))) h.1.0
    ∙ ap (λ r. x ∷ r) (remembered_set x.number high ss i s (omega (arith, less)) h.1.1)
    ∙ on (is_over s)
  where
    on : (b : Bool) → x ∷ cond b (remove ss i) (slice_set ss i s) ≡ cond b (x ∷ remove ss i) (x ∷ slice_set ss i s)
    on true = refl
    on false = refl

-- WHOSE NUMBER IT ISN'T
pub above_absent : (low high n : ℕ) (ss : List Session) → n ≤ low → InOrder low ss high → Absent n ss
above_absent low high n [] le h = tt
above_absent low high n (s ∷ ss) le h = (λ e. omega (arith, e, h.0, le), above_absent s.number high n ss (omega (arith, h.0, le)) h.1.1)

-- the sessions before the place have smaller numbers, those from it on don't, and the one there hasn't this one
pub absent_at : (low high n : ℕ) (ss : List Session) (i : ℕ) → InOrder low ss high → AllWithin (λ s. nat_lt s.number n ≡ true) ss 0 i
    → AllWithin (λ s. nat_lt s.number n ≡ false) ss i (length ss)
    → ((d : Session) → i < length ss → (get_or ss i d).number ≡ n → ⊥)
    → Absent n ss
absent_at low high n [] i h front back other = tt
absent_at low high n (s ∷ ss) zero h front back other =
    let at_least = back 0 s (omega arith) (omega arith) in
    let no = other s (omega arith) in
    let above : n ≤ s.number = ltb-false _ _ at_least in
    (no, above_absent s.number high n ss above h.1.1)
absent_at low high n (s ∷ ss) (suc i) h front back other =
    let below = front 0 s (omega arith) (omega arith) in
    let less : s.number < n = ltb-true _ _ below in (
      λ e. omega (arith, e, less),
      absent_at s.number high n ss i h.1.1 (λ k d low' high'. front (suc k) d (omega arith) (omega arith))
          (λ k d low' high'. back (suc k) d (omega arith) (omega arith)) (λ d less'. other d (omega (arith, less'))),
    )

-- NOTHING CHANGES WHERE NO SESSION HAS THE NUMBER
pub absent_each : (f : Context → Session → SessionStep) (d : Context) (n : ℕ) (ss : List Session) → Absent n ss → Concerns f n ss
    → each_session f d ss ≡ record { context = d; sessions = ss }
absent_each f d n [] absent h = refl
absent_each f d n (s ∷ ss) absent h =
    ap (λ (a : SessionStep). and_rest a (λ d'. each_session f d' ss)) (h.0 absent.0 d) ∙ ap (in_front s) (absent_each f d n ss absent.1 h.1)

number_above : (low high : ℕ) (ss : List Session) (i : ℕ) (d : Session) → i < length ss → InOrder low ss high → low < (get_or ss i d).number
number_above low high [] i d less h = absurd (omega (arith, less))
number_above low high (s ∷ ss) zero d less h = h.0
number_above low high (s ∷ ss) (suc i) d less h =
    let more = number_above s.number high ss i d (omega (arith, less)) h.1.1 in
    omega (arith, more, h.0)

-- those with smaller numbers stand first
pub in_order_parted : (low high n : ℕ) (ss : List Session) → InOrder low ss high → IsPartitionedBy (λ s. nat_lt s.number n) ss
in_order_parted low high n ss h i j d le less pass = at low ss i j le less h pass
  where
    at : (low : ℕ) (ss : List Session) (i j : ℕ) → i ≤ j → j < length ss → InOrder low ss high → nat_lt (get_or ss j d).number n ≡ true
        → nat_lt (get_or ss i d).number n ≡ true
    at low [] i j le less h pass = absurd (omega (arith, less))
    at low (s ∷ ss) zero zero le less h pass = pass
    at low (s ∷ ss) zero (suc j) le less h pass =
        let more = number_above s.number high ss j d (omega (arith, less)) h.1.1 in
        let below = ltb-true _ _ pass in
        lt-ltb _ _ (omega (arith, more, below))
    at low (s ∷ ss) (suc i) zero le less h pass = absurd (omega (arith, le))
    at low (s ∷ ss) (suc i) (suc j) le less h pass = at s.number ss i j (omega (arith, le)) (omega (arith, less)) h.1.1 pass

-- ELSE ONLY THAT SESSION HAS ITS TURN
pub each_at : (f : Context → Session → SessionStep) (d : Context) (n low high : ℕ) (ss : List Session) (i : ℕ) (s : Session) → StandsAt n ss i
    → s ≡ get_or ss i s
    → InOrder low ss high
    → Concerns f n ss
    → each_session f d ss ≡ record { context = (f d s).context; sessions = slice_set ss i (f d s).session }
each_at f d n low high [] i s at is h quiet = absurd (omega (arith, at.0))
each_at f d n low high (x ∷ ss) zero s at is h quiet =
    let absent = above_absent x.number high n ss (omega (arith, at.1 x)) h.1.1 in
    ap (in_front (f d x).session) (absent_each f (f d x).context n ss absent quiet.1)
    ∙ ap (λ (y : Session). record { context = (f d y).context; sessions = (f d y).session ∷ ss }) (sym is)
each_at f d n low high (x ∷ ss) (suc i) s at is h quiet =
    let more = number_above x.number high ss i x (omega (arith, at.0)) h.1.1 in
    let other : x.number ≡ n → ⊥ = λ e. omega (arith, e, more, at.1 x) in
    ap (λ (a : SessionStep). and_rest a (λ d'. each_session f d' ss)) (quiet.0 other d)
    ∙ ap (in_front x) (each_at f d n x.number high ss i s (omega (arith, at.0), at.1) is h.1.1 quiet.1)

-- THE COORDINATOR AFTER IT
pub absent_acts : (f : Context → Session → SessionStep) (v : View) (c : Coordinator) (out : Outputs) (n low high : ℕ) → InOrder low c.sessions high
    → Absent n c.sessions
    → Concerns f n c.sessions
    → each_acts f v c out ≡ record { coordinator = c; out = out }
absent_acts f v c out n low high h absent quiet =
    ap (with_sessions c) (absent_each f (context_of v c out) n c.sessions absent quiet)
    ∙ ap (λ ss. record { coordinator = record c { sessions = ss }; out = out }) (remembered_same low high c.sessions h)

pub present_acts : (f : Context → Session → SessionStep) (v : View) (c : Coordinator) (out : Outputs) (n low high i : ℕ) (s : Session)
    → InOrder low c.sessions high
    → StandsAt n c.sessions i
    → s ≡ get_or c.sessions i s
    → Concerns f n c.sessions
    → each_acts f v c out ≡ record {
      coordinator = record c { seq = (f (context_of v c out) s).context.seq; sessions = put_back c.sessions i (f (context_of v c out) s).session };
      out = (f (context_of v c out) s).context.out;
    }
present_acts f v c out n low high i s h at is quiet =
    let d = context_of v c out in
    ap (with_sessions c) (each_at f d n low high c.sessions i s at is h quiet)
    ∙ ap (λ ss. record { coordinator = record c { seq = (f d s).context.seq; sessions = ss }; out = (f d s).context.out })
    (remembered_set low high c.sessions i (f d s).session at.0 h)

-- what the turn of the session at a place gives out, and the sessions after it
pub record TurnAt (f : Context → Session → SessionStep) (d : Context) (ss : List Session) (i : ℕ) (d' : Context) (ss' : List Session) : Type 0 where
  pub context : (s : Session) → s ≡ get_or ss i s → d' ≡ (f d s).context
  pub sessions : (s : Session) → s ≡ get_or ss i s → ss' ≡ put_back ss i (f d s).session

pub turn_acts : (f : Context → Session → SessionStep) (v : View) (c : Coordinator) (out : Outputs) (n i : ℕ) (d' : Context) (ss' : List Session)
    → InOrder 0 c.sessions c.opens
    → StandsAt n c.sessions i
    → Concerns f n c.sessions
    → TurnAt f (context_of v c out) c.sessions i d' ss'
    → record { coordinator = record c { seq = d'.seq; sessions = ss' }; out = d'.out } ≡ each_acts f v c out
turn_acts f v c out n i d' ss' h at quiet turn =
    let s = get_or c.sessions i (new_session 0) in
    let is : s ≡ get_or c.sessions i s = get_or_default c.sessions i (new_session 0) s at.0 in
    let context = turn.context s is in
    let sessions = turn.sessions s is in
    (λ j. record { coordinator = record c { seq = (context j).seq; sessions = sessions j }; out = (context j).out })
    ∙ sym (present_acts f v c out n 0 c.opens i s h at is quiet)

pub turn_in_order : (f : Context → Session → SessionStep) → ((d : Context) (s : Session) → (f d s).session.number ≡ s.number) → (high n i : ℕ) (d d' : Context)
    (ss ss' : List Session)
    → InOrder 0 ss high
    → StandsAt n ss i
    → TurnAt f d ss i d' ss'
    → InOrder 0 ss' high
turn_in_order f same high n i d d' ss ss' h at turn =
    let s = get_or ss i (new_session 0) in
    let is : s ≡ get_or ss i s = get_or_default ss i (new_session 0) s at.0 in
    let number : n ≡ (f d s).session.number = sym (at.1 (new_session 0)) ∙ sym (same d s) in
    subst (λ xs. InOrder 0 xs high) (sym (turn.sessions s is))
    (in_order_put_back 0 high ss i (f d s).session (subst (λ m. StandsAt m ss i) number at) h)

-- the same of a coordinator that is known by what is inside it
pub given_acts : (f : Context → Session → SessionStep) (v : View) (k c : Coordinator) (out : Outputs) (n i : ℕ) (d d' : Context) (ss ss' : List Session)
    → k ≡ c
    → InOrder 0 k.sessions k.opens
    → StandsAt n c.sessions i
    → Concerns f n c.sessions
    → d ≡ context_of v k out
    → ss ≡ k.sessions
    → TurnAt f d ss i d' ss'
    → record { coordinator = record k { seq = d'.seq; sessions = ss' }; out = d'.out } ≡ each_acts f v c out
given_acts f v k c out n i d d' ss ss' inside h at quiet of_view taken turn =
    let at' = subst (λ (x : Coordinator). StandsAt n x.sessions i) (sym inside) at in
    let quiet' = subst (λ (x : Coordinator). Concerns f n x.sessions) (sym inside) quiet in
    let here = subst (λ (x : Context). TurnAt f x ss i d' ss') of_view turn in
    let there = subst (λ xs. TurnAt f (context_of v k out) xs i d' ss') taken here in
    turn_acts f v k out n i d' ss' h at' quiet' there ∙ ap (λ (x : Coordinator). each_acts f v x out) inside
