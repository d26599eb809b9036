-- Each session is found by the transaction that it runs, as turns change what one of them runs.
use Rattle.std.proofs.Common.{◌≡◌, ℕ, zero, suc, ◌<◌, ◌≤◌, List, [], ◌∷◌, ◌++◌, length, get_or, Bool, true, false, ◌⊎◌, inl, inr, arith}
use Rattle.std.proofs.Common.{refl, ◌∙◌, sym, ap, subst}
use Rattle.std.specs.Prelude.{Option, Some, None, cond, nat_eq, not, ◌==◌, slice_set, remove}
use Rattle.std.specs.Option.{option_eq}
use Rattle.std.proofs.lemmas.Bool.{eq-eqb, eqb-true, ne_eqb}
use Rattle.std.proofs.lemmas.List.{get_or_default}
use Rattle.us_kind.specs.Updates.{All}
use Rattle.us_model.specs.declared.coordinator.Session.{Session}
use Rattle.us_model.specs.declared.coordinator.Context.{Context}
use Rattle.us_model.specs.Sessions.{SessionStep, stays}
use Rattle.us_model.specs.Coordinators.{remembered, is_over, new_session}
use Rattle.us_coord.specs.Order.{InOrder, put_back}
use Rattle.us_coord.specs.Table.{runs, IsFound, AreFound, without, with_one, moved_on, Ascends}
use Rattle.us_coord.proofs.Moves.{Moves, Goes}
use Rattle.us_coord.proofs.Idle.{all_map, all_push, all_remove}

-- WHAT IS FOUND BY A TRANSACTION
without_other : (was : Option ℕ) (found : ℕ → ℕ) (q : ℕ) → (was ≡ Some q → ⊥) → without was found q ≡ found q
without_other None found q other = refl
without_other (Some p) found q other = ap (λ b. cond b 0 (found q)) (ne_eqb p q (λ e. other (ap (λ n. Some n) e)))

with_other : (number : ℕ) (now : Option ℕ) (found : ℕ → ℕ) (q : ℕ) → (now ≡ Some q → ⊥) → with_one number now found q ≡ found q
with_other number None found q other = refl
with_other number (Some p) found q other = ap (λ b. cond b number (found q)) (ne_eqb p q (λ e. other (ap (λ n. Some n) e)))

-- what another session runs
moved_other : (number : ℕ) (was now : Option ℕ) (found : ℕ → ℕ) (q : ℕ) → (was ≡ Some q → ⊥) → (now ≡ Some q → ⊥)
    → moved_on number was now found q ≡ found q
moved_other number was now found q other other' = on (option_eq nat_eq was now)
  where
    on : (b : Bool) → cond b (found q) (with_one number now (without was found) q) ≡ found q
    on true = refl
    on false = with_other number now (without was found) q other' ∙ without_other was found q other

-- what the session runs now
moved_here : (number : ℕ) (was : Option ℕ) (found : ℕ → ℕ) (q : ℕ) → (was ≡ Some q → found q ≡ number) → moved_on number was (Some q) found q ≡ number
moved_here number None found q before = ap (λ b. cond b number (found q)) (eq-eqb q q refl)
moved_here number (Some p) found q before = on (p == q) refl
  where
    on : (b : Bool) → (p == q) ≡ b → cond b (found q) (with_one number (Some q) (without (Some p) found) q) ≡ number
    on true e = before (ap (λ n. Some n) (eqb-true p q e))
    on false e = ap (λ b. cond b number (without (Some p) found q)) (eq-eqb q q refl)

-- ONE SESSION
-- the one that had its turn
found_here : (found found' : ℕ → ℕ) (seq seq' : ℕ) (s s' : Session) → IsFound found seq s → Moves seq (runs s) seq' (runs s') → s'.number ≡ s.number
    → ((q : ℕ) → found' q ≡ moved_on s.number (runs s) (runs s') found q)
    → IsFound found' seq' s'
found_here found found' seq seq' s s' h moves same told q e = (
  told q ∙ ap (λ o. moved_on s.number (runs s) o found q) e ∙ moved_here s.number (runs s) found q (λ k. (h q k).0) ∙ sym same,
  on (moves.comes q e),
)
  where
    on : (runs s ≡ Some q) ⊎ ((seq < q) × (q ≤ seq')) → q ≤ seq'
    on (inl k) = omega (arith, (h q k).1, moves.grows)
    on (inr p) = p.1

-- another one
found_there : (found found' : ℕ → ℕ) (seq seq' : ℕ) (s s' x : Session) → IsFound found seq s → Moves seq (runs s) seq' (runs s')
    → ((q : ℕ) → found' q ≡ moved_on s.number (runs s) (runs s') found q)
    → (x.number ≡ s.number → ⊥)
    → IsFound found seq x
    → IsFound found' seq' x
found_there found found' seq seq' s s' x h moves told other there q e = (
  told q ∙ moved_other s.number (runs s) (runs s') found q before after ∙ (there q e).0,
  omega (arith, (there q e).1, moves.grows),
)
  where
    before : runs s ≡ Some q → ⊥
    before k = other (sym (there q e).0 ∙ (h q k).0)

    on : (runs s ≡ Some q) ⊎ ((seq < q) × (q ≤ seq')) → ⊥
    on (inl k) = before k
    on (inr p) = omega (arith, p.0, (there q e).1)

    after : runs s' ≡ Some q → ⊥
    after k = on (moves.comes q k)

-- ALL SESSIONS
-- those above have other numbers
above : (n low : ℕ) (ss : List Session) → n ≤ low → Ascends low ss → All (λ s. s.number ≡ n → ⊥) ss
above n low [] le h = tt
above n low (s ∷ ss) le h = (λ e. omega (arith, e, h.0, le), above n s.number ss (omega (arith, h.0, le)) h.1)

all_both : (P Q R : Session → Type 0) → ((s : Session) → P s → Q s → R s) → (ss : List Session) → All P ss → All Q ss → All R ss
all_both P Q R f [] h k = tt
all_both P Q R f (s ∷ ss) h k = (f s h.0 k.0, all_both P Q R f ss h.1 k.1)

number_higher : (low : ℕ) (ss : List Session) (i : ℕ) (d : Session) → i < length ss → Ascends low ss → low < (get_or ss i d).number
number_higher low [] i d less h = absurd (omega (arith, less))
number_higher low (s ∷ ss) zero d less h = h.0
number_higher low (s ∷ ss) (suc i) d less h =
    let more = number_higher s.number ss i d (omega (arith, less)) h.1 in
    omega (arith, more, h.0)

-- what holds of each but the one at a place holds of all, once it holds of what is put there
all_set_one : (P : Session → Type 0) (n low : ℕ) (ss : List Session) (i : ℕ) (s : Session) → Ascends low ss → i < length ss
    → ((d : Session) → (get_or ss i d).number ≡ n)
    → P s
    → All (λ s. (s.number ≡ n → ⊥) → P s) ss
    → All P (slice_set ss i s)
all_set_one P n low [] i s h less at here others = absurd (omega (arith, less))
all_set_one P n low (x ∷ ss) zero s h less at here others = (
  here,
  all_both (λ s. s.number ≡ n → ⊥) (λ s. (s.number ≡ n → ⊥) → P s) P (λ s k f. f k) ss
      (above n x.number ss (omega (arith, at x)) h.1) others.1,
)
all_set_one P n low (x ∷ ss) (suc i) s h less at here others =
    let more = number_higher x.number ss i x (omega (arith, less)) h.1 in
    (others.0 (λ e. omega (arith, e, more, at x)), all_set_one P n x.number ss i s h.1 (omega (arith, less)) at here others.1)

all_at : (P : Session → Type 0) (ss : List Session) (i : ℕ) (d : Session) → i < length ss → All P ss → P (get_or ss i d)
all_at P [] i d less h = absurd (omega (arith, less))
all_at P (x ∷ ss) zero d less h = h.0
all_at P (x ∷ ss) (suc i) d less h = all_at P ss i d (omega (arith, less)) h.1

pub in_order_ascends : (low high : ℕ) (ss : List Session) → InOrder low ss high → Ascends low ss
in_order_ascends low high [] h = tt
in_order_ascends low high (s ∷ ss) h = (h.0, in_order_ascends s.number high ss h.1.1)

-- THE LIST AFTER THE TURN OF THE ONE AT A PLACE
pub ascends_set : (low : ℕ) (ss : List Session) (i : ℕ) (s s' : Session) → i < length ss → s ≡ get_or ss i s → s'.number ≡ s.number → Ascends low ss
    → Ascends low (slice_set ss i s')
ascends_set low [] i s s' less is same h = tt
ascends_set low (x ∷ ss) zero s s' less is same h =
    let number : x.number ≡ s'.number = sym (same ∙ ap (λ (y : Session). y.number) is) in
    (subst (λ n. low < n) number h.0, subst (λ n. Ascends n ss) number h.1)
ascends_set low (x ∷ ss) (suc i) s s' less is same h = (h.0, ascends_set x.number ss i s s' (omega (arith, less)) is same h.1)

found_set : (found found' : ℕ → ℕ) (seq seq' low : ℕ) (ss : List Session) (i : ℕ) (s s' : Session) → i < length ss → s ≡ get_or ss i s
    → s'.number ≡ s.number
    → Ascends low ss
    → AreFound found seq ss
    → Moves seq (runs s) seq' (runs s')
    → ((q : ℕ) → found' q ≡ moved_on s.number (runs s) (runs s') found q)
    → AreFound found' seq' (slice_set ss i s')
found_set found found' seq seq' low ss i s s' less is same h all moves told =
    let here : IsFound found seq s = subst (IsFound found seq) (sym is) (all_at (IsFound found seq) ss i s less all) in
    all_set_one (IsFound found' seq') s.number low ss i s' h less
    (λ d. sym (ap (λ (x : Session). x.number) (is ∙ get_or_default ss i s d less)))
    (found_here found found' seq seq' s s' here moves same told)
    (all_map (IsFound found seq) (λ x. (x.number ≡ s.number → ⊥) → IsFound found' seq' x)
    (λ x there other. found_there found found' seq seq' s s' x here moves told other there) ss all)

-- where the turn is a rule's
pub found_turn : (f : Context → Session → SessionStep) → ((d : Context) (s : Session) → (f d s).session.number ≡ s.number)
    → ((d : Context) (s : Session) → Goes d s (f d s)) → (found found' : ℕ → ℕ) (d d' : Context) (low : ℕ) (ss : List Session) (i : ℕ) (s s' : Session)
    → i < length ss
    → s ≡ get_or ss i s
    → stays d' s' ≡ f d s
    → Ascends low ss
    → AreFound found d.seq ss
    → ((q : ℕ) → found' q ≡ moved_on s.number (runs s) (runs s') found q)
    → AreFound found' d'.seq (slice_set ss i s')
found_turn f same goes found found' d d' low ss i s s' less is step h all told =
    let number : s'.number ≡ s.number = ap (λ (a : SessionStep). a.session.number) step ∙ same d s in
    let moves : Goes d s (stays d' s') = subst (Goes d s) (sym step) (goes d s) in
    found_set found found' d.seq d'.seq low ss i s s' less is number h all moves told

-- one that is over is taken out
remove_set : (ss : List Session) (i : ℕ) (s : Session) → remove (slice_set ss i s) i ≡ remove ss i
remove_set [] zero s = refl
remove_set [] (suc i) s = refl
remove_set (x ∷ ss) zero s = refl
remove_set (x ∷ ss) (suc i) s = ap (λ r. x ∷ r) (remove_set ss i s)

pub over_put_back : (ss : List Session) (i : ℕ) (s : Session) → is_over s ≡ true → remove (slice_set ss i s) i ≡ put_back ss i s
over_put_back ss i s e = remove_set ss i s ∙ sym (ap (λ b. cond b (remove ss i) (slice_set ss i s)) e)

pub found_left : (found : ℕ → ℕ) (seq : ℕ) (ss : List Session) (i : ℕ) → AreFound found seq ss → AreFound found seq (remove ss i)
found_left found seq ss i h = all_remove (IsFound found seq) ss i h

-- THOSE THAT ARE REMEMBERED
pub found_remembered : (found : ℕ → ℕ) (seq : ℕ) (ss : List Session) → AreFound found seq ss → AreFound found seq (remembered ss)
found_remembered found seq [] h = tt
found_remembered found seq (s ∷ ss) h = on (is_over s) (found_remembered found seq ss h.1)
  where
    on : (b : Bool) → AreFound found seq (remembered ss) → AreFound found seq (cond (not b) (s ∷ remembered ss) (remembered ss))
    on true kept = kept
    on false kept = (h.0, kept)

-- one of which nothing has come
pub found_push : (found : ℕ → ℕ) (seq : ℕ) (ss : List Session) (n : ℕ) → AreFound found seq ss → AreFound found seq (ss ++ new_session n ∷ [])
found_push found seq ss n h = all_push (IsFound found seq) ss (new_session n) (λ q e. absurd (cc)) h
