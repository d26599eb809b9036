-- How many sessions are open, as they change.
use Rattle.std.proofs.Common.{◌≡◌, ℕ, zero, suc, ◌+◌, ◌<◌, ◌≤◌, List, [], ◌∷◌, ◌++◌, length, get_or, Bool, true, false, cond, refl, arith}
use Rattle.std.specs.Prelude.{slice_set, remove, ◌&&◌}
use Rattle.us_model.specs.declared.coordinator.Session.{Session}
use Rattle.us_model.specs.Sessions.{is_nothing}
use Rattle.us_model.specs.Coordinators.{open_in, is_over, new_session}
use Rattle.us_coord.specs.Order.{counted, put_back}

counted_few : (s : Session) → counted s ≤ 1
counted_few s = on s.closed
  where
    on : (b : Bool) → cond {A = ℕ} b 0 1 ≤ 1
    on true = omega arith
    on false = omega arith

open_cons : (s : Session) (ss : List Session) → open_in (s ∷ ss) ≡ counted s + open_in ss
open_cons s ss = on s.closed
  where
    on : (b : Bool) → cond b (open_in ss) (open_in ss + 1) ≡ cond {A = ℕ} b 0 1 + open_in ss
    on true = omega arith
    on false = omega arith

pub open_few : (ss : List Session) → open_in ss ≤ length ss
open_few [] = omega arith
open_few (s ∷ ss) =
    let cons = open_cons s ss in
    let few = counted_few s in
    let rest = open_few ss in
    omega arith

pub open_push : (ss : List Session) (number : ℕ) → open_in (ss ++ new_session number ∷ []) ≡ open_in ss + 1
open_push [] number = refl
open_push (s ∷ ss) number =
    let before = open_cons s ss in
    let after = open_cons s (ss ++ new_session number ∷ []) in
    let rest = open_push ss number in
    omega arith

pub open_at : (ss : List Session) (i : ℕ) (d : Session) → i < length ss → counted (get_or ss i d) ≤ open_in ss
open_at [] i d less = absurd (omega (arith, less))
open_at (s ∷ ss) zero d less = let cons = open_cons s ss in omega arith
open_at (s ∷ ss) (suc i) d less =
    let cons = open_cons s ss in
    let rest = open_at ss i d (omega (arith, less)) in
    omega arith

open_set : (ss : List Session) (i : ℕ) (d s : Session) → i < length ss → open_in (slice_set ss i s) + counted (get_or ss i d) ≡ open_in ss + counted s
open_set [] i d s less = absurd (omega (arith, less))
open_set (x ∷ ss) zero d s less =
    let before = open_cons x ss in
    let after = open_cons s ss in
    omega arith
open_set (x ∷ ss) (suc i) d s less =
    let before = open_cons x ss in
    let after = open_cons x (slice_set ss i s) in
    let rest = open_set ss i d s (omega (arith, less)) in
    omega arith

open_remove : (ss : List Session) (i : ℕ) (d : Session) → i < length ss → open_in (remove ss i) + counted (get_or ss i d) ≡ open_in ss
open_remove [] i d less = absurd (omega (arith, less))
open_remove (x ∷ ss) zero d less = let before = open_cons x ss in omega arith
open_remove (x ∷ ss) (suc i) d less =
    let before = open_cons x ss in
    let after = open_cons x (remove ss i) in
    let rest = open_remove ss i d (omega (arith, less)) in
    omega arith

-- what is over is closed, and counts nothing
over_counts : (s : Session) → is_over s ≡ true → counted s ≡ 0
over_counts s e = on s.closed (is_nothing s.waits) e
  where
    on : (a b : Bool) → (a && b) ≡ true → cond {A = ℕ} a 0 1 ≡ 0
    on true b k = refl
    on false b k = absurd (cc)

pub open_put_back : (ss : List Session) (i : ℕ) (d s : Session) → i < length ss
    → open_in (put_back ss i s) + counted (get_or ss i d) ≡ open_in ss + counted s
open_put_back ss i d s less = on (is_over s) refl
  where
    on : (b : Bool) → is_over s ≡ b → open_in (cond b (remove ss i) (slice_set ss i s)) + counted (get_or ss i d) ≡ open_in ss + counted s
    on true e =
        let none = over_counts s e in
        let rest = open_remove ss i d less in
        omega arith
    on false e = open_set ss i d s less
