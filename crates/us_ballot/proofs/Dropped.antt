-- Messages of an old ballot are dropped, and when entries come back.
use Rattle.std.proofs.Common.{◌≡◌, ◌≤◌, ℕ, ◌<◌, Bool, true, false, Result, Ok, Err, length, refl, sym, ap, ◌∙◌, arith, true≢false}
use Rattle.std.specs.Prelude.{IfOk, ◌&&◌, ◌==◌, ◌↔◌, if◌then◌else◌, nat_lt, nat_le}
use Rattle.std.proofs.lemmas.Bool.{cond_both, ltb-true}
use Rattle.std.proofs.lemmas.Bool.Decides.{nat_tests}
use Rattle.us_ballot_model.specs.declared.log.Role.{Role}
use Rattle.us_ballot_model.specs.declared.log.Role.TheVariants.{Follower, Candidate, Leader}
use Rattle.us_ballot_model.specs.declared.log.BallotLog.{BallotLog}
use Rattle.us_ballot_model.specs.declared.message.BallotMessage.{BallotMessage}
use Rattle.us_ballot_model.specs.declared.message.BallotMessage.TheVariants.{NewBallot, Promise, NewState, Accept, Accepted, CatchUp, Learn}
use Rattle.us_ballot_model.specs.declared.message.BallotOut.{BallotOut}
use Rattle.us_ballot_model.specs.declared.message.Appended.TheVariants.{In, NotLeader, Full}
use Rattle.us_ballot_model.specs.Ballots.{WINDOW, ballot_in, is_below, leads, owner, follows}
use Rattle.us_ballot_model.specs.Rules.{Stepped, dropped, may_follow, new_ballot, may_promise, promise, new_state, may_accept, accept, may_hear, accepted, catch_up, take_message, append, append_answer}

pub catch_up_log : {E : Type 0} (c : BallotLog E) (from n : ℕ) → (catch_up c from n).log ≡ c
unfolding catch_up
catch_up_log c from n = cond_both (nat_lt n (length c.chosen)) _ _ (λ (r : Stepped _). r.log ≡ c) (λ e. refl) (λ e. refl)

false_right : (a : Bool) → (a && false) ≡ false
false_right true = refl
false_right false = refl

not_le : (a b : ℕ) → a < b → nat_le b a ≡ false
not_le a b h = grind (arith, nat_tests)

not_eq : (a b : ℕ) → a < b → (a == b) ≡ false
not_eq a b h = grind (arith, nat_tests)

follow_old : {E : Type 0} (c : BallotLog E) (from b : ℕ) → b < c.ballot → may_follow c from b ≡ false
follow_old c from b h = rw (not_le b c.ballot h) refl

promise_old : {E : Type 0} (c : BallotLog E) (from b : ℕ) → b < c.ballot → (r : Role E) → may_promise c from b r ≡ false
promise_old c from b h Follower = refl
promise_old c from b h (Candidate promises) = rw (not_eq b c.ballot h) refl
promise_old c from b h (Leader acks) = refl

accept_old : {E : Type 0} (c : BallotLog E) (from b : ℕ) → b < c.ballot → may_accept c from b ≡ false
accept_old c from b h = rw (not_eq b c.ballot h) (ap (λ x. follows c.role && x) (false_right (owner c.f b == from)) ∙ false_right (follows c.role))

hear_old : {E : Type 0} (c : BallotLog E) (b n : ℕ) → b < c.ballot → may_hear c b n ≡ false
hear_old c b n h = rw (not_eq b c.ballot h) (false_right (leads c.role))

unmet : {R : Type 0} (b : Bool) (x y : R) → b ≡ false → (if b then x else y) ≡ y
unmet b x y e = rw e refl

pub old_dropped : {E : Type 0} (eq : E → E → Bool) (c : BallotLog E) (from : ℕ) (m : BallotMessage E) → is_below c.ballot (ballot_in m) ≡ true → take_message eq c from m ≡ dropped c
unfolding take_message new_ballot promise new_state accept accepted
old_dropped eq c from (NewBallot b) e = unmet _ _ _ (follow_old c from b (ltb-true _ _ e))
old_dropped eq c from (Promise b accepted base tail) e = unmet _ _ _ (promise_old c from b (ltb-true _ _ e) c.role)
old_dropped eq c from (NewState b base tail) e = unmet _ _ _ (follow_old c from b (ltb-true _ _ e))
old_dropped eq c from (Accept b slot entry) e = unmet _ _ _ (accept_old c from b (ltb-true _ _ e))
old_dropped eq c from (Accepted b n) e = unmet _ _ _ (hear_old c b n (ltb-true _ _ e))
old_dropped eq c from (CatchUp n) e = absurd (true≢false (sym e))
old_dropped eq c from (Learn first es) e = absurd (true≢false (sym e))

not_leader_of : {E : Type 0} (l room : Bool) (out : BallotOut E) (e : E) → ((if l then (if room then In out else Full e) else NotLeader e) ≡ NotLeader e) ↔ (l ≡ false)
not_leader_of true true out e = (λ x. absurd (cc), λ x. absurd (true≢false x))
not_leader_of true false out e = (λ x. absurd (cc), λ x. absurd (true≢false x))
not_leader_of false room out e = (λ x. refl, λ x. refl)

pub not_leader_exactly : {E : Type 0} (c : BallotLog E) (e : E) → (append_answer c e ≡ NotLeader e) ↔ (leads c.role ≡ false)
unfolding append_answer
not_leader_exactly c e = not_leader_of (leads c.role) (nat_lt (length c.tail) WINDOW) (append c e).out e

full_of : {E : Type 0} (l room : Bool) (out : BallotOut E) (e : E) → ((if l then (if room then In out else Full e) else NotLeader e) ≡ Full e) ↔ ((l ≡ true) × (room ≡ false))
full_of true true out e = (λ x. absurd (cc), λ x. absurd (true≢false x.1))
full_of true false out e = (λ x. (refl, refl), λ x. refl)
full_of false room out e = (λ x. absurd (cc), λ x. absurd (true≢false (sym x.0)))

is_full : (n : ℕ) → n ≤ WINDOW → nat_lt n WINDOW ≡ false → n ≡ WINDOW
is_full n h e = grind (arith, nat_tests)

no_room : (n : ℕ) → n ≡ WINDOW → nat_lt n WINDOW ≡ false
no_room n e = grind (arith, nat_tests)

pub full_exactly : {E : Type 0} (c : BallotLog E) (e : E) → length c.tail ≤ WINDOW → (append_answer c e ≡ Full e) ↔ ((leads c.role ≡ true) × (length c.tail ≡ WINDOW))
unfolding append_answer
full_exactly c e h =
    let f = full_of (leads c.role) (nat_lt (length c.tail) WINDOW) (append c e).out e in
    (λ x. ((f.0 x).0, is_full (length c.tail) h (f.0 x).1), λ x. f.1 (x.0, no_room (length c.tail) x.1))

pub if_ok_map : {T M : Type 0} (r : Result T M) (P Q : T → Type 0) → ((x : T) → P x → Q x) → IfOk r P → IfOk r Q
if_ok_map (Ok x) P Q f h = f x h
if_ok_map (Err e) P Q f h = tt
