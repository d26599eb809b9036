-- What holds of every world, and what a step of one site owes.
use Rattle.std.proofs.Common.{◌≡◌, ◌⊎◌, inl, inr, ⊎_elim, ℕ, ◌+◌, ◌-◌, ◌<◌, ◌≤◌, List, [], ◌∷◌, ◌++◌, length, drop, true, Option, Some, refl, sym}
use Rattle.std.proofs.Common.{◌∙◌, subst, arith}
use Rattle.std.specs.Prelude.{slice_get}
use Rattle.std.proofs.lemmas.Bool.{cases_eq, eq-eqb, ne_eqb}
use Rattle.us_kind.specs.Comparison.{In}
use Rattle.us_kind.proofs.ListLemmas.{in_either}
use Rattle.us_ballot_model.specs.declared.log.PromisedLog.{PromisedLog}
use Rattle.us_ballot_model.specs.declared.log.Role.{Role}
use Rattle.us_ballot_model.specs.declared.log.Role.TheVariants.{Follower, Candidate, Leader}
use Rattle.us_ballot_model.specs.declared.log.BallotLog.{BallotLog}
use Rattle.us_ballot_model.specs.declared.message.BallotMessage.{BallotMessage}
use Rattle.us_ballot_model.specs.declared.message.BallotMessage.TheVariants.{NewBallot, Promise, NewState, Accept, Accepted, CatchUp, Learn}
use Rattle.us_ballot_model.specs.Ballots.{sites, owner, reach}
use Rattle.us_ballot_model.specs.Worlds.{Sent, put}
use Rattle.us_agreement.proofs.Same.{Same}
use Rattle.us_agreement.proofs.History.{Acknowledgement, Ack, Start, Choice, IsStarted, Blocked, IsChosen, StartsOk, ChoiceOk}
use Rattle.us_agreement.proofs.Growth.{LogFacts, AckFacts, Grows, chosen_later, blocked_later, log_later, ack_later, starts_later, choice_later}

-- the history beside the machine: the starts of ballots, the newest first, each ballot's log, what majorities chose, all
-- acknowledgements, and up to which ballot each site has surely come
pub record Past (E : Type 0) : Type 0 where
  pub starts : List (Start E)
  pub logs : ℕ → List E
  pub choices : List (Choice E)
  pub told : List Acknowledgement
  pub up : ℕ → ℕ

abbrev pub whole : {E : Type 0} → BallotLog E → List E
whole c = c.chosen ++ c.tail

abbrev pub LogIs : {E : Type 0} → Past E → ℕ → List E → Type 0
LogIs p b log = LogFacts p.starts p.logs p.choices b log

abbrev pub Chosen : {E : Type 0} → Past E → List E → Type 0
Chosen p l = IsChosen p.starts p.choices l

abbrev pub AckIs : {E : Type 0} → Past E → ℕ → List E → ℕ → ℕ → Type 0
AckIs p a log b n = AckFacts p.starts p.logs a log b n

-- a promise of ballot b tells of a log behind its base
pub record PromiseOk {E : Type 0} (f : ℕ) (p : Past E) (b : ℕ) (v : PromisedLog E) : Type 0 where
  pub log : List E
  pub fits : length log ≡ reach v
  pub is : drop v.base log ≡ v.tail
  pub acc : v.accepted ≤ b
  pub facts : LogIs p v.accepted log
  pub acks : (b0 n : ℕ) → In (Ack b0 v.site n) p.told → b0 < b → AckIs p v.accepted log b0 n
  pub moved : b ≤ p.up v.site
  pub here : In v.site (sites f)

-- a leader tells of its log behind its base
pub record StateOk {E : Type 0} (p : Past E) (b base : ℕ) (tail : List E) : Type 0 where
  pub log : List E
  pub fits : length log ≡ base + length tail
  pub is : drop base log ≡ tail
  pub facts : LogIs p b log

-- a leader tells of one slot of its log
pub record AcceptOk {E : Type 0} (p : Past E) (b slot : ℕ) (e : E) : Type 0 where
  pub log : List E
  pub place : ℕ
  pub is : slot ≡ place + 1
  pub entry : slice_get log place ≡ Some e
  pub facts : LogIs p b log

-- entries from a slot on of what is chosen
pub record LearnOk {E : Type 0} (p : Past E) (first : ℕ) (es : List E) : Type 0 where
  pub log : List E
  pub chosen : Chosen p log
  pub within : first - 1 + length es ≤ length log
  pub same : (k : ℕ) → k < length es → slice_get es k ≡ slice_get log (first - 1 + k)

abbrev pub MessageOk : {E : Type 0} → ℕ → Past E → ℕ → BallotMessage E → Type 0
MessageOk f p from (NewBallot b) = Unit {0}
MessageOk f p from (Promise b accepted base tail) = PromiseOk f p b (record { site = from; accepted = accepted; base = base; tail = tail })
MessageOk f p from (NewState b base tail) = StateOk p b base tail
MessageOk f p from (Accept b slot e) = AcceptOk p b slot e
MessageOk f p from (Accepted b n) = In (Ack b from n) p.told
MessageOk f p from (CatchUp n) = Unit {0}
MessageOk f p from (Learn first es) = LearnOk p first es

pub record SentOk {E : Type 0} (f : ℕ) (p : Past E) (x : Sent E) : Type 0 where
  pub here : In x.from (sites f)
  pub apart : x.from ≡ x.to → ⊥
  pub message : MessageOk f p x.from x.message

-- no two promises are of one site
abbrev pub AllApart : {E : Type 0} → List (PromisedLog E) → Type 0
AllApart [] = Unit {0}
AllApart (v ∷ vs) = ((u : PromisedLog _) → In u vs → u.site ≡ v.site → ⊥) × AllApart vs

-- a leader holds all of its ballot's log, or a later ballot began otherwise
abbrev pub IsLeading : {E : Type 0} → Past E → ℕ → List E → Type 0
IsLeading p b log = ((length (p.logs b) ≤ length log) × Same (length (p.logs b)) log (p.logs b)) ⊎ Blocked p.starts p.logs b (length log)

pub record CollectOk {E : Type 0} (f : ℕ) (p : Past E) (s : ℕ) (c : BallotLog E) (vs : List (PromisedLog E)) : Type 0 where
  pub owns : owner f c.ballot ≡ s
  pub new : c.accepted < c.ballot
  pub promises : (v : PromisedLog E) → In v vs → PromiseOk f p c.ballot v
  pub apart : AllApart vs
  pub own : (v : PromisedLog E) → In v vs → v.site ≡ s → v.base ≤ length c.chosen

-- acknowledgements of at least one entry were told by another site
abbrev pub AcksOk : {E : Type 0} → ℕ → Past E → ℕ → ℕ → List (Option ℕ) → Type 0
AcksOk f p s b acks = (k n : ℕ) → slice_get acks k ≡ Some (Some n) → 0 < n → In (Ack b (k + 1) n) p.told × In (k + 1) (sites f) × (k + 1 ≡ s → ⊥)

pub record LeadOk {E : Type 0} (f : ℕ) (p : Past E) (s : ℕ) (c : BallotLog E) (ks : List (Option ℕ)) : Type 0 where
  pub owns : owner f c.ballot ≡ s
  pub same : c.accepted ≡ c.ballot
  pub leading : IsLeading p c.ballot (whole c)
  pub acks : AcksOk f p s c.ballot ks

abbrev pub RoleOk : {E : Type 0} → ℕ → Past E → ℕ → BallotLog E → Role E → Type 0
RoleOk f p s c Follower = Unit {0}
RoleOk f p s c (Candidate promises) = CollectOk f p s c promises
RoleOk f p s c (Leader acks) = LeadOk f p s c acks

pub record SiteOk {E : Type 0} (f : ℕ) (p : Past E) (s : ℕ) (c : BallotLog E) : Type 0 where
  pub f_is : c.f ≡ f
  pub site_is : c.site ≡ s
  pub reached : p.up s ≤ c.ballot
  pub acc : c.accepted ≤ c.ballot
  pub log : LogIs p c.accepted (whole c)
  pub chosen : Chosen p c.chosen
  pub role : RoleOk f p s c c.role
  pub owned : (h : Start E) → In h p.starts → owner f h.ballot ≡ s → h.ballot ≤ c.accepted
  pub acks : (b n : ℕ) → In (Ack b s n) p.told → AckIs p c.accepted (whole c) b n

pub record HistoryOk {E : Type 0} (f : ℕ) (p : Past E) : Type 0 where
  pub starts : StartsOk (sites f) p.logs p.choices p.told p.starts
  pub choices : (c : Choice E) → In c p.choices → ChoiceOk (sites f) p.logs p.told c
  pub started : (c : Choice E) → In c p.choices → IsStarted p.starts c.ballot
  pub empty : (b : ℕ) → (IsStarted p.starts b → ⊥) → length (p.logs b) ≡ 0
  pub moved : (h : Start E) → In h p.starts → (z : ℕ) → h.quorum z ≡ true → h.ballot ≤ p.up z

pub record Facts {E : Type 0} (f : ℕ) (p : Past E) (at : ℕ → BallotLog E) (ms : List (Sent E)) : Type 0 where
  pub history : HistoryOk f p
  pub site : (s : ℕ) → SiteOk f p s (at s)
  pub sent : (x : Sent E) → In x ms → SentOk f p x

-- some history fits
pub record Holds {E : Type 0} (f : ℕ) (at : ℕ → BallotLog E) (sent : List (Sent E)) : Type 0 where
  pub past : Past E
  pub facts : Facts f past at sent

-- WHAT A STEP OF SITE s OWES of the history
pub record Owes {E : Type 0} (f : ℕ) (p p' : Past E) (s : ℕ) : Type 0 where
  pub grows : Grows p.starts p'.starts p.logs p'.logs p.choices p'.choices
  pub told : (a : Acknowledgement) → In a p.told → In a p'.told
  pub up : (z : ℕ) → p.up z ≤ p'.up z
  pub new_acks : (b z n : ℕ) → In (Ack b z n) p'.told → In (Ack b z n) p.told ⊎ ((z ≡ s) × (p.up s ≤ b))
  pub new_starts : (h : Start E) → In h p'.starts → In h p.starts ⊎ (owner f h.ballot ≡ s)
  pub new_logs : (b : ℕ) → (owner f b ≡ s) ⊎ (p'.logs b ≡ p.logs b)
  pub same_up : (z : ℕ) → (z ≡ s → ⊥) → p'.up z ≡ p.up z

module _ {X : Type 0} where
  pub put_same : (f : ℕ → X) (s : ℕ) (c : X) → put f s c s ≡ c
  unfolding put
  put_same f s c = rw (eq-eqb s s refl) refl

  pub put_other : (f : ℕ → X) (s : ℕ) (c : X) (j : ℕ) → (j ≡ s → ⊥) → put f s c j ≡ f j
  unfolding put
  put_other f s c j h = rw (ne_eqb j s h) refl

  pub at_each : (P : ℕ → X → Type 0) (f : ℕ → X) (s : ℕ) (c : X) → ((j : ℕ) → (j ≡ s → ⊥) → P j (f j)) → P s c → (j : ℕ) → P j (put f s c j)
  at_each P f s c all one j = ⊎_elim
      (λ (e : j ≡ s). subst (λ k. P k (put f s c k)) (sym e) (subst (P s) (sym (put_same f s c)) one))
      (λ (n : j ≡ s → ⊥). subst (P j) (sym (put_other f s c j n)) (all j n))
      (cases_eq j s)

  pub put_put : (f : ℕ → X) (s : ℕ) (c d : X) → put (put f s c) s d ≡ put f s d
  put_put f s c d = λ i j. at_each (λ k x. x ≡ put f s d k) (put f s c) s d (λ k n. put_other f s c k n ∙ sym (put_other f s d k n)) (sym (put_same f s d)) j i

module _ {E : Type 0} (f : ℕ) (p p' : Past E) (s : ℕ) (o : Owes f p p' s) where
  pub promise_later : (b : ℕ) (v : PromisedLog E) → PromiseOk f p b v → PromiseOk f p' b v
  promise_later b v h = record {
    log = h.log;
    fits = h.fits;
    is = h.is;
    acc = h.acc;
    facts = log_later v.accepted h.log o.grows h.facts;
    acks = λ b0 n i lt. ⊎_elim (λ a. ack_later v.accepted h.log b0 n o.grows (h.acks b0 n a lt))
        (λ (a : (v.site ≡ s) × (p.up s ≤ b0)). absurd (let P : ℕ → Type 0 = λ z. b ≤ p.up z in let k = subst P a.0 h.moved in let l = a.1 in omega arith))
        (o.new_acks b0 v.site n i);
    moved = (let k = h.moved in omega (arith, o.up v.site));
    here = h.here;
  }

  pub state_later : (b base : ℕ) (tail : List E) → StateOk p b base tail → StateOk p' b base tail
  state_later b base tail h = record { log = h.log; fits = h.fits; is = h.is; facts = log_later b h.log o.grows h.facts }

  pub accept_later : (b slot : ℕ) (e : E) → AcceptOk p b slot e → AcceptOk p' b slot e
  accept_later b slot e h = record { log = h.log; place = h.place; is = h.is; entry = h.entry; facts = log_later b h.log o.grows h.facts }

  pub learn_later : (first : ℕ) (es : List E) → LearnOk p first es → LearnOk p' first es
  learn_later first es h = record { log = h.log; chosen = chosen_later h.log o.grows h.chosen; within = h.within; same = h.same }

  message_later : (from : ℕ) (m : BallotMessage E) → MessageOk f p from m → MessageOk f p' from m
  message_later from (NewBallot b) h = tt
  message_later from (Promise b accepted base tail) h = promise_later b _ h
  message_later from (NewState b base tail) h = state_later b base tail h
  message_later from (Accept b slot e) h = accept_later b slot e h
  message_later from (Accepted b n) h = o.told (Ack b from n) h
  message_later from (CatchUp n) h = tt
  message_later from (Learn first es) h = learn_later first es h

  pub sent_later : (x : Sent E) → SentOk f p x → SentOk f p' x
  sent_later x h = record { here = h.here; apart = h.apart; message = message_later x.from x.message h.message }

  pub acks_later : (j b : ℕ) (acks : List (Option ℕ)) → AcksOk f p j b acks → AcksOk f p' j b acks
  acks_later j b acks h = λ k n e l. let x = h k n e l in (o.told _ x.0, x.1, x.2)

  leading_later : (j b : ℕ) (log : List E) → (j ≡ s → ⊥) → owner f b ≡ j → IsLeading p b log → IsLeading p' b log
  leading_later j b log apart own (inl k) =
      inl (⊎_elim (λ (a : owner f b ≡ s). absurd (apart (sym own ∙ a)))
      (λ (a : p'.logs b ≡ p.logs b). let P : List E → Type 0 = λ y. (length y ≤ length log) × Same (length y) log y in subst P (sym a) k)
      (o.new_logs b))
  leading_later j b log apart own (inr x) = inr (blocked_later b (length log) o.grows x)

  role_later : (j : ℕ) (c : BallotLog E) (r : Role E) → (j ≡ s → ⊥) → RoleOk f p j c r → RoleOk f p' j c r
  role_later j c Follower apart h = tt
  role_later j c (Candidate promises) apart h = record { owns = h.owns; new = h.new; promises = λ v i. promise_later c.ballot v (h.promises v i); apart = h.apart; own = h.own }
  role_later j c (Leader acks) apart h =
      record {
        owns = h.owns;
        same = h.same;
        leading = leading_later j c.ballot (whole c) apart h.owns h.leading;
        acks = acks_later j c.ballot acks h.acks;
      }

  pub site_later : (j : ℕ) (c : BallotLog E) → (j ≡ s → ⊥) → SiteOk f p j c → SiteOk f p' j c
  site_later j c apart h = record {
    f_is = h.f_is;
    site_is = h.site_is;
    reached = (let k = h.reached in omega (arith, o.same_up j apart));
    acc = h.acc;
    log = log_later c.accepted (whole c) o.grows h.log;
    chosen = chosen_later c.chosen o.grows h.chosen;
    role = role_later j c c.role apart h.role;
    owned = λ x i e. ⊎_elim (λ a. h.owned x a e) (λ a. absurd (apart (sym e ∙ a))) (o.new_starts x i);
    acks = λ b n i. ⊎_elim (λ a. ack_later c.accepted (whole c) b n o.grows (h.acks b n a)) (λ a. absurd (apart a.0)) (o.new_acks b j n i);
  }

  -- ONE STEP
  pub net_step : (at : ℕ → BallotLog E) (sent new : List (Sent E)) (c : BallotLog E) → Facts f p at sent → HistoryOk f p' → SiteOk f p' s c
      → ((x : Sent E) → In x new → SentOk f p' x) → Facts f p' (put at s c) (sent ++ new)
  net_step at sent new c h history mine news = record {
    history = history;
    site = at_each (λ j x. SiteOk f p' j x) at s c (λ j n. site_later j (at j) n (h.site j)) mine;
    sent = λ x i. ⊎_elim (λ a. sent_later x (h.sent x a)) (λ a. news x a) (in_either x sent new i);
  }

  -- the starts of before, where acknowledgements are new and logs are longer
  pub starts_kept : HistoryOk f p → StartsOk (sites f) p'.logs p'.choices p'.told p.starts
  starts_kept h = starts_later (sites f) p.logs p'.logs p.choices p'.choices p.told p'.told p.starts o.grows.longer o.grows.same o.grows.choices
      (λ x i b z n j. ⊎_elim (λ a. inl a) (λ (a : (z ≡ s) × (p.up s ≤ b)). inr
      (λ q. let P : ℕ → Type 0 = λ y. x.quorum y ≡ true in let v = h.moved x i s (subst P a.0 q) in let w = a.1 in omega arith))
      (o.new_acks b z n j))
      h.starts

  pub choices_kept : HistoryOk f p → (c : Choice E) → In c p.choices → ChoiceOk (sites f) p'.logs p'.told c
  choices_kept h c i = choice_later (sites f) p.logs p'.logs p.told p'.told c o.grows.longer o.grows.same o.told (h.choices c i)

module _ {E : Type 0} (f : ℕ) (p : Past E) (s : ℕ) where
  pub grows_nowhere : Grows p.starts p.starts p.logs p.logs p.choices p.choices
  grows_nowhere = record { starts = λ h i. i; longer = λ b. omega arith; same = λ b. record { at = λ k l. refl }; choices = λ c i. i }

  -- a step that leaves the history
  pub owes_nothing : Owes f p p s
  owes_nothing =
      record {
        grows = grows_nowhere;
        told = λ a i. i;
        up = λ z. omega arith;
        new_acks = λ b z n i. inl i;
        new_starts = λ h i. inl i;
        new_logs = λ b. inr refl;
        same_up = λ z n. refl;
      }
