-- What the history's growth leaves.
use Rattle.std.proofs.Common.{◌≡◌, ◌⊎◌, inl, inr, ⊎_elim, ℕ, ◌<◌, ◌≤◌, List, [], ◌∷◌, length, true, refl, arith}
use Rattle.us_kind.specs.Comparison.{In}
use Rattle.us_agreement.proofs.Same.{Same, same_sym, same_trans, same_less}
use Rattle.us_agreement.proofs.History.{Acknowledgement, Ack, Start, initial, Choice, IsStarted, Blocked, IsChosen, BestOk, own, blocked, learned}
use Rattle.us_agreement.proofs.History.{later, short, later_blocked, StartOk, StartsOk, ChoiceOk}

-- what a site's log is to its ballot's at n
pub data LogOk {E : Type 0} (hs : List (Start E)) (logs : ℕ → List E) (cs : List (Choice E)) (a : ℕ) (log : List E) (n : ℕ) : Type 0 where
  is_own : n ≤ length (logs a) → Same n log (logs a) → LogOk hs logs cs a log n
  is_blocked : Blocked hs logs a n → LogOk hs logs cs a log n
  is_learned : (c : Choice E) → In c cs → a < c.ballot → n ≤ length c.log → Same n log c.log → LogOk hs logs cs a log n

-- a log in ballot a
pub record LogFacts {E : Type 0} (hs : List (Start E)) (logs : ℕ → List E) (cs : List (Choice E)) (a : ℕ) (log : List E) : Type 0 where
  pub at_each : (n : ℕ) → n ≤ length log → LogOk hs logs cs a log n
  pub start : Start E
  pub here : In start hs
  pub is : start.ballot ≡ a
  pub long : (length (initial start) ≤ length log) ⊎ Blocked hs logs a (length log)

abbrev pub AckFacts : {E : Type 0} → List (Start E) → (ℕ → List E) → ℕ → List E → ℕ → ℕ → Type 0
AckFacts hs logs a log b n = (b ≤ a) × IsStarted hs b × (b ≡ a → (n ≤ length log) ⊎ Blocked hs logs b (length log))

pub record Grows {E : Type 0} (hs hs' : List (Start E)) (logs logs' : ℕ → List E) (cs cs' : List (Choice E)) : Type 0 where
  pub starts : (h : Start E) → In h hs → In h hs'
  pub longer : (b : ℕ) → length (logs b) ≤ length (logs' b)
  pub same : (b : ℕ) → Same (length (logs b)) (logs b) (logs' b)
  pub choices : (c : Choice E) → In c cs → In c cs'

module _ {E : Type 0} where
  pub started_later : {hs hs' : List (Start E)} {logs logs' : ℕ → List E} {cs cs' : List (Choice E)} (b : ℕ) → Grows hs hs' logs logs' cs cs'
      → IsStarted hs b → IsStarted hs' b
  started_later b g h = record { start = h.start; here = g.starts h.start h.here; is = h.is }

  pub chosen_later : {hs hs' : List (Start E)} {logs logs' : ℕ → List E} {cs cs' : List (Choice E)} (l : List E) → Grows hs hs' logs logs' cs cs'
      → IsChosen hs cs l → IsChosen hs' cs' l
  chosen_later l g p =
      record {
        choice = p.choice;
        here = g.choices p.choice p.here;
        started = started_later p.choice.ballot g p.started;
        long = p.long;
        same = p.same;
      }

  pub blocked_later : {hs hs' : List (Start E)} {logs logs' : ℕ → List E} {cs cs' : List (Choice E)} (b n : ℕ) → Grows hs hs' logs logs' cs cs'
      → Blocked hs logs b n → Blocked hs' logs' b n
  blocked_later b n g h = record {
    place = h.place;
    by = h.by;
    le = h.le;
    within = (let w = h.within in omega (arith, g.longer b));
    here = g.starts h.by h.here;
    above = h.above;
    differ = λ s. h.differ (same_trans s (same_sym (same_less h.place h.within (g.same b))));
  }

  pub own_later : {hs hs' : List (Start E)} {logs logs' : ℕ → List E} {cs cs' : List (Choice E)} (b n : ℕ) (xs : List E)
      → Grows hs hs' logs logs' cs cs' → n ≤ length (logs b) → Same n xs (logs b) → (n ≤ length (logs' b)) × Same n xs (logs' b)
  own_later b n xs g le s = (omega (arith, g.longer b), same_trans s (same_less n le (g.same b)))

  pub log_ok_later : {hs hs' : List (Start E)} {logs logs' : ℕ → List E} {cs cs' : List (Choice E)} (a : ℕ) (log : List E) (n : ℕ)
      → Grows hs hs' logs logs' cs cs' → LogOk hs logs cs a log n → LogOk hs' logs' cs' a log n
  log_ok_later a log n g (is_own le s) = let f = own_later a n log g le s in is_own f.0 f.1
  log_ok_later a log n g (is_blocked b) = is_blocked (blocked_later a n g b)
  log_ok_later a log n g (is_learned c i l le s) = is_learned c (g.choices c i) l le s

  pub log_later : {hs hs' : List (Start E)} {logs logs' : ℕ → List E} {cs cs' : List (Choice E)} (a : ℕ) (log : List E)
      → Grows hs hs' logs logs' cs cs' → LogFacts hs logs cs a log → LogFacts hs' logs' cs' a log
  log_later a log g h = record {
    at_each = λ n le. log_ok_later a log n g (h.at_each n le);
    start = h.start;
    here = g.starts h.start h.here;
    is = h.is;
    long = ⊎_elim (λ l. inl l) (λ b. inr (blocked_later a (length log) g b)) h.long;
  }

  pub ack_later : {hs hs' : List (Start E)} {logs logs' : ℕ → List E} {cs cs' : List (Choice E)} (a : ℕ) (log : List E) (b n : ℕ)
      → Grows hs hs' logs logs' cs cs' → AckFacts hs logs a log b n → AckFacts hs' logs' a log b n
  ack_later a log b n g h = (h.0, started_later b g h.1, λ e. ⊎_elim (λ l. inl l) (λ x. inr (blocked_later b (length log) g x)) (h.2 e))

  pub best_later : {hs hs' : List (Start E)} {logs logs' : ℕ → List E} {cs cs' : List (Choice E)} (best : List E) (b m : ℕ)
      → Grows hs hs' logs logs' cs cs' → BestOk hs logs cs best b m → BestOk hs' logs' cs' best b m
  best_later best b m g (own le s) = let f = own_later b m best g le s in own f.0 f.1
  best_later best b m g (blocked x) = blocked (blocked_later b m g x)
  best_later best b m g (learned c i st l le s) = learned c (g.choices c i) (started_later c.ballot g st) l le s
  best_later best b m g (later h i l le s) = later h (g.starts h i) l le s
  best_later best b m g (short h i l le) = short h (g.starts h i) l le
  best_later best b m g (later_blocked h i l le w s x) =
      let f = own_later h.ballot _ (initial h) g w s in later_blocked h (g.starts h i) l le f.0 f.1 (blocked_later h.ballot m g x)

  -- the starts' own growth: nothing but logs and choices, since each speaks of the starts before it alone
  pub start_later : (sites : List ℕ) (logs logs' : ℕ → List E) (cs cs' : List (Choice E)) (told told' : List Acknowledgement) (h : Start E)
      (hs : List (Start E)) → Grows hs hs logs logs' cs cs'
      → ((b z n : ℕ) → In (Ack b z n) told' → In (Ack b z n) told ⊎ (h.quorum z ≡ true → h.ballot ≤ b)) → StartOk sites logs cs told h hs
      → StartOk sites logs' cs' told' h hs
  start_later sites logs logs' cs cs' told told' h hs g new ok = record {
    majority = ok.majority;
    prefix_is = ⊎_elim (λ e. inl e) (λ x. inr (chosen_later h.prefix g x)) ok.prefix_is;
    acks =
        λ z b n m q l i le. ⊎_elim (λ j. let f = ok.acks z b n m q l j le in (f.0, best_later h.best b m g f.1))
        (λ f. absurd (let k = f q in omega arith)) (new b z n i);
    within = omega (arith, ok.within, g.longer h.ballot);
    extends = (own_later h.ballot _ (initial h) g ok.within ok.extends).1;
  }

  pub starts_later : (sites : List ℕ) (logs logs' : ℕ → List E) (cs cs' : List (Choice E)) (told told' : List Acknowledgement) (hs : List (Start E))
      → ((b : ℕ) → length (logs b) ≤ length (logs' b)) → ((b : ℕ) → Same (length (logs b)) (logs b) (logs' b)) → ((c : Choice E) → In c cs → In c cs')
      → ((h : Start E) → In h hs → (b z n : ℕ) → In (Ack b z n) told' → In (Ack b z n) told ⊎ (h.quorum z ≡ true → h.ballot ≤ b))
      → StartsOk sites logs cs told hs → StartsOk sites logs' cs' told' hs
  starts_later sites logs logs' cs cs' told told' [] l s c new ok = tt
  starts_later sites logs logs' cs cs' told told' (h ∷ hs) l s c new ok = (
    start_later sites logs logs' cs cs' told told' h hs (record { starts = λ x i. i; longer = l; same = s; choices = c }) (new h (inl refl)) ok.0,
    starts_later sites logs logs' cs cs' told told' hs l s c (λ x i. new x (inr i)) ok.1,
  )

  pub choice_later : (sites : List ℕ) (logs logs' : ℕ → List E) (told told' : List Acknowledgement) (c : Choice E)
      → ((b : ℕ) → length (logs b) ≤ length (logs' b)) → ((b : ℕ) → Same (length (logs b)) (logs b) (logs' b))
      → ((m : Acknowledgement) → In m told → In m told') → ChoiceOk sites logs told c → ChoiceOk sites logs' told' c
  choice_later sites logs logs' told told' c l s kept h = record {
    within = omega (arith, h.within, l c.ballot);
    same = same_trans h.same (same_less _ h.within (s c.ballot));
    majority = h.majority;
    acks = λ x q some. let f = h.acks x q some in (f.0, f.1, kept _ f.2);
  }
