-- The history of ballots, and why what is chosen stays.
use Rattle.std.proofs.Common.{◌≡◌, ◌⊎◌, inl, inr, ⊎_elim, ℕ, zero, suc, ◌*◌, ◌<◌, ◌≤◌, List, [], ◌∷◌, length, Bool, true, sym, ◌∙◌, subst, arith}
use Rattle.std.proofs.lemmas.Bool.{cases_eq, cases_lt, and_parts}
use Rattle.us_kind.specs.Comparison.{In}
use Rattle.us_agreement.specs.SiteCounts.{count}
use Rattle.us_agreement.proofs.Quorums.{shared}
use Rattle.us_agreement.proofs.Same.{IsDecided, merged, Same, same_sym, same_trans, same_less, same_length, decide_same, merged-front, merged-back}

-- site `from` told that it holds the ballot's log up to this length
pub data Acknowledgement : Type 0 where
  Ack : (ballot from length : ℕ) → Acknowledgement

-- a ballot that began: what its leader had chosen, the best promise's log, and who promised
pub record Start (E : Type 0) : Type 0 where
  pub ballot : ℕ
  pub prefix : List E
  pub best : List E
  pub quorum : ℕ → Bool

abbrev pub initial : {E : Type 0} → Start E → List E
initial h = merged h.prefix h.best

pub record Choice (E : Type 0) : Type 0 where
  pub ballot : ℕ
  pub log : List E
  pub quorum : ℕ → Bool

pub record IsStarted {E : Type 0} (hs : List (Start E)) (b : ℕ) : Type 0 where
  pub start : Start E
  pub here : In start hs
  pub is : start.ballot ≡ b

-- a later ballot began otherwise than b's log up to n
pub record Blocked {E : Type 0} (hs : List (Start E)) (logs : ℕ → List E) (b n : ℕ) : Type 0 where
  pub place : ℕ
  pub by : Start E
  pub le : place ≤ n
  pub within : place ≤ length (logs b)
  pub here : In by hs
  pub above : b < by.ballot
  pub differ : Same place (initial by) (logs b) → ⊥

module _ {E : Type 0} where
  pub blocked_more : {hs : List (Start E)} {logs : ℕ → List E} {b m : ℕ} (n : ℕ) → m ≤ n → Blocked hs logs b m → Blocked hs logs b n
  blocked_more n le h = record { place = h.place; by = h.by; le = omega arith; within = h.within; here = h.here; above = h.above; differ = h.differ }

-- what the best promise's log is to ballot b at m
pub data BestOk {E : Type 0} (hs : List (Start E)) (logs : ℕ → List E) (cs : List (Choice E)) (best : List E) (b m : ℕ) : Type 0 where
  own : m ≤ length (logs b) → Same m best (logs b) → BestOk hs logs cs best b m
  blocked : Blocked hs logs b m → BestOk hs logs cs best b m
  learned : (c : Choice E) → In c cs → IsStarted hs c.ballot → b < c.ballot → m ≤ length c.log → Same m best c.log → BestOk hs logs cs best b m
  later : (h : Start E) → In h hs → b < h.ballot → m ≤ length (initial h) → Same m best (initial h) → BestOk hs logs cs best b m
  short : (h : Start E) → In h hs → b < h.ballot → length (initial h) < m → BestOk hs logs cs best b m
  later_blocked : (h : Start E) → In h hs → b < h.ballot → m ≤ length (initial h) → length (initial h) ≤ length (logs h.ballot)
      → Same (length (initial h)) (initial h) (logs h.ballot) → Blocked hs logs h.ballot m → BestOk hs logs cs best b m

-- what a majority has acknowledged up to the length of l, and l is a prefix of it
pub record IsChosen {E : Type 0} (hs : List (Start E)) (cs : List (Choice E)) (l : List E) : Type 0 where
  pub choice : Choice E
  pub here : In choice cs
  pub started : IsStarted hs choice.ballot
  pub long : length l ≤ length choice.log
  pub same : Same (length l) l choice.log

pub record StartOk {E : Type 0} (sites : List ℕ) (logs : ℕ → List E) (cs : List (Choice E)) (told : List Acknowledgement) (h : Start E)
    (hs : List (Start E)) : Type 0 where
  pub majority : length sites < 2 * count h.quorum sites
  pub prefix_is : (length h.prefix ≡ 0) ⊎ IsChosen hs cs h.prefix
  pub acks : (z b n m : ℕ) → h.quorum z ≡ true → b < h.ballot → In (Ack b z n) told → m ≤ n → IsStarted hs b × BestOk hs logs cs h.best b m
  pub within : length (initial h) ≤ length (logs h.ballot)
  pub extends : Same (length (initial h)) (initial h) (logs h.ballot)

abbrev pub StartsOk : {E : Type 0} → List ℕ → (ℕ → List E) → List (Choice E) → List Acknowledgement → List (Start E) → Type 0
StartsOk sites logs cs told [] = Unit {0}
StartsOk sites logs cs told (h ∷ hs) = StartOk sites logs cs told h hs × StartsOk sites logs cs told hs

pub record ChoiceOk {E : Type 0} (sites : List ℕ) (logs : ℕ → List E) (told : List Acknowledgement) (c : Choice E) : Type 0 where
  pub within : length c.log ≤ length (logs c.ballot)
  pub same : Same (length c.log) c.log (logs c.ballot)
  pub majority : length sites < 2 * count c.quorum sites
  pub acks : (x : ℕ) → c.quorum x ≡ true → 0 < length c.log → (n : ℕ) × (length c.log ≤ n) × In (Ack c.ballot x n) told

module _ {E : Type 0} where
  -- the start of a started ballot, and its facts
  pub starts_in : (sites : List ℕ) (logs : ℕ → List E) (cs : List (Choice E)) (told : List Acknowledgement) (hs : List (Start E)) (h : Start E)
      → StartsOk sites logs cs told hs → In h hs
      → (length (initial h) ≤ length (logs h.ballot)) × Same (length (initial h)) (initial h) (logs h.ballot)
  starts_in sites logs cs told [] h ok i = absurd i
  starts_in sites logs cs told (x ∷ hs) h ok (inl e) =
      subst (λ (y : Start E). (length (initial y) ≤ length (logs y.ballot)) × Same (length (initial y)) (initial y) (logs y.ballot)) e
      (ok.0.within, ok.0.extends)
  starts_in sites logs cs told (x ∷ hs) h ok (inr i) = starts_in sites logs cs told hs h ok.1 i

  -- a choice of a greater ballot that differs from b's log blocks it
  pub blocked_by_choice : (sites : List ℕ) (logs : ℕ → List E) (cs : List (Choice E)) (told : List Acknowledgement) (hs : List (Start E))
      (c : Choice E) (b m : ℕ) → StartsOk sites logs cs told hs → ChoiceOk sites logs told c → IsStarted hs c.ballot → b < c.ballot → m ≤ length c.log
      → m ≤ length (logs b) → (Same m c.log (logs b) → ⊥) → Blocked hs logs b m
  blocked_by_choice sites logs cs told hs c b m ok cok st above le within differ = record {
    place = m;
    by = st.start;
    le = omega arith;
    within = within;
    here = st.here;
    above = (let e = st.is in omega arith);
    differ = λ s.
        let f = starts_in sites logs cs told hs st.start ok st.here in
        let long = same_length m (initial st.start) (logs b) within s in
        let g : Same (length (initial st.start)) (initial st.start) (logs c.ballot) =
        (let P : ℕ → Type 0 = λ k. Same (length (initial st.start)) (initial st.start) (logs k) in subst P st.is f.1) in
        differ (same_trans (same_less m le cok.same) (same_trans (same_sym (same_less m long g)) s));
  }

-- A MAJORITY'S ACKNOWLEDGEMENTS ARE NOT BLOCKED
pub record Acked (sites : List ℕ) (told : List Acknowledgement) (b n : ℕ) (q : ℕ → Bool) : Type 0 where
  pub majority : length sites < 2 * count q sites
  pub acks : (x : ℕ) → q x ≡ true → 0 < n → (k : ℕ) × (n ≤ k) × In (Ack b x k) told

abbrev pub NotBlocked : {E : Type 0} → List ℕ → (ℕ → List E) → List Acknowledgement → List (Start E) → Type 0
NotBlocked sites logs told hs = (b n : ℕ) (q : ℕ → Bool) → Acked sites told b n q → Blocked hs logs b n → ⊥

module _ {E : Type 0} (dec : IsDecided E) where
  acked_choice : (sites : List ℕ) (logs : ℕ → List E) (told : List Acknowledgement) (c : Choice E) → ChoiceOk sites logs told c
      → Acked sites told c.ballot (length c.log) c.quorum
  acked_choice sites logs told c h = record { majority = h.majority; acks = h.acks }

  -- a choice is in each greater ballot's beginning, and in its log
  pub choice_above : (sites : List ℕ) (logs : ℕ → List E) (cs : List (Choice E)) (told : List Acknowledgement) (hs : List (Start E))
      → StartsOk sites logs cs told hs → NotBlocked sites logs told hs → (c : Choice E) → ChoiceOk sites logs told c → (b : ℕ) → IsStarted hs b
      → c.ballot ≤ b → (length c.log ≤ length (logs b)) × Same (length c.log) c.log (logs b)
  choice_above sites logs cs told hs ok free c cok b st le = ⊎_elim
      (λ (e : c.ballot ≡ b). let P : ℕ → Type 0 = λ x. (length c.log ≤ length (logs x)) × Same (length c.log) c.log (logs x) in subst P e
      (cok.within, cok.same))
      (λ (n : c.ballot ≡ b → ⊥). ⊎_elim (λ s. at_greater n s)
      (λ d. absurd (free c.ballot (length c.log) c.quorum (acked_choice sites logs told c cok)
      (record {
        place = length c.log;
        by = st.start;
        le = omega arith;
        within = cok.within;
        here = st.here;
        above = (let e = st.is in omega arith);
        differ = d;
      }))) (decide_same dec (length c.log) (initial st.start) (logs c.ballot)))
      (cases_eq c.ballot b)
    where
      at_greater : (c.ballot ≡ b → ⊥) → Same (length c.log) (initial st.start) (logs c.ballot)
          → (length c.log ≤ length (logs b)) × Same (length c.log) c.log (logs b)
      at_greater n s =
          let f = starts_in sites logs cs told hs st.start ok st.here in
          let long = same_length (length c.log) (initial st.start) (logs c.ballot) cok.within s in
          let P : ℕ → Type 0 = λ x. (length (initial st.start) ≤ length (logs x)) × Same (length (initial st.start)) (initial st.start) (logs x) in
          let g = subst P st.is f in
          (omega (arith, g.0), same_trans cok.same (same_trans (same_sym s) (same_less _ long g.1)))

  block_step : (sites : List ℕ) (logs : ℕ → List E) (cs : List (Choice E)) (told : List Acknowledgement)
      → ((c : Choice E) → In c cs → ChoiceOk sites logs told c) → (h : Start E) (hs : List (Start E)) → StartOk sites logs cs told h hs
      → StartsOk sites logs cs told hs → NotBlocked sites logs told hs → (b n : ℕ) (q : ℕ → Bool) → Acked sites told b n q → (m : ℕ) → m ≤ n
      → m ≤ length (logs b) → b < h.ballot → (Same m (initial h) (logs b) → ⊥) → ⊥
  block_step sites logs cs told choices h hs ok oks free b n q acked m le within above differ =
      let z = shared h.quorum q sites ok.majority acked.majority in
      let zs = and_parts _ _ z.2 in
      let a = acked.acks z.0 zs.1 some_length in
      let k = ok.acks z.0 b a.0 m zs.0 above a.2 (omega (arith, a.1)) in
      by_prefix k.0 k.1 ok.prefix_is
    where
      some_length : 0 < n
      some_length = let x = at_zero m differ in omega arith
        where
          at_zero : (k : ℕ) → (Same k (initial h) (logs b) → ⊥) → 0 < k
          at_zero zero d = absurd (d (record { at = λ k l. absurd (omega arith) }))
          at_zero (suc k) d = omega arith

      again : (x : ℕ) → x ≤ n → Blocked hs logs b x → ⊥
      again x l bl = free b n q acked (blocked_more n l bl)

      by_start : (x : ℕ) (y : Start E) → In y hs → x ≤ n → x ≤ length (logs b) → b < y.ballot → (Same x (initial y) (logs b) → ⊥) → ⊥
      by_start x y i l w a d = again x l (record { place = x; by = y; le = omega arith; within = w; here = i; above = a; differ = d })

      at_best : (Same m h.best (logs b) → ⊥) → BestOk hs logs cs h.best b m → ⊥
      at_best away (own w s) = away s
      at_best away (blocked bl) = again m le bl
      at_best away (learned c i st a l s) =
          again m le (blocked_by_choice sites logs cs told hs c b m oks (choices c i) st a l within (λ t. away (same_trans s t)))
      at_best away (later y i a l s) = by_start m y i le within a (λ t. away (same_trans s t))
      at_best away (short y i a l) = by_start m y i le within a (λ t. let x = same_length m (initial y) (logs b) within t in omega arith)
      at_best away (later_blocked y i a l w' ext bl) = ⊎_elim
          (λ (t : Same m (initial y) (logs b)).
          let w = bl.le in
          by_start bl.place bl.by bl.here (omega arith) (omega arith) (let v = bl.above in omega arith)
          (λ u. bl.differ (same_trans u (same_trans (same_sym (same_less bl.place w t)) (same_less bl.place (omega arith) ext)))))
          (λ d. by_start m y i le within a d)
          (decide_same dec m (initial y) (logs b))

      by_prefix : IsStarted hs b → BestOk hs logs cs h.best b m → (length h.prefix ≡ 0) ⊎ IsChosen hs cs h.prefix → ⊥
      by_prefix st best (inl e) = at_best (λ s. differ (record { at = λ k l. merged-back h.prefix h.best k (omega arith) ∙ s.at k l })) best
      by_prefix st best (inr p) = ⊎_elim
          (λ (a : b < p.choice.ballot). ⊎_elim
          (λ (l : m ≤ length h.prefix). ⊎_elim (λ s. differ (same_trans (front m l) s))
          (λ d. again m le (blocked_by_choice sites logs cs told hs p.choice b m oks (choices p.choice p.here) p.started a
          (let x = p.long in omega arith) within d)) (decide_same dec m p.choice.log (logs b)))
          (λ (l : length h.prefix < m). ⊎_elim (λ s. at_best (λ t. differ (both l s t)) best)
          (λ d. again (length h.prefix) (omega arith) (blocked_by_choice sites logs cs told hs p.choice b (length h.prefix) oks
          (choices p.choice p.here) p.started a p.long (omega arith) d)) (decide_same dec (length h.prefix) p.choice.log (logs b)))
          (le_or_lt m (length h.prefix)))
          (λ (a : p.choice.ballot ≤ b).
          let f = choice_above sites logs cs told hs oks free p.choice (choices p.choice p.here) b st a in
          ⊎_elim
          (λ (l : m ≤ length h.prefix). differ (same_trans (front m l) (same_less m (let x = p.long in omega arith) f.1)))
          (λ (l : length h.prefix < m). at_best (λ t. differ (both l (same_less (length h.prefix) p.long f.1) t)) best)
          (le_or_lt m (length h.prefix)))
          (cases_lt b p.choice.ballot)
        where
          le_or_lt : (x y : ℕ) → (x ≤ y) ⊎ (y < x)
          le_or_lt x y = ⊎_elim (λ a. inr a) (λ a. inl a) (cases_lt y x)

          front : (x : ℕ) → x ≤ length h.prefix → Same x (initial h) p.choice.log
          front x l = same_trans (same_less x l (merged-front h.prefix h.best)) (same_less x l p.same)

          both : length h.prefix < m → Same (length h.prefix) p.choice.log (logs b) → Same m h.best (logs b) → Same m (initial h) (logs b)
          both l s t = record {
            at = λ k r. ⊎_elim
                (λ (inside : k < length h.prefix). (front (length h.prefix) (omega arith)).at k inside ∙ s.at k inside)
                (λ (out : length h.prefix ≤ k). merged-back h.prefix h.best k out ∙ t.at k r)
                (cases_lt k (length h.prefix));
          }

  pub not_blocked : (sites : List ℕ) (logs : ℕ → List E) (cs : List (Choice E)) (told : List Acknowledgement)
      → ((c : Choice E) → In c cs → ChoiceOk sites logs told c) → (hs : List (Start E)) → StartsOk sites logs cs told hs
      → NotBlocked sites logs told hs
  not_blocked sites logs cs told choices [] ok b n q acked bl = bl.here
  not_blocked sites logs cs told choices (h ∷ hs) ok b n q acked bl =
      let free = not_blocked sites logs cs told choices hs ok.1 in
      ⊎_elim
      (λ (e : h ≡ bl.by). let P : Start E → Type 0 = λ x. (b < x.ballot) × (Same bl.place (initial x) (logs b) → ⊥) in let f = subst P (sym e)
      (bl.above, bl.differ) in block_step sites logs cs told choices h hs ok.0 ok.1 free b n q acked bl.place bl.le bl.within f.0 f.1)
      (λ i. free b n q acked (record { place = bl.place; by = bl.by; le = bl.le; within = bl.within; here = i; above = bl.above; differ = bl.differ }))
      bl.here

  -- AGREEMENT: of two choices the shorter is a prefix of the longer
  pub comparable : (sites : List ℕ) (logs : ℕ → List E) (cs : List (Choice E)) (told : List Acknowledgement) (hs : List (Start E))
      → StartsOk sites logs cs told hs → NotBlocked sites logs told hs → (c d : Choice E) → ChoiceOk sites logs told c → ChoiceOk sites logs told d
      → IsStarted hs c.ballot → IsStarted hs d.ballot → length c.log ≤ length d.log → Same (length c.log) c.log d.log
  comparable sites logs cs told hs ok free c d cok dok cst dst le = ⊎_elim
      (λ (l : c.ballot < d.ballot). same_trans (choice_above sites logs cs told hs ok free c cok d.ballot dst (omega arith)).1
      (same_sym (same_less _ le dok.same)))
      (λ (l : d.ballot ≤ c.ballot). same_trans cok.same (same_sym (same_less _ le (choice_above sites logs cs told hs ok free d dok c.ballot cst l).1)))
      (cases_lt c.ballot d.ballot)
