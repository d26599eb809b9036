-- Every session in turn.
use Rattle.std.proofs.Common.{◌≡◌, ⊎_elim, ℕ, ◌<◌, ◌≤◌, List, [], ◌∷◌, Bool, sym, ap, subst, filter, arith}
use Rattle.std.proofs.lemmas.Bool.{cond_both}
use Rattle.std.specs.Prelude.{Option}
use Rattle.us_kind.specs.Comparison.{In}
use Rattle.us_kind.proofs.ListLemmas.{in_grown, IsPrefix}
use Rattle.us_exec.specs.declared.SessionName.{SessionName}
use Rattle.us_peer_wire.specs.declared.message.Message.{Message}
use Rattle.us_history.specs.declared.LogTx.{LogTx}
use Rattle.us_model.specs.declared.coordinator.Transaction.{Transaction}
use Rattle.us_model.specs.declared.coordinator.QueuedRequest.{QueuedRequest}
use Rattle.us_model.specs.declared.coordinator.Await.{Await}
use Rattle.us_model.specs.declared.coordinator.Session.{Session}
use Rattle.us_model.specs.declared.coordinator.Context.{Context}
use Rattle.us_model.specs.State.{Partition, Spaces}
use Rattle.us_history.specs.Histories.{Begun}
use Rattle.us_model.specs.Sessions.{SessionStep}
use Rattle.us_model.specs.Coordinators.{SessionsStep, each_session}
use Rattle.us_order.proofs.Ledgers.{Ledger, Stands}
use Rattle.us_order.proofs.Facts.{PartitionFacts, SharedFacts, SessionFacts, Grows, session_frame}
use Rattle.us_order.proofs.Sessions.{Facts, Preserves}

-- the facts of the sessions, whose numbers go up, from above k to top at most
abbrev pub AllSessions : Spaces → List LogTx → Ledger → ℕ → List Session → ℕ → Type 0
AllSessions spaces log l k [] top = k ≤ top
AllSessions spaces log l k (s ∷ ss) top =
    (k < s.number) × SessionFacts spaces log l s.number s.past s.running s.waits s.requests s.asked × AllSessions spaces log l s.number ss top

abbrev pub BegunUpTo : ℕ → Ledger → Type 0
BegunUpTo n l = (b : Begun) → In b l.history.begun → b.session.number ≤ n

all_within : (spaces : Spaces) (log : List LogTx) (l : Ledger) (k : ℕ) (ss : List Session) (top : ℕ) → AllSessions spaces log l k ss top → k ≤ top
all_within spaces log l k [] top h = h
all_within spaces log l k (s ∷ ss) top h = omega (arith, h.0, all_within spaces log l s.number ss top h.2)

all_below : (spaces : Spaces) (log : List LogTx) (l : Ledger) (j k : ℕ) (ss : List Session) (top : ℕ) → j ≤ k → AllSessions spaces log l k ss top
    → AllSessions spaces log l j ss top
all_below spaces log l j k [] top less h = omega (arith, h)
all_below spaces log l j k (s ∷ ss) top less h = (omega (arith, h.0), h.1, h.2)

-- sessions that are forgotten take their facts with them
pub all_filter : (spaces : Spaces) (log : List LogTx) (l : Ledger) (test : Session → Bool) (k : ℕ) (ss : List Session) (top : ℕ)
    → AllSessions spaces log l k ss top → AllSessions spaces log l k (filter test ss) top
all_filter spaces log l test k [] top h = h
all_filter spaces log l test k (s ∷ ss) top h =
    let rest = all_filter spaces log l test s.number ss top h.2 in
    cond_both (test s) (s ∷ filter test ss) (filter test ss) (λ xs. AllSessions spaces log l k xs top)
    (λ _. (h.0, h.1, rest))
    (λ _. all_below spaces log l k s.number (filter test ss) top (omega (arith, h.0)) rest)

pub record EachKept (spaces : Spaces) (b : Ledger) (p : Partition) (l : Ledger) (k : ℕ) (top : ℕ) (all' : SessionsStep) : Type 0 where
  pub ledger : Ledger
  pub stands : Stands b p ledger all'.context
  pub part : PartitionFacts spaces p ledger
  pub all : SharedFacts ledger
  pub sessions : AllSessions spaces p.log ledger k all'.sessions top
  pub frame : (m : ℕ) (past : List ℕ) (running : Option Transaction) (w : Await) (requests : List QueuedRequest) (asked : ℕ) → m ≤ k
      → SessionFacts spaces p.log l m past running w requests asked → SessionFacts spaces p.log ledger m past running w requests asked
  pub begun : (m : ℕ) → top ≤ m → BegunUpTo m l → BegunUpTo m ledger

-- another session's step leaves those above k
all_frame : (spaces : Spaces) (log : List LogTx) (n : ℕ) (l l' : Ledger) (k : ℕ) (ss : List Session) (top : ℕ) → SharedFacts l' → Grows n l l'
    → n ≤ k → AllSessions spaces log l k ss top → AllSessions spaces log l' k ss top
all_frame spaces log n l l' k [] top all g less h = h
all_frame spaces log n l l' k (s ∷ ss) top all g less h = (
  h.0,
  session_frame spaces log n s.number l l' s.past s.running s.waits s.requests s.asked all g (λ e. let f = h.0 in omega arith) h.1,
  all_frame spaces log n l l' s.number ss top all g (omega (arith, h.0)) h.2,
)

pub each_keeps : (spaces : Spaces) (b : Ledger) (p : Partition) (f : Context → Session → SessionStep) (Q : List Message → Type 0)
    → ((ms ms' : List Message) → IsPrefix ms ms' → Q ms → Q ms')
    → ((l : Ledger) (d : Context) (s : Session) → Q l.messages → Stands b p l d → Facts spaces p l s → Preserves spaces b p l s.number (f d s))
    → (l : Ledger) (d : Context) (k : ℕ) (ss : List Session) (top : ℕ) → Q l.messages → Stands b p l d → PartitionFacts spaces p l → SharedFacts l
    → AllSessions spaces p.log l k ss top → EachKept spaces b p l k top (each_session f d ss)
each_keeps spaces b p f Q more keeps l d k [] top q st part all h =
    record {
      ledger = l;
      stands = st;
      part = part;
      all = all;
      sessions = h;
      frame = λ m past running w requests asked less x. x;
      begun = λ m le x. x;
    }
each_keeps spaces b p f Q more keeps l d k (s ∷ ss) top q st part all h =
    let a = f d s in
    let ka = keeps l d s q st (record { part = part; all = all; mine = h.1 }) in
    let l' = ka.ledger in
    let num : a.session.number ≡ s.number = ka.number in
    let above : k < s.number = h.0 in
    let within = all_within spaces p.log l s.number ss top h.2 in
    let rest = all_frame spaces p.log s.number l l' s.number ss top ka.facts.all ka.grow (omega arith) h.2 in
    let e = each_keeps spaces b p f Q more keeps l' a.context s.number ss top (more _ _ ka.grow.messages q) ka.stands ka.facts.part ka.facts.all rest in
    let others = (each_session f a.context ss).sessions in
    record {
      ledger = e.ledger;
      stands = e.stands;
      part = e.part;
      all = e.all;
      sessions = (
        omega arith,
        e.frame a.session.number a.session.past a.session.running a.session.waits a.session.requests a.session.asked (omega arith) ka.facts.mine,
        subst (λ n. AllSessions spaces p.log e.ledger n others top) (sym num) e.sessions,
      );
      frame =
          λ m past running w requests asked less x. e.frame m past running w requests asked (omega arith)
          (session_frame spaces p.log s.number m l l' past running w requests asked ka.facts.all ka.grow (λ y. omega arith) x);
      begun =
          λ m le x. e.begun m le (λ y i. ⊎_elim (λ j. x y j)
          (λ j. let z : y.session.number ≡ s.number = ap (λ (r : SessionName). r.number) (ka.grow.begins y j) in omega arith)
          (in_grown y ka.grow.begun i));
    }
