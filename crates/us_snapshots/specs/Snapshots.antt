-- Snapshot histories: what a history, and a list of its decided transactions, must keep for its execution to be consistent.
use Rattle.std.specs.Prelude.{◌≡◌, ◌⊎◌, ℕ, ◌<◌, ◌≤◌, List, [], ◌∷◌, ◌++◌, Bool, true, false}
use Rattle.us_kind.specs.Comparison.{In}
use Rattle.us_kind.specs.Updates.{AllLater}
use Rattle.us_kind.specs.declared.identity.Tid.{Tid}
use Rattle.us_base.specs.Vector.{entry, at_most, sum_of}
use Rattle.us_value.specs.declared.item.Write.{Write}
use Rattle.us_value.specs.declared.operation.Kind.{Kind}
use Rattle.us_value.specs.Values.{answered}
use Rattle.us_exec.specs.declared.Done.{Done}
use Rattle.us_exec.specs.declared.Link.{Link}
use Rattle.us_exec.specs.WellFormed.{IsOfCoordinator}
use Rattle.us_history.specs.declared.LogTx.{LogTx}
use Rattle.us_history.specs.Histories.{Begun, Committed, History, AreNumbered, has_own_vector, ops_of}
use Rattle.us_history.specs.States.{own_sum}
use Rattle.us_snapshots.specs.Acts.{Fits, writes_in, met_by, acts_of}

-- NAMES
-- of two of a session, the first that is decided was begun first
abbrev pub IsBegunFirst : Committed → Committed → Type 0
IsBegunFirst c d = c.begun.session ≡ d.begun.session → c.begun.tid.seq < d.begun.tid.seq

pub record AreNamed (h : History) : Type 0 where
  -- no transaction is begun twice, nor decided twice
  pub begun_once : AllLater (λ (b c : Begun). b.tid ≡ c.tid → ⊥) h.begun
  pub decided_once : AllLater (λ (c d : Committed). c.begun.tid ≡ d.begun.tid → ⊥) h.committed
  -- each is of its session's coordinator
  pub coordinators : (b : Begun) → In b h.begun → IsOfCoordinator b.tid b.session
  -- each decided one was begun, and has the operations that were performed
  pub begun : (c : Committed) → In c h.committed → In c.begun h.begun
  pub ops : (c : Committed) → In c h.committed → c.ops ≡ ops_of c.begun.tid h.performed
  -- a session's transactions are decided in the order in which they were begun, and numbered from 1
  pub in_order : AllLater IsBegunFirst h.committed
  pub numbered : AreNumbered h.committed

-- LINKS
-- the session of t goes on from c by a link, which reaches it
pub record GoesOnFrom (links : List Link) (t : Begun) (c : Committed) : Type 0 where
  pub link : Link
  pub here : In link links
  pub session : link.session ≡ t.session
  pub from : link.from ≡ c.begun.session
  pub count : c.number ≤ link.count

-- SNAPSHOTS
pub record SnapshotsCover (h : History) : Type 0 where
  -- each is at least the vector of every transaction that its session committed before
  pub earlier : (c : Committed) (b : Begun) → In c h.committed → In b h.begun
      → c.begun.session ≡ b.session → c.begun.tid.seq < b.tid.seq → at_most c.vector b.snapshot ≡ true
  -- and of every one that its session goes on from
  pub linked : (c : Committed) (b : Begun) → In c h.committed → In b h.begun → GoesOnFrom h.links b c → at_most c.vector b.snapshot ≡ true

-- a transaction isn't of a session that goes on from it, and is decided before those of such a session
pub record LinksLeadOn (h : History) : Type 0 where
  pub other : (c : Committed) (b : Begun) → In c h.committed → In b h.begun → GoesOnFrom h.links b c → c.begun.tid ≡ b.tid → ⊥
  pub first : AllLater (λ (c d : Committed). GoesOnFrom h.links c.begun d → ⊥) h.committed

-- VECTORS
-- a vector is above another in some entry
pub record IsAbove (low high : List ℕ) : Type 0 where
  pub place : ℕ
  pub less : entry low place < entry high place

-- a transaction's vector is at least its snapshot. One of its own is above it in some entry, and every other is the snapshot
pub record HasVector (c : Committed) : Type 0 where
  pub at_least : at_most c.begun.snapshot c.vector ≡ true
  pub above : has_own_vector c ≡ true → IsAbove c.begun.snapshot c.vector
  pub same : has_own_vector c ≡ false → c.vector ≡ c.begun.snapshot

-- THE DECIDED ONES
-- what the transaction wrote: for each update the effect that is prepared at the state that it met
abbrev pub writes_of : List (ℕ × Kind) → List LogTx → Committed → List Write
writes_of spaces decided c = writes_in (acts_of spaces decided c.begun.tid c.begun.snapshot c.ops)

-- one of the list is a committed transaction, with its vector and what it wrote
pub record IsDecision (spaces : List (ℕ × Kind)) (decided : List LogTx) (cs : List Committed) (e : LogTx) : Type 0 where
  pub decision : Committed
  pub here : In decision cs
  pub tid_is : decision.begun.tid ≡ e.tid
  pub vector_is : decision.vector ≡ e.vector
  pub writes_is : writes_of spaces decided decision ≡ e.writes

-- a committed transaction stands in the list
pub record IsListed (decided : List LogTx) (c : Committed) : Type 0 where
  pub entry_of : LogTx
  pub here : In entry_of decided
  pub tid_is : entry_of.tid ≡ c.begun.tid

-- the list holds committed transactions, each once, and all that have a vector of their own
pub record AreDecided (spaces : List (ℕ × Kind)) (h : History) (decided : List LogTx) : Type 0 where
  pub once : AllLater (λ (e f : LogTx). e.tid ≡ f.tid → ⊥) decided
  pub each : (e : LogTx) → In e decided → IsDecision spaces decided h.committed e
  pub all : (c : Committed) → In c h.committed → has_own_vector c ≡ true → IsListed decided c

-- ANSWERS: an operation is answered at the state that the decided ones in the snapshot give, and then the operations before it
pub record IsAnswered (spaces : List (ℕ × Kind)) (decided : List LogTx) (tid : Tid) (snapshot : List ℕ) (before : List Done) (a : Done) : Type 0 where
  pub fits : Fits spaces a.item a.op
  -- the sum under which its own effects count is above those in the snapshot
  pub small : sum_of snapshot < own_sum
  pub is : a.answer ≡ answered a.op (met_by spaces decided tid snapshot a.item (acts_of spaces decided tid snapshot before))

-- each operation of a transaction is, after these
abbrev pub AllAnswered : List (ℕ × Kind) → List LogTx → Tid → List ℕ → List Done → List Done → Type 0
AllAnswered spaces decided tid snapshot before [] = Unit {0}
AllAnswered spaces decided tid snapshot before (a ∷ rest) =
    IsAnswered spaces decided tid snapshot before a × AllAnswered spaces decided tid snapshot (before ++ a ∷ []) rest

-- STRONG ONES: of two that conflict by their operations, the vector of one is at most the snapshot of the other
abbrev pub AreCertified : (List Done → List Done → Bool) → List Committed → Type 0
AreCertified conflicts cs =
    (c d : Committed) → In c cs → In d cs → (c.begun.tid ≡ d.begun.tid → ⊥) → c.strong ≡ true → d.strong ≡ true
    → conflicts c.ops d.ops ≡ true → (at_most c.vector d.begun.snapshot ≡ true) ⊎ (at_most d.vector c.begun.snapshot ≡ true)

-- A SNAPSHOT HISTORY, with a list of its decided transactions
pub record IsSnapshotHistory (spaces : List (ℕ × Kind)) (conflicts : List Done → List Done → Bool) (h : History) (decided : List LogTx) : Type 0 where
  pub names : AreNamed h
  pub links : LinksLeadOn h
  pub snapshots : SnapshotsCover h
  pub vectors : (c : Committed) → In c h.committed → HasVector c
  pub decisions : AreDecided spaces h decided
  -- of running and abandoned transactions too
  pub answers : (b : Begun) → In b h.begun → AllAnswered spaces decided b.tid b.snapshot [] (ops_of b.tid h.performed)
  pub certified : AreCertified conflicts h.committed
