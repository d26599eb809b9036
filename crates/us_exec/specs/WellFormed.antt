-- Well formed: an execution's transactions are told apart, numbered and counted.
use Rattle.std.specs.Prelude.{◌≡◌, ℕ, ◌<◌, ◌≤◌, List, length, map, filter, true}
use Rattle.std.specs.List.{range_with_len}
use Rattle.us_kind.specs.Comparison.{In}
use Rattle.us_kind.specs.Updates.{AllLater}
use Rattle.us_kind.specs.declared.identity.Tid.{Tid}
use Rattle.us_exec.specs.declared.SessionName.{SessionName}
use Rattle.us_exec.specs.declared.Count.{Count}
use Rattle.us_exec.specs.declared.Entry.{Entry}
use Rattle.us_exec.specs.declared.Loose.{Loose}
use Rattle.us_exec.specs.declared.Execution.{Execution}
use Rattle.us_exec.specs.Past.{session_eq, session_less}

-- the numbers of a session's transactions, in order
abbrev pub numbers_of : SessionName → List Entry → List ℕ
numbers_of s es = map (λ (e : Entry). e.number) (filter (λ (e : Entry). session_eq e.session s) es)

-- in the order of the entries each session's are numbered 1, 2 and so on
abbrev pub AreNumbered : Execution → Type 0
AreNumbered x = (s : SessionName) → numbers_of s x.entries ≡ range_with_len 1 (length (numbers_of s x.entries))

-- a transaction is of the coordinator of its session
pub record IsOfCoordinator (tid : Tid) (session : SessionName) : Type 0 where
  pub site : tid.site ≡ session.site
  pub coord : tid.coord ≡ session.coord

abbrev pub AreOfCoordinators : Execution → Type 0
AreOfCoordinators x = (e : Entry) → In e x.entries → IsOfCoordinator e.tid e.session

abbrev pub LooseAreOfCoordinators : Execution → Type 0
LooseAreOfCoordinators x = (l : Loose) → In l x.loose → IsOfCoordinator l.tid l.session

-- a session's transactions were begun in the order of their numbers
abbrev pub AreBegunInOrder : Execution → Type 0
AreBegunInOrder x = (d e : Entry) → In d x.entries → In e x.entries → d.session ≡ e.session → d.number < e.number → d.tid.seq < e.tid.seq

-- no two committed transactions have one name
abbrev pub AreNamedOnce : Execution → Type 0
AreNamedOnce x = (d e : Entry) → In d x.entries → In e x.entries → d.tid ≡ e.tid → d ≡ e

-- nor have two others
abbrev pub LooseAreNamedOnce : Execution → Type 0
LooseAreNamedOnce x = AllLater (λ (l m : Loose). l.tid ≡ m.tid → ⊥) x.loose

-- nor a committed one and another
abbrev pub AreNamedApart : Execution → Type 0
AreNamedApart x = (e : Entry) (l : Loose) → In e x.entries → In l x.loose → e.tid ≡ l.tid → ⊥

-- a past names each session once, ascending
abbrev pub NamesEachOnce : List Count → Type 0
NamesEachOnce past = AllLater (λ (a b : Count). session_less a.session b.session ≡ true) past

-- it counts at least one of its transactions
abbrev pub CountsFromOne : List Count → Type 0
CountsFromOne past = (c : Count) → In c past → 1 ≤ c.count

-- and at most all its committed ones
abbrev pub CountsWithin : List Entry → List Count → Type 0
CountsWithin entries past = (c : Count) → In c past → c.count ≤ length (numbers_of c.session entries)

-- a past counts what is there
pub record IsCounted (entries : List Entry) (past : List Count) : Type 0 where
  pub sessions : NamesEachOnce past
  pub from_one : CountsFromOne past
  pub within : CountsWithin entries past

-- WELL FORMED: a session's transactions are numbered as their coordinator began them, names tell transactions apart, and
-- pasts count what is there
pub record IsWellFormed (x : Execution) : Type 0 where
  pub numbers : AreNumbered x
  pub coordinators : AreOfCoordinators x
  pub loose_coordinators : LooseAreOfCoordinators x
  pub begun : AreBegunInOrder x
  pub once : AreNamedOnce x
  pub loose_once : LooseAreNamedOnce x
  pub apart : AreNamedApart x
  pub pasts : (e : Entry) → In e x.entries → IsCounted x.entries e.past
  pub loose_pasts : (l : Loose) → In l x.loose → IsCounted x.entries l.past
