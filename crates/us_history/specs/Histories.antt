-- A history: what happened to a store's transactions.
use Rattle.std.specs.Prelude.{◌≡◌, ℕ, ◌+◌, List, [], ◌∷◌, length, map, filter, Bool, ◌||◌, if◌then◌else◌, Option, Some, None}
use Rattle.std.specs.List.{list_any, range_with_len}
use Rattle.us_kind.specs.Comparison.{tid_eq}
use Rattle.us_kind.specs.declared.identity.Tid.{Tid}
use Rattle.us_value.specs.declared.item.Item.{Item}
use Rattle.us_value.specs.Values.{is_update}
use Rattle.us_exec.specs.declared.SessionName.{SessionName}
use Rattle.us_exec.specs.declared.Done.{Done}
use Rattle.us_exec.specs.declared.Link.{Link}
use Rattle.us_exec.specs.declared.RefusedRequest.{RefusedRequest}
use Rattle.us_exec.specs.Past.{session_eq}

pub record Begun : Type 0 where
  pub tid : Tid
  pub session : SessionName
  pub snapshot : List ℕ

pub record Performed : Type 0 where
  pub tid : Tid
  pub done : Done

-- a committed transaction, the number-th of its session
pub record Committed : Type 0 where
  pub begun : Begun
  pub number : ℕ
  pub strong : Bool
  pub vector : List ℕ
  pub ops : List Done

-- a transaction that was aborted by a conflict with another one on an item
pub record Aborted : Type 0 where
  pub tid : Tid
  pub named : Tid
  pub item : Item

-- A HISTORY: what happened, by kind, each in order
pub record History : Type 0 where
  pub begun : List Begun
  pub performed : List Performed
  pub committed : List Committed
  pub left : List Tid
  pub aborted : List Aborted
  pub links : List Link
  pub refused : List RefusedRequest

abbrev pub no_history : History
no_history = record { begun = []; performed = []; committed = []; left = []; aborted = []; links = []; refused = [] }

abbrev pub begun_of : Tid → List Begun → Option Begun
begun_of tid [] = None
begun_of tid (b ∷ bs) = if tid_eq b.tid tid then Some b else begun_of tid bs

abbrev pub ops_of : Tid → List Performed → List Done
ops_of tid [] = []
ops_of tid (p ∷ ps) = if tid_eq p.tid tid then p.done ∷ ops_of tid ps else ops_of tid ps

abbrev pub is_committed : Tid → List Committed → Bool
is_committed tid cs = list_any (λ (c : Committed). tid_eq c.begun.tid tid) cs

-- how many transactions of the session are committed
abbrev pub committed_in : SessionName → List Committed → ℕ
committed_in s [] = 0
committed_in s (c ∷ cs) = if session_eq c.begun.session s then committed_in s cs + 1 else committed_in s cs

-- the committed transactions of a session
abbrev pub of_session : SessionName → List Committed → List Committed
of_session s cs = filter (λ (c : Committed). session_eq c.begun.session s) cs

-- in each session they are numbered from 1
abbrev pub AreNumbered : List Committed → Type 0
AreNumbered cs = (s : SessionName) → map (λ (c : Committed). c.number) (of_session s cs) ≡ range_with_len 1 (length (of_session s cs))

-- some operation updates
abbrev pub some_update : List Done → Bool
some_update ds = list_any (λ (d : Done). is_update d.op) ds

-- it has a commit vector of its own: it is strong, or it updates. The vector of every other one is its snapshot
abbrev pub has_own_vector : Committed → Bool
has_own_vector c = c.strong || some_update c.ops
