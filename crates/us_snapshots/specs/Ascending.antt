-- What a binary search for a past needs of a history.
use Rattle.std.specs.Prelude.{◌≡◌, ◌<◌, List, [], true}
use Rattle.us_kind.specs.Comparison.{In}
use Rattle.us_base.specs.Vector.{at_most}
use Rattle.us_history.specs.Histories.{Begun, Committed, History, has_own_vector}

-- in each session the transactions and their vectors ascend with the numbers
pub record SessionsAscend (cs : List Committed) : Type 0 where
  pub seqs : (c d : Committed) → In c cs → In d cs → c.begun.session ≡ d.begun.session → c.number < d.number → c.begun.tid.seq < d.begun.tid.seq
  pub vectors : (c d : Committed) → In c cs → In d cs → c.begun.session ≡ d.begun.session → c.number < d.number → at_most c.vector d.vector ≡ true

-- no transaction with a vector of its own is in its own snapshot
abbrev pub IsNotInItsOwn : List Committed → Begun → Type 0
IsNotInItsOwn cs t = (c : Committed) → In c cs → has_own_vector c ≡ true → at_most c.vector t.snapshot ≡ true → c.begun.tid ≡ t.tid → ⊥

pub record Ascends (h : History) : Type 0 where
  pub unlinked : h.links ≡ []
  pub sessions : SessionsAscend h.committed
  pub committed : (d : Committed) → In d h.committed → IsNotInItsOwn h.committed d.begun
  pub begun : (t : Begun) → In t h.begun → IsNotInItsOwn h.committed t
