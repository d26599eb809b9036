-- What the names of a snapshot history say of any two of its transactions.
use Rattle.std.proofs.Common.{◌≡◌, ⊎_elim, ◌<◌, ◌≤◌, sym, ap, arith}
use Rattle.us_kind.specs.Comparison.{In}
use Rattle.us_kind.proofs.ListLemmas.{filter_in}
use Rattle.us_exec.specs.Past.{session_eq}
use Rattle.us_history.specs.Histories.{Begun, Committed, History, committed_in, of_session}
use Rattle.us_snapshots.specs.Snapshots.{IsBegunFirst, AreNamed}
use Rattle.us_snapshots.proofs.Tests.{session_eq-same}
use Rattle.us_snapshots.proofs.Stands.{StandsEarlier, one_earlier, earlier_later, apart_one}
use Rattle.us_snapshots.proofs.Numbers.{counted_session, number_within, RisesInSession, numbers_ascend}

module _ {told : History} (names : AreNamed told) where
  pub begun_one : (b c : Begun) → In b told.begun → In c told.begun → b.tid ≡ c.tid → b ≡ c
  begun_one = apart_one (λ (b : Begun). b.tid) told.begun names.begun_once

  pub decided_one : (c d : Committed) → In c told.committed → In d told.committed → c.begun.tid ≡ d.begun.tid → c ≡ d
  decided_one = apart_one (λ (c : Committed). c.begun.tid) told.committed names.decided_once

  -- the one of a session that was begun first stands earlier, and has the lesser number
  pub stands : (c d : Committed) → In c told.committed → In d told.committed → c.begun.session ≡ d.begun.session → c.begun.tid.seq < d.begun.tid.seq
      → StandsEarlier c d told.committed
  stands c d i j same less = ⊎_elim
      (λ one. let k : c.begun.tid.seq ≡ d.begun.tid.seq = ap (λ (x : Committed). x.begun.tid.seq) one in absurd (omega arith))
      (λ two. ⊎_elim
      (λ first. first)
      (λ later. let k = earlier_later IsBegunFirst d c told.committed names.in_order later (sym same) in absurd (omega arith))
      two)
      (one_earlier c d told.committed i j)

  pub numbers : (c d : Committed) → In c told.committed → In d told.committed → c.begun.session ≡ d.begun.session → c.begun.tid.seq < d.begun.tid.seq
      → c.number < d.number
  numbers c d i j same less =
      earlier_later RisesInSession c d told.committed (numbers_ascend told.committed names.numbered) (stands c d i j same less) same

  pub numbered : (c : Committed) → In c told.committed → (1 ≤ c.number) × (c.number ≤ committed_in c.begun.session told.committed)
  numbered c i =
      let s = c.begun.session in
      let h = number_within 1 (of_session s told.committed) (names.numbered s) c
      (filter_in (λ (x : Committed). session_eq x.begun.session s) c told.committed i (session_eq-same s)) in
      let n = counted_session s told.committed in
      (h.0, omega (arith, h.1, n))
