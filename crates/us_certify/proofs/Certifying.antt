-- Of two slots of a log: a transaction is decided once, and of two that commit and conflict the later one holds the earlier one.
use Rattle.std.proofs.Common.{◌≡◌, ℕ, zero, suc, ◌<◌, List, take, slice_get, Bool, true, false, Some, refl, sym, ◌∙◌, subst, arith}
use Rattle.std.proofs.lemmas.Bool.{cond-true}
use Rattle.us_base.specs.Vector.{at_most}
use Rattle.us_value.specs.declared.operation.Class.{Class}
use Rattle.us_conflict.specs.Conflicts.{transactions_conflict}
use Rattle.us_peer_wire.specs.declared.message.LogEntry.{LogEntry}
use Rattle.us_peer_wire.specs.declared.message.Verdict.TheVariants.{Commit, Repeat}
use Rattle.us_certify.specs.declared.decision.Decision.{Decision}
use Rattle.us_certify.specs.Certification.{certified, vector_in}
use Rattle.us_certify.specs.Laws.{IsVerdict, StandsIn}
use Rattle.us_certify.proofs.Fronts.{Decided, decided}
use Rattle.us_certify.proofs.Reasons.{held-test, verdict-says_why}

module _ (pairs : List (ℕ × Class × Class)) (es : List LogEntry) where
  -- what stands in an earlier slot stands in the front of the log
  in_front : (j k : ℕ) (c d : Decision) (at : Decided pairs es k d) → j < k → slice_get (certified pairs es) j ≡ Some c
      → slice_get (certified pairs (take k es)) j ≡ Some c
  in_front j k c d at below here = sym (at.front j below) ∙ here

  pub decided_once : (slot later : ℕ) (c d : Decision) → slot < later → StandsIn (certified pairs es) slot c → StandsIn (certified pairs es) later d
      → c.entry.tid ≡ d.entry.tid → d.verdict ≡ Repeat
  decided_once zero later c d below here there same = absurd (cc)
  decided_once (suc j) zero c d below here there same = absurd (cc)
  decided_once (suc j) (suc k) c d below here there same =
      let at = decided pairs es k d there in
      let front = certified pairs (take k es) in
      at.verdict ∙ cond-true _ _ _ (held-test front j c d.entry.tid (in_front j k c d at (omega (arith, below)) here) same)

  pub conflicts_seen : (slot later : ℕ) (c d : Decision) → slot < later → StandsIn (certified pairs es) slot c → StandsIn (certified pairs es) later d
      → c.verdict ≡ Commit → d.verdict ≡ Commit → transactions_conflict pairs d.entry.touches c.entry.touches ≡ true
      → at_most (vector_in slot c.entry) d.entry.snapshot ≡ true
  conflicts_seen zero later c d below here there first second conflict = absurd (cc)
  conflicts_seen (suc j) zero c d below here there first second conflict = absurd (cc)
  conflicts_seen (suc j) (suc k) c d below here there first second conflict = on (at_most (vector_in (suc j) c.entry) d.entry.snapshot) refl
    where
      on : (b : Bool) → at_most (vector_in (suc j) c.entry) d.entry.snapshot ≡ b → b ≡ true
      on true e = refl
      on false e =
          let at = decided pairs es k d there in
          let front = certified pairs (take k es) in
          let long = at.long in
          let says = subst (IsVerdict pairs front d.entry) (sym at.verdict ∙ second) (verdict-says_why pairs d.entry front) in
          absurd
          (says.1 (suc j) c (omega (arith, below, long)) (in_front j k c d at (omega (arith, below)) here)
          (record { committed = first; conflicts = conflict; unseen = e }))
