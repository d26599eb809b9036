-- After every note each session's committed transactions are numbered from 1, and all are causal.
use Rattle.std.proofs.Common.{◌≡◌, List, [], ◌∷◌, false, Option, Some, None, refl}
use Rattle.us_kind.specs.Comparison.{In}
use Rattle.us_kind.proofs.ListLemmas.{in_push}
use Rattle.us_history.specs.Histories.{Begun, Committed, History, AreNumbered, no_history, begun_of}
use Rattle.us_snapshots.proofs.Numbers.{numbers_more}
use Rattle.us_model.specs.declared.event.Note.{Note}
use Rattle.us_model.specs.declared.event.Note.TheVariants as note
use Rattle.us_model.specs.Executions.{decided_as, decided_one, noted, noted_all, history_of}

numbers_note : (h : History) (n : Note) → AreNumbered h.committed → AreNumbered (noted h n).committed
numbers_note h (note.Opened coord session) are = are
numbers_note h (note.Begun tid session snapshot) are = are
numbers_note h (note.Performed tid done) are = are
numbers_note h (note.Decided tid vector) are = on (begun_of tid h.begun)
  where
    on : (b : Option Begun) → AreNumbered (decided_one h false vector b).committed
    on None = are
    on (Some b) = numbers_more h.committed (decided_as h false vector b) are refl
numbers_note h (note.Left tid) are = are
numbers_note h (note.Refused session at number) are = are

numbers_notes : (h : History) (ns : List Note) → AreNumbered h.committed → AreNumbered (noted_all h ns).committed
numbers_notes h [] are = are
numbers_notes h (n ∷ ns) are = numbers_notes (noted h n) ns (numbers_note h n are)

pub history_numbered : (ns : List Note) → AreNumbered (history_of ns).committed
history_numbered ns = numbers_notes no_history ns (λ s. refl)

-- no transaction is strong, and no session goes on from another one
pub record IsPlain (h : History) : Type 0 where
  pub causal : (c : Committed) → In c h.committed → c.strong ≡ false
  pub unlinked : h.links ≡ []

plain_note : (h : History) (n : Note) → IsPlain h → IsPlain (noted h n)
plain_note h (note.Opened coord session) p = p
plain_note h (note.Begun tid session snapshot) p = record { causal = p.causal; unlinked = p.unlinked }
plain_note h (note.Performed tid done) p = record { causal = p.causal; unlinked = p.unlinked }
plain_note h (note.Decided tid vector) p = on (begun_of tid h.begun)
  where
    on : (b : Option Begun) → IsPlain (decided_one h false vector b)
    on None = p
    on (Some b) = record {
      causal = in_push (λ (c : Committed). c.strong ≡ false) h.committed (decided_as h false vector b) p.causal refl;
      unlinked = p.unlinked;
    }
plain_note h (note.Left tid) p = record { causal = p.causal; unlinked = p.unlinked }
plain_note h (note.Refused session at number) p = record { causal = p.causal; unlinked = p.unlinked }

plain_notes : (h : History) (ns : List Note) → IsPlain h → IsPlain (noted_all h ns)
plain_notes h [] p = p
plain_notes h (n ∷ ns) p = plain_notes (noted h n) ns (plain_note h n p)

pub history_plain : (ns : List Note) → IsPlain (history_of ns)
history_plain ns = plain_notes no_history ns (record { causal = λ c i. absurd i; unlinked = refl })
