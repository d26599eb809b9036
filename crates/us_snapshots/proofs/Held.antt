-- The transactions that a past holds, as an execution has them.
use Rattle.std.proofs.Common.{◌≡◌, inl, inr, List, [], ◌∷◌, Bool, true, false, ◌&&◌, refl, sym, ap, ◌∙◌, cond, true≢false}
use Rattle.std.proofs.lemmas.Bool.{and_parts, and_from}
use Rattle.us_kind.specs.Comparison.{In, tid_eq}
use Rattle.us_kind.specs.declared.identity.Tid.{Tid}
use Rattle.us_kind.proofs.TestLemmas.{tid_eq-true, tid_eq-same}
use Rattle.us_exec.specs.declared.Count.{Count}
use Rattle.us_exec.specs.declared.Entry.{Entry}
use Rattle.us_exec.specs.Past.{is_before}
use Rattle.us_exec.specs.Values.{holds_tid, past_in}
use Rattle.us_history.specs.Histories.{Begun, Committed}
use Rattle.us_history.specs.Executions.{entry_of, entries_of}
use Rattle.us_snapshots.proofs.Tests.{any-found, found-any}
use Rattle.us_snapshots.proofs.Sources.{from_entry, in_entries}

-- THE PAST OF A COMMITTED TRANSACTION, in the execution
pub past_in-of : (past : Begun → List Count) (cs : List Committed) (c : Committed) → ((d : Committed) → In d cs → d.begun.tid ≡ c.begun.tid → d ≡ c) → In c cs
    → past_in c.begun.tid (entries_of past cs) ≡ past c.begun
past_in-of past [] c once h = absurd h
past_in-of past (d ∷ cs) c once h = on (tid_eq d.begun.tid c.begun.tid) refl h (λ i. past_in-of past cs c (λ x k. once x (inr k)) i)
  where
    on : (b : Bool) → tid_eq d.begun.tid c.begun.tid ≡ b → In c (d ∷ cs) → (In c cs → past_in c.begun.tid (entries_of past cs) ≡ past c.begun)
        → cond b (past d.begun) (past_in c.begun.tid (entries_of past cs)) ≡ past c.begun
    on true e h again = ap (λ (x : Committed). past x.begun) (once d (inl refl) (tid_eq-true d.begun.tid c.begun.tid e))
    on false e (inl s) again = absurd (true≢false (sym (tid_eq-same c.begun.tid) ∙ ap (λ (x : Committed). tid_eq x.begun.tid c.begun.tid) (sym s) ∙ e))
    on false e (inr i) again = again i

pub holds_in : (pasts : Begun → List Count) (cs : List Committed) (c : Committed) (past : List Count) → In c cs → is_before (entry_of pasts c) past ≡ true
    → holds_tid c.begun.tid past (entries_of pasts cs) ≡ true
holds_in pasts cs c past i h =
    found-any (λ (e : Entry). tid_eq e.tid c.begun.tid && is_before e past) (entries_of pasts cs) (entry_of pasts c) (in_entries pasts cs c i)
    (and_from _ _ (tid_eq-same c.begun.tid) h)

-- a committed transaction that a past holds
pub record Held (pasts : Begun → List Count) (cs : List Committed) (past : List Count) (tid : Tid) : Type 0 where
  pub by : Committed
  pub here : In by cs
  pub tid_is : by.begun.tid ≡ tid
  pub holds : is_before (entry_of pasts by) past ≡ true

pub holds_by : (pasts : Begun → List Count) (cs : List Committed) (past : List Count) (tid : Tid) → holds_tid tid past (entries_of pasts cs) ≡ true
    → Held pasts cs past tid
holds_by pasts cs past tid h =
    let f = any-found (λ (e : Entry). tid_eq e.tid tid && is_before e past) (entries_of pasts cs) h in
    let g = from_entry pasts cs f.item f.here in
    let e = and_parts _ _ f.passes in
    record {
      by = g.source;
      here = g.here;
      tid_is = ap (λ (x : Entry). x.tid) g.is ∙ tid_eq-true f.item.tid tid e.0;
      holds = ap (λ x. is_before x past) g.is ∙ e.1;
    }
