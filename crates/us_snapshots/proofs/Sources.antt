-- Where the entries and the loose transactions of an execution come from.
use Rattle.std.proofs.Common.{◌≡◌, inl, inr, List, [], ◌∷◌, Bool, true, false, refl, ap, cond}
use Rattle.us_kind.specs.Comparison.{In}
use Rattle.us_exec.specs.declared.Count.{Count}
use Rattle.us_exec.specs.declared.Entry.{Entry}
use Rattle.us_exec.specs.declared.Loose.{Loose}
use Rattle.us_exec.specs.Consistency.{StandsBefore}
use Rattle.us_history.specs.Histories.{Begun, Committed, History, is_committed}
use Rattle.us_history.specs.Executions.{entry_of, entries_of, loose_one, loose_of}
use Rattle.us_snapshots.proofs.Stands.{StandsEarlier}

pub record FromEntry (past : Begun → List Count) (cs : List Committed) (e : Entry) : Type 0 where
  pub source : Committed
  pub here : In source cs
  pub is : entry_of past source ≡ e

pub from_entry : (past : Begun → List Count) (cs : List Committed) (e : Entry) → In e (entries_of past cs) → FromEntry past cs e
from_entry past [] e h = absurd h
from_entry past (c ∷ cs) e (inl k) = record { source = c; here = inl refl; is = k }
from_entry past (c ∷ cs) e (inr h) = let f = from_entry past cs e h in record { source = f.source; here = inr f.here; is = f.is }

pub record FromLoose (past : Begun → List Count) (h : History) (bs : List Begun) (l : Loose) : Type 0 where
  pub source : Begun
  pub here : In source bs
  pub is : loose_one past h source ≡ l

pub from_loose : (past : Begun → List Count) (h : History) (bs : List Begun) (l : Loose) → In l (loose_of past h bs) → FromLoose past h bs l
from_loose past h [] l i = absurd i
from_loose past h (b ∷ bs) l i = on (is_committed b.tid h.committed) i (from_loose past h bs l)
  where
    more : FromLoose past h bs l → FromLoose past h (b ∷ bs) l
    more f = record { source = f.source; here = inr f.here; is = f.is }

    on : (t : Bool) → In l (cond t (loose_of past h bs) (loose_one past h b ∷ loose_of past h bs)) → (In l (loose_of past h bs) → FromLoose past h bs l)
        → FromLoose past h (b ∷ bs) l
    on true i again = more (again i)
    on false (inl e) again = record { source = b; here = inl refl; is = e }
    on false (inr i) again = more (again i)

pub in_entries : (past : Begun → List Count) (cs : List Committed) (c : Committed) → In c cs → In (entry_of past c) (entries_of past cs)
in_entries past [] c h = absurd h
in_entries past (d ∷ cs) c (inl e) = inl (ap (entry_of past) e)
in_entries past (d ∷ cs) c (inr h) = inr (in_entries past cs c h)

pub entries_stand : (past : Begun → List Count) (cs : List Committed) (c d : Committed) → StandsEarlier c d cs
    → StandsBefore (entry_of past c) (entry_of past d) (entries_of past cs)
entries_stand past [] c d h = absurd h
entries_stand past (x ∷ cs) c d (inl e) = inl (ap (entry_of past) e.0, in_entries past cs d e.1)
entries_stand past (x ∷ cs) c d (inr h) = inr (entries_stand past cs c d h)
