-- The execution that a history tells.
use Rattle.std.specs.Prelude.{List, [], ◌∷◌, if◌then◌else◌}
use Rattle.std.specs.List.{list_any}
use Rattle.us_kind.specs.Comparison.{tid_eq}
use Rattle.us_kind.specs.declared.identity.Tid.{Tid}
use Rattle.us_exec.specs.declared.Count.{Count}
use Rattle.us_exec.specs.declared.Entry.{Entry}
use Rattle.us_exec.specs.declared.Loose.{Loose}
use Rattle.us_exec.specs.declared.LooseEnd.{LooseEnd}
use Rattle.us_exec.specs.declared.LooseEnd.TheVariants as end
use Rattle.us_exec.specs.declared.Execution.{Execution}
use Rattle.us_history.specs.Histories.{Begun, Committed, Aborted, History, ops_of, is_committed}
use Rattle.us_history.specs.Arbitration.{arbitrated}

-- a committed transaction, each transaction having this past
abbrev pub entry_of : (Begun → List Count) → Committed → Entry
entry_of past c =
    record { tid = c.begun.tid; session = c.begun.session; number = c.number; strong = c.strong; ops = c.ops; past = past c.begun }

abbrev pub entries_of : (Begun → List Count) → List Committed → List Entry
entries_of past [] = []
entries_of past (c ∷ cs) = entry_of past c ∷ entries_of past cs

-- how a transaction that isn't committed stands: aborted, or left, or open
abbrev pub end_of : Tid → List Aborted → List Tid → LooseEnd
end_of tid [] left = if list_any (λ t. tid_eq t tid) left then end.Left else end.Open
end_of tid (a ∷ rest) left = if tid_eq a.tid tid then end.Aborted a.named a.item else end_of tid rest left

abbrev pub loose_one : (Begun → List Count) → History → Begun → Loose
loose_one past h b =
    record { tid = b.tid; session = b.session; end = end_of b.tid h.aborted h.left; ops = ops_of b.tid h.performed; past = past b }

-- those of the begun transactions that aren't committed
abbrev pub loose_of : (Begun → List Count) → History → List Begun → List Loose
loose_of past h [] = []
loose_of past h (b ∷ bs) = if is_committed b.tid h.committed then loose_of past h bs else loose_one past h b ∷ loose_of past h bs

-- THE EXECUTION, pasts being counted in this way
abbrev pub execution_by : (History → Begun → List Count) → History → Execution
execution_by past h =
    record { entries = entries_of (past h) (arbitrated h.committed); loose = loose_of (past h) h h.begun; links = h.links }
