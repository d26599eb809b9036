-- Where no session goes on from another one, the execution has the pasts that are counted without links.
use Rattle.std.proofs.Common.{◌≡◌, List, [], sym, ap, ◌∙◌}
use Rattle.us_exec.specs.declared.Count.{Count}
use Rattle.us_exec.specs.declared.Entry.{Entry}
use Rattle.us_exec.specs.declared.Loose.{Loose}
use Rattle.us_exec.specs.declared.Link.{Link}
use Rattle.us_exec.specs.declared.Execution.{Execution}
use Rattle.us_history.specs.Histories.{Begun, History}
use Rattle.us_history.specs.Pasts.{is_step, sessions_of, counts_of, direct_past}
use Rattle.us_history.specs.Arbitration.{arbitrated}
use Rattle.us_history.specs.Executions.{entries_of, loose_of, execution_by}
use Rattle.us_extract.specs.PastSearch.{unlinked_past}

-- pasts counted over these links
abbrev past_over : History → List Link → Begun → List Count
past_over h links t = counts_of (λ c. is_step links c t) h.committed (sessions_of h.committed)

abbrev over : History → List Link → Execution
over h links = record { entries = entries_of (past_over h links) (arbitrated h.committed); loose = loose_of (past_over h links) h h.begun; links = links }

pub execution_unlinked : (h : History) (es : List Entry) (ls : List Loose) (ks : List Link) → h.links ≡ []
    → es ≡ entries_of (unlinked_past h.committed) (arbitrated h.committed) → ls ≡ loose_of (unlinked_past h.committed) h h.begun → ks ≡ []
    → record { entries = es; loose = ls; links = ks } ≡ execution_by direct_past h
execution_unlinked h es ls ks none entries loose links =
    let first : record { entries = es; loose = ls; links = ks } ≡ over h [] = λ i. record { entries = entries i; loose = loose i; links = links i } in
    first ∙ ap (over h) (sym none)
