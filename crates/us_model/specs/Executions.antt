-- The history that the notes tell, and its execution.
use Rattle.std.specs.Prelude.{ℕ, ◌+◌, List, [], ◌∷◌, ◌++◌, Bool, false, Option, Some, None}
use Rattle.us_exec.specs.declared.Execution.{Execution}
use Rattle.us_exec.specs.declared.RefusedRequest.{RefusedRequest}
use Rattle.us_history.specs.Histories.{Begun, Committed, History, no_history, begun_of, ops_of, committed_in}
use Rattle.us_history.specs.Pasts.{past_of}
use Rattle.us_history.specs.Executions.{execution_by}
use Rattle.us_model.specs.declared.event.Note.{Note}
use Rattle.us_model.specs.declared.event.Note.TheVariants as note

-- a begun transaction is decided: its session's next committed one
abbrev pub decided_as : History → Bool → List ℕ → Begun → Committed
decided_as h strong vector b =
    record { begun = b; number = committed_in b.session h.committed + 1; strong = strong; vector = vector; ops = ops_of b.tid h.performed }

abbrev pub decided_one : History → Bool → List ℕ → Option Begun → History
decided_one h strong vector None = h
decided_one h strong vector (Some b) = record h { committed = h.committed ++ decided_as h strong vector b ∷ [] }

-- a coordinator decides causal transactions
abbrev pub noted : History → Note → History
noted h (note.Opened coord session) = h
noted h (note.Begun tid session snapshot) = record h { begun = h.begun ++ record { tid = tid; session = session; snapshot = snapshot } ∷ [] }
noted h (note.Performed tid done) = record h { performed = h.performed ++ record { tid = tid; done = done } ∷ [] }
noted h (note.Decided tid vector) = decided_one h false vector (begun_of tid h.begun)
noted h (note.Left tid) = record h { left = h.left ++ tid ∷ [] }
noted h (note.Refused session at number) = record h { refused = h.refused ++ record { session = session; at = at; number = number } ∷ [] }

abbrev pub noted_all : History → List Note → History
noted_all h [] = h
noted_all h (n ∷ ns) = noted_all (noted h n) ns

abbrev pub history_of : List Note → History
history_of notes = noted_all no_history notes

-- the refused requests, in order
abbrev pub refusals_of : List Note → List RefusedRequest
refusals_of notes = (history_of notes).refused

-- THE EXECUTION OF A WORLD, by its notes: each past is what reaches the transaction
abbrev pub execution_of : List Note → Execution
execution_of notes = execution_by past_of (history_of notes)
