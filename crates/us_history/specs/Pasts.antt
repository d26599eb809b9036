-- The past of a transaction.
use Rattle.std.specs.Prelude.{ℕ, zero, suc, List, [], ◌∷◌, length, Bool, not, ◌&&◌, ◌||◌, if◌then◌else◌, nat_lt, nat_le, max}
use Rattle.std.specs.List.{list_any}
use Rattle.us_kind.specs.Comparison.{tid_eq}
use Rattle.us_base.specs.Vector.{at_most}
use Rattle.us_exec.specs.declared.SessionName.{SessionName}
use Rattle.us_exec.specs.declared.Count.{Count}
use Rattle.us_exec.specs.declared.Link.{Link}
use Rattle.us_exec.specs.Past.{session_eq, session_less}
use Rattle.us_history.specs.Histories.{Begun, Committed, History, has_own_vector}

-- STEPS lead from a committed transaction to another one,

-- whose session goes on from it by a link
abbrev pub is_linked : List Link → Committed → Begun → Bool
is_linked links c t =
    list_any (λ (l : Link). session_eq l.session t.session && (session_eq l.from c.begun.session && nat_le c.number l.count)) links

-- whose session has committed it before
abbrev pub is_earlier : Committed → Begun → Bool
is_earlier c t = session_eq c.begun.session t.session && nat_lt c.begun.tid.seq t.tid.seq

-- or whose snapshot its own commit vector is at most
abbrev pub is_in_snapshot : Committed → Begun → Bool
is_in_snapshot c t = has_own_vector c && at_most c.vector t.snapshot

abbrev pub is_step : List Link → Committed → Begun → Bool
is_step links c t = not (tid_eq c.begun.tid t.tid) && (is_linked links c t || (is_earlier c t || is_in_snapshot c t))

-- by at most so many transactions between them
abbrev pub reaches_within : ℕ → List Link → List Committed → Committed → Begun → Bool
reaches_within zero links cs c t = is_step links c t
reaches_within (suc n) links cs c t =
    is_step links c t || list_any (λ d. is_step links c d.begun && reaches_within n links cs d t) cs

abbrev pub reaches : List Link → List Committed → Committed → Begun → Bool
reaches links cs c t = reaches_within (length cs) links cs c t

-- COUNTED PER SESSION: the greatest number of a transaction of the session that passes
abbrev pub count_of : (Committed → Bool) → SessionName → List Committed → ℕ
count_of test s [] = 0
count_of test s (c ∷ cs) = if session_eq c.begun.session s && test c then max c.number (count_of test s cs) else count_of test s cs

-- a session is named where some of its transactions are counted
abbrev pub with_count : SessionName → ℕ → List Count → List Count
with_count s n past = if nat_lt 0 n then record { session = s; count = n } ∷ past else past

abbrev pub counts_of : (Committed → Bool) → List Committed → List SessionName → List Count
counts_of test cs [] = []
counts_of test cs (s ∷ ss) = with_count s (count_of test s cs) (counts_of test cs ss)

-- the sessions of the committed transactions, ascending, each once
abbrev pub with_session : SessionName → List SessionName → List SessionName
with_session s [] = s ∷ []
with_session s (r ∷ rs) = if session_less r s then r ∷ with_session s rs else if session_eq r s then r ∷ rs else s ∷ r ∷ rs

abbrev pub sessions_of : List Committed → List SessionName
sessions_of [] = []
sessions_of (c ∷ cs) = with_session c.begun.session (sessions_of cs)

-- THE PAST: everything that reaches the transaction
abbrev pub past_of : History → Begun → List Count
past_of h t = counts_of (λ c. reaches h.links h.committed c t) h.committed (sessions_of h.committed)

-- COUNTED IN ONE STEP: what leads to the transaction. This is the past as long as no session goes on from another one. With
-- links a transaction without a vector of its own can be in a past through a link and a later vector together: A's first
-- transaction writes nothing; B goes on from it and commits a write; C sees the write, so that C's past holds A's transaction,
-- from which no one step leads to C. The form that lasts is this one, then closed over the links of the sessions found.
abbrev pub direct_past : History → Begun → List Count
direct_past h t = counts_of (λ c. is_step h.links c t) h.committed (sessions_of h.committed)
