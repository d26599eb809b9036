-- Worked logs, with the verdicts and pages that the rules give by hand. Spaces hold counters, and takes conflict with takes, unless
-- it is said otherwise.
use Rattle.std.specs.Prelude.{ℕ, List, [], ◌∷◌, map, negsuc, pos}
use Rattle.us_kind.specs.declared.identity.Tid.{Tid}
use Rattle.us_value.specs.declared.item.Item.{Item}
use Rattle.us_value.specs.declared.item.Write.{Write}
use Rattle.us_value.specs.declared.operation.Class.{Class}
use Rattle.us_value.specs.declared.operation.Class.TheVariants as class
use Rattle.us_value.specs.declared.operation.Effect.TheVariants.{CounterAdd}
use Rattle.us_peer_wire.specs.declared.message.LogEntry.{LogEntry}
use Rattle.us_peer_wire.specs.declared.message.Verdict.{Verdict}
use Rattle.us_peer_wire.specs.declared.message.Verdict.TheVariants.{Commit, Abort, Repeat}
use Rattle.us_peer_wire.specs.declared.message.Page.{Page}
use Rattle.us_peer_wire.specs.declared.message.Page.TheVariants.{Skip, Holds}
use Rattle.us_certify.specs.declared.decision.Decision.{Decision}
use Rattle.us_certify.specs.Certification.{certified}
use Rattle.us_certify.specs.Logs.{CertifiedLog}

abbrev pub takes_conflict : List (ℕ × Class × Class)
takes_conflict = (1, class.Take, class.Take) ∷ []

abbrev pub adds_conflict : List (ℕ × Class × Class)
adds_conflict = (1, class.Add, class.Add) ∷ []

-- items 1:61 and 1:62: of two partitions the first keeps the one, the second the other
abbrev pub this_item : Item
this_item = record { space = 1; id = 97 ∷ [] }

abbrev pub that_item : Item
that_item = record { space = 1; id = 98 ∷ [] }

abbrev pub tid : ℕ → ℕ → ℕ → Tid
tid site coord seq = record { site = site; coord = coord; seq = seq }

-- a snapshot of three sites that holds the first so many slots, and what each site had up to this number
abbrev pub snapshot : ℕ → ℕ → List ℕ
snapshot strong each = strong ∷ each ∷ each ∷ each ∷ []

abbrev pub entry : Tid → List ℕ → List (Item × Class) → List Write → LogEntry
entry tid snapshot touches writes = record { tid = tid; snapshot = snapshot; touches = touches; writes = writes }

abbrev pub on_this : Class → List (Item × Class)
on_this class = (this_item, class) ∷ []

abbrev pub verdicts : List Decision → List Verdict
verdicts decisions = map (λ (d : Decision). d.verdict) decisions

-- two takes from one amount: the first commits, the second is aborted by it
abbrev pub two_takes : List LogEntry
two_takes = entry (tid 1 1 2) (snapshot 0 1000) (on_this class.Take) [] ∷ entry (tid 2 1 1) (snapshot 0 1000) (on_this class.Take) [] ∷ []

abbrev pub two_takes_end : List Verdict
two_takes_end = Commit ∷ Abort 1 (tid 1 1 2) this_item ∷ []

-- a give and a take, which aren't declared to conflict
abbrev pub not_declared : List LogEntry
not_declared = entry (tid 1 1 1) (snapshot 0 0) (on_this class.Give) [] ∷ entry (tid 2 1 1) (snapshot 0 0) (on_this class.Take) [] ∷ []

-- a transaction that is submitted again
abbrev pub submitted_again : List LogEntry
submitted_again = entry (tid 2 1 1) (snapshot 0 0) (on_this class.Give) [] ∷ entry (tid 2 1 1) (snapshot 0 0) (on_this class.Give) [] ∷ []

-- two that write a register, of which no conflict is declared
abbrev pub two_writes : List LogEntry
two_writes = entry (tid 2 1 1) (snapshot 0 0) (on_this class.Write) [] ∷ entry (tid 3 1 1) (snapshot 0 0) (on_this class.Write) [] ∷ []

-- a day: the amount is read and taken from twice at once, and again by one whose snapshot holds both slots
abbrev pub read_and_take : List (Item × Class)
read_and_take = (this_item, class.Read) ∷ (this_item, class.Take) ∷ []

abbrev pub day : List LogEntry
day =
    entry (tid 1 2 1) (snapshot 0 1000) read_and_take [] ∷ entry (tid 2 3 1) (snapshot 0 1000) read_and_take []
    ∷ entry (tid 2 3 2) (snapshot 2 3000) (on_this class.Take) [] ∷ []

abbrev pub day_end : List Verdict
day_end = Commit ∷ Abort 1 (tid 1 2 1) this_item ∷ Commit ∷ []

-- three additions to a set, where additions conflict: the second is aborted, and so the third names the first
abbrev pub three_adds : List LogEntry
three_adds =
    entry (tid 1 1 1) (snapshot 0 0) (on_this class.Add) [] ∷ entry (tid 2 1 1) (snapshot 0 0) (on_this class.Add) []
    ∷ entry (tid 3 1 1) (snapshot 0 0) (on_this class.Add) [] ∷ []

abbrev pub three_adds_end : List Verdict
three_adds_end = Commit ∷ Abort 1 (tid 1 1 1) this_item ∷ Abort 1 (tid 1 1 1) this_item ∷ []

-- a longer log of two partitions, slot by slot
abbrev pub write : Item → ℕ → ℕ → Write
write item place amount = record { item = item; place = place; effect = CounterAdd (pos amount) }

abbrev pub taking : Item → ℕ → Write
taking item place = record { item = item; place = place; effect = CounterAdd (negsuc 2) }

abbrev pub reads_and_takes : List (Item × Class)
reads_and_takes = (that_item, class.Read) ∷ (that_item, class.Take) ∷ (this_item, class.Take) ∷ []

abbrev pub long : List LogEntry
long =
    -- 1 commits
    entry (tid 1 1 2) (snapshot 0 1000) (on_this class.Take) (taking this_item 1 ∷ [])
    -- 2 is aborted by it
    ∷ entry (tid 2 1 1) (snapshot 0 1000) (on_this class.Take) (taking this_item 1 ∷ [])
    -- 3 is a repeat
    ∷ entry (tid 1 1 2) (snapshot 0 1000) (on_this class.Take) (taking this_item 1 ∷ [])
    -- 4 commits: its snapshot holds slot 1, and slots 2 and 3, which it doesn't hold, committed nothing
    ∷ entry (tid 3 1 1) (snapshot 1 1000) (on_this class.Take) (taking this_item 1 ∷ [])
    -- 5 commits: it gives to the one item, and takes from the other
    ∷ entry (tid 3 1 2) (snapshot 1 1000) ((this_item, class.Give) ∷ (that_item, class.Take) ∷ []) (write this_item 1 5 ∷ taking that_item 2 ∷ [])
    -- 6 is aborted by the least slot, 1, and by its third operation, though its second conflicts with slot 5
    ∷ entry (tid 2 1 2) (snapshot 0 1000) reads_and_takes (taking that_item 2 ∷ taking this_item 3 ∷ [])
    -- 7 is a repeat of one that was aborted
    ∷ entry (tid 2 1 1) (snapshot 4 2000) (on_this class.Take) (taking this_item 1 ∷ [])
    -- 8 holds the first five slots' numbers, and is aborted by slot 1 all the same: of site 1 it holds less than that one saw
    ∷ entry (tid 3 2 1) (5 ∷ 999 ∷ 1000 ∷ 1000 ∷ []) (on_this class.Take) (taking this_item 1 ∷ [])
    ∷ []

abbrev pub long_end : List Verdict
long_end =
    Commit ∷ Abort 1 (tid 1 1 2) this_item ∷ Repeat ∷ Commit ∷ Commit ∷ Abort 1 (tid 1 1 2) this_item ∷ Repeat
    ∷ Abort 1 (tid 1 1 2) this_item ∷ []

abbrev pub long_log : CertifiedLog
long_log = record { shape = record { f = 1; parts = 2 }; decisions = certified takes_conflict long }

-- for the second partition, from slot 4 on: what slot 4 committed wrote nothing there, and slot 5 one of its two writes
abbrev pub second_pages : List Page
second_pages =
    Holds (tid 3 1 1) (snapshot 4 1000) [] ∷ Holds (tid 3 1 2) (snapshot 5 1000) (taking that_item 2 ∷ []) ∷ Skip ∷ Skip ∷ Skip ∷ []
