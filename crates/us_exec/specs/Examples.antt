-- Executions of a few transactions, worked by hand.
use Rattle.std.specs.Prelude.{ℕ, List, [], ◌∷◌, Bool, true, false}
use Rattle.us_kind.specs.declared.identity.Tid.{Tid}
use Rattle.us_value.specs.declared.item.Item.{Item}
use Rattle.us_value.specs.declared.operation.Op.{Op}
use Rattle.us_value.specs.declared.operation.Op.TheVariants.{RegisterRead, RegisterWrite, SetContains, SetAdd, SetRemove}
use Rattle.us_value.specs.declared.operation.Answer.{Answer}
use Rattle.us_value.specs.declared.operation.Answer.TheVariants as answer
use Rattle.us_value.specs.declared.operation.Class.TheVariants as class
use Rattle.us_exec.specs.declared.SessionName.{SessionName}
use Rattle.us_exec.specs.declared.Count.{Count}
use Rattle.us_exec.specs.declared.Done.{Done}
use Rattle.us_exec.specs.declared.Entry.{Entry}
use Rattle.us_exec.specs.declared.Loose.{Loose}
use Rattle.us_exec.specs.declared.LooseEnd.TheVariants as end
use Rattle.us_exec.specs.declared.Link.{Link}
use Rattle.us_exec.specs.declared.Execution.{Execution}
use Rattle.us_exec.specs.Conflict.{Declared}

-- ---- their parts

-- a session of the one coordinator
abbrev pub session : ℕ → SessionName
session number = record { site = 1; coord = 1; number = number }

abbrev pub tid : ℕ → Tid
tid seq = record { site = 1; coord = 1; seq = seq }

-- a past counts so many of a session
abbrev pub count_of : ℕ → ℕ → Count
count_of number count = record { session = session number; count = count }

-- the past of the first transaction of the first session
abbrev pub first : List Count
first = count_of 1 1 ∷ []

abbrev pub item : ℕ → Item
item id = record { space = 1; id = id ∷ [] }

abbrev pub done : ℕ → Op → Answer → Done
done id op told = record { item = item id; op = op; answer = told }

-- an item is written, or another one, with a value
abbrev pub wrote : ℕ → ℕ → Done
wrote id value = done id (RegisterWrite (value ∷ [])) answer.Done

-- an item is read, and nothing was found
abbrev pub read_nothing : ℕ → Done
read_nothing id = done id RegisterRead answer.Nothing

-- an item is read, and a value was found
abbrev pub read : ℕ → ℕ → Done
read id value = done id RegisterRead (answer.Value (value ∷ []))

-- the first transaction of a session, which has the session's number
abbrev pub begins : ℕ → List Count → List Done → Entry
begins number past ops = record { tid = tid number; session = session number; number = 1; strong = false; ops = ops; past = past }

-- the second transaction of the first session
abbrev pub goes_on : List Count → List Done → Entry
goes_on past ops = record { tid = tid 2; session = session 1; number = 2; strong = false; ops = ops; past = past }

-- a transaction that isn't committed, of a session
abbrev pub open_one : ℕ → List Count → List Done → Loose
open_one number past ops = record { tid = tid 9; session = session number; end = end.Open; ops = ops; past = past }

-- a session goes on after the first transaction of the first session
abbrev pub link : ℕ → Link
link number = record { session = session number; from = session 1; count = 1 }

-- the first session's first transaction writes 5 to item 7
abbrev pub writer : Entry
writer = begins 1 [] (wrote 7 5 ∷ [])

abbrev pub strong : Entry → Entry
strong e = record e { strong = true }

abbrev pub executed : List Entry → Execution
executed entries = record { entries = entries; loose = []; links = [] }

-- the writer and transactions that aren't committed
abbrev pub beside_writer : List Loose → Execution
beside_writer loose = record { entries = writer ∷ []; loose = loose; links = [] }

-- reads and writes conflict
abbrev pub reads_and_writes : Declared
reads_and_writes = (1, class.Read, class.Write) ∷ []

-- the same, the other way round
abbrev pub writes_and_reads : Declared
writes_and_reads = (1, class.Write, class.Read) ∷ []

-- writes conflict with writes, and reads with reads, and both in another space
abbrev pub writes_and_writes : Declared
writes_and_writes = (1, class.Write, class.Write) ∷ (1, class.Read, class.Read) ∷ (2, class.Read, class.Write) ∷ []

-- ---- executions that are sound

-- the session's second transaction reads what its first wrote
abbrev pub in_one_session : Execution
in_one_session = executed (writer ∷ goes_on first (read 7 5 ∷ []) ∷ [])

-- another session's reads it, as it has it in its past, and so does one that isn't committed
abbrev pub in_two_sessions : Execution
in_two_sessions = record { entries = writer ∷ begins 2 first (read 7 5 ∷ []) ∷ []; loose = open_one 3 first (read 7 5 ∷ []) ∷ []; links = link 2 ∷ [] }

-- a strong one doesn't see a strong one, which writes another item
abbrev pub on_other_items : Execution
on_other_items = executed (strong writer ∷ strong (begins 2 [] (read_nothing 8 ∷ [])) ∷ [])

-- a strong one sees a strong one that conflicts with it
abbrev pub seen_conflict : Execution
seen_conflict = executed (strong writer ∷ strong (begins 2 first (read 7 5 ∷ [])) ∷ [])

-- a strong one that reads an item doesn't see a strong one that writes it
abbrev pub unseen : Execution
unseen = executed (strong writer ∷ strong (begins 2 [] (read_nothing 7 ∷ [])) ∷ [])

-- ---- executions that aren't well formed

-- a session's only transaction is its second
abbrev pub without_first : Execution
without_first = executed (record writer { number = 2 } ∷ [])

-- a transaction of another coordinator than its session
abbrev pub elsewhere : Execution
elsewhere = executed (writer ∷ record (goes_on first []) { tid = record { site = 1; coord = 2; seq = 2 } } ∷ [])

abbrev pub loose_elsewhere : Execution
loose_elsewhere = beside_writer (record (open_one 1 first []) { tid = record { site = 1; coord = 2; seq = 9 } } ∷ [])

-- the second was begun before the first
abbrev pub begun_before : Execution
begun_before = executed (writer ∷ record (goes_on first []) { tid = tid 0 } ∷ [])

-- two of two sessions have one name
abbrev pub one_name : Execution
one_name = executed (writer ∷ record (begins 2 [] []) { tid = tid 1 } ∷ [])

abbrev pub loose_twice : Execution
loose_twice = beside_writer (open_one 1 first [] ∷ open_one 1 first [] ∷ [])

-- one is committed and isn't
abbrev pub committed_and_loose : Execution
committed_and_loose = beside_writer (record (open_one 1 [] []) { tid = tid 1 } ∷ [])

-- a past that names a session twice
abbrev pub twice : List Count
twice = count_of 1 1 ∷ count_of 1 1 ∷ []

-- one that counts none of a session
abbrev pub none_of : List Count
none_of = count_of 1 1 ∷ count_of 2 0 ∷ []

-- one that counts more of a session than it has
abbrev pub too_many : List Count
too_many = count_of 1 1 ∷ count_of 2 1 ∷ []

-- the second's past is this
abbrev pub with_past : List Count → Execution
with_past past = executed (writer ∷ goes_on past [] ∷ [])

-- that of one that isn't committed is this
abbrev pub with_loose_past : List Count → Execution
with_loose_past past = beside_writer (open_one 1 past [] ∷ [])

-- ---- executions that aren't closed

-- a session goes on after the first one's first, which its transaction doesn't have in its past
abbrev pub overlooked_link : Execution
overlooked_link = record { entries = writer ∷ begins 2 [] [] ∷ []; loose = []; links = link 2 ∷ [] }

abbrev pub loose_overlooked_link : Execution
loose_overlooked_link = record { entries = writer ∷ []; loose = open_one 2 [] [] ∷ []; links = link 2 ∷ [] }

-- the second session's has the first's in its past, the third's has the second's, and not the first's
abbrev pub second_has_first : Entry
second_has_first = begins 2 first []

abbrev pub overlooked_step : Execution
overlooked_step = executed (writer ∷ second_has_first ∷ begins 3 (count_of 2 1 ∷ []) [] ∷ [])

abbrev pub loose_overlooked_step : Execution
loose_overlooked_step = record { entries = writer ∷ second_has_first ∷ []; loose = open_one 3 (count_of 2 1 ∷ []) [] ∷ []; links = [] }

-- the second's past lacks the session's first
abbrev pub overlooked_past : Execution
overlooked_past = with_past []

abbrev pub loose_overlooked_past : Execution
loose_overlooked_past = with_loose_past []

-- one stands before another that it has in its past
abbrev pub wrong_order : Execution
wrong_order = executed (second_has_first ∷ writer ∷ [])

-- ---- executions that aren't valued

-- it doesn't read what its past holds
abbrev pub stale_read : Execution
stale_read = executed (writer ∷ goes_on first (read_nothing 7 ∷ []) ∷ [])

abbrev pub loose_stale_read : Execution
loose_stale_read = beside_writer (open_one 1 first (read_nothing 7 ∷ []) ∷ [])

-- it doesn't read what it wrote itself
abbrev pub own_write_overlooked : Execution
own_write_overlooked = executed (begins 1 [] (wrote 7 5 ∷ read_nothing 7 ∷ []) ∷ [])

-- it reads what its past doesn't hold
abbrev pub read_outside_past : Execution
read_outside_past = executed (writer ∷ begins 2 [] (read 7 5 ∷ []) ∷ [])

-- two write a register, and a third, which has both in its past, reads this value
abbrev pub both : List Count
both = count_of 1 1 ∷ count_of 2 1 ∷ []

abbrev pub two_writers : ℕ → Execution
two_writers value = executed (writer ∷ begins 2 [] (wrote 7 6 ∷ []) ∷ begins 3 both (read 7 value ∷ []) ∷ [])

abbrev pub first_of_two_writers : Execution
first_of_two_writers = two_writers 5

abbrev pub last_of_two_writers : Execution
last_of_two_writers = two_writers 6

-- one adds to a set, another removes with this past, and a third, which has both in its past, finds this
abbrev pub removed_with : List Count → Bool → Execution
removed_with past there =
    executed
    (begins 1 [] (done 7 (SetAdd (5 ∷ [])) answer.Done ∷ [])
    ∷ begins 2 past (done 7 (SetRemove (5 ∷ [])) answer.Done ∷ [])
    ∷ begins 3 both (done 7 (SetContains (5 ∷ [])) (answer.Bit there) ∷ [])
    ∷ [])

-- the one that removes doesn't have the one that adds in its past: the element stays, and isn't gone
abbrev pub unseen_add_kept : Execution
unseen_add_kept = removed_with [] true

abbrev pub unseen_add_removed : Execution
unseen_add_removed = removed_with [] false

-- it has it in its past: the element is gone, and doesn't stay
abbrev pub seen_add_removed : Execution
seen_add_removed = removed_with first false

abbrev pub seen_add_kept : Execution
seen_add_kept = removed_with first true
