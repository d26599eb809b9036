-- The text of a report. Every line ends with a line feed, numbers are decimal and hex is lower case.
use Rattle.std.specs.Prelude.{ℕ, List, [], ◌∷◌, ◌++◌, length, Bool, true, false, nat_lt, if◌then◌else◌, codes, count_by, decimal}
use Rattle.std.specs.Fmt.{signed_decimal}
use Rattle.std.specs.List.{flat_map, list_any}
use Rattle.hex.specs.Hex.{encode_lower}
use Rattle.us_kind.specs.declared.identity.Tid.{Tid}
use Rattle.us_value.specs.declared.item.Item.{Item}
use Rattle.us_value.specs.declared.operation.Op.{Op}
use Rattle.us_value.specs.declared.operation.Op.TheVariants as op
use Rattle.us_value.specs.declared.operation.Answer.{Answer}
use Rattle.us_value.specs.declared.operation.Answer.TheVariants as answer
use Rattle.us_exec.specs.declared.SessionName.{SessionName}
use Rattle.us_exec.specs.declared.Done.{Done}
use Rattle.us_exec.specs.declared.Count.{Count}
use Rattle.us_exec.specs.declared.Entry.{Entry}
use Rattle.us_exec.specs.declared.LooseEnd.{LooseEnd}
use Rattle.us_exec.specs.declared.LooseEnd.TheVariants as end
use Rattle.us_exec.specs.declared.Loose.{Loose}
use Rattle.us_exec.specs.declared.Link.{Link}
use Rattle.us_exec.specs.declared.Execution.{Execution}
use Rattle.us_exec.specs.declared.RefusedRequest.{RefusedRequest}
use Rattle.us_exec.specs.declared.WaitingRequest.{WaitingRequest}
use Rattle.us_report.specs.declared.report.Report.{Report}

-- three numbers with dots: a transaction's site, coordinator and number
unfoldable pub tid_text : Tid → List ℕ
tid_text t = decimal t.site ++ codes "." ++ decimal t.coord ++ codes "." ++ decimal t.seq

-- a session's site, coordinator and number
unfoldable pub session_text : SessionName → List ℕ
session_text s = decimal s.site ++ codes "." ++ decimal s.coord ++ codes "." ++ decimal s.number

-- an item: its space, and its id in hex
abbrev pub item_text : Item → List ℕ
item_text i = decimal i.space ++ codes ":" ++ encode_lower i.id

-- an operation
abbrev pub op_text : Op → List ℕ
op_text op.RegisterRead = codes "read"
op_text (op.RegisterWrite value) = codes "write:" ++ encode_lower value
op_text op.CounterRead = codes "read"
op_text (op.CounterAdd amount) = codes "add:" ++ signed_decimal amount
op_text op.SetMembers = codes "members"
op_text (op.SetContains value) = codes "contains:" ++ encode_lower value
op_text (op.SetAdd value) = codes "add:" ++ encode_lower value
op_text (op.SetRemove value) = codes "remove:" ++ encode_lower value
op_text op.FlagRead = codes "read"
op_text op.FlagEnable = codes "enable"
op_text op.FlagDisable = codes "disable"
op_text op.MultiRead = codes "read"
op_text (op.MultiWrite value) = codes "write:" ++ encode_lower value

-- values, a comma before each
abbrev pub others_text : List (List ℕ) → List ℕ
others_text vs = flat_map (λ v. codes "," ++ encode_lower v) vs

-- values with commas between
abbrev pub values_text : List (List ℕ) → List ℕ
values_text [] = []
values_text (v ∷ vs) = encode_lower v ++ others_text vs

abbrev pub bit_text : Bool → List ℕ
bit_text b = if b then codes "yes" else codes "no"

-- what an operation answered
abbrev pub answer_text : Answer → List ℕ
answer_text answer.Done = codes "done"
answer_text answer.Nothing = codes "none"
answer_text (answer.Value value) = codes "value:" ++ encode_lower value
answer_text (answer.Number number) = codes "number:" ++ signed_decimal number
answer_text (answer.Values values) = codes "values:" ++ decimal (length values) ++ codes ":" ++ values_text values
answer_text (answer.Bit b) = bit_text b

-- the line of an answered operation
abbrev pub done_text : Done → List ℕ
done_text d = codes "o " ++ item_text d.item ++ codes " " ++ op_text d.op ++ codes " " ++ answer_text d.answer ++ codes "\n"

-- a past counts transactions of this session
abbrev pub is_positive : Count → Bool
is_positive c = nat_lt 0 c.count

-- a count after a space, where it is above 0
abbrev pub count_text : Count → List ℕ
count_text c = if is_positive c then codes " " ++ session_text c.session ++ codes "=" ++ decimal c.count else []

-- a past after a space: its counts above 0 in their order, or a dash where there is none
unfoldable pub past_text : List Count → List ℕ
past_text past = if list_any is_positive past then flat_map count_text past else codes " -"

-- whether a transaction is strong
abbrev pub kind_text : Bool → List ℕ
kind_text true = codes "strong"
kind_text false = codes "causal"

-- the lines of a committed transaction: its own, and those of its operations
abbrev pub entry_text : Entry → List ℕ
entry_text e =
    codes "t " ++ tid_text e.tid ++ codes " " ++ session_text e.session ++ codes " " ++ decimal e.number ++ codes " " ++ kind_text e.strong
    ++ past_text e.past ++ codes "\n" ++ flat_map done_text e.ops

-- how a transaction stands that isn't committed
abbrev pub end_text : LooseEnd → List ℕ
end_text end.Open = codes "open"
end_text end.Left = codes "left"
end_text (end.Aborted named item) = codes "aborted:" ++ tid_text named ++ codes ":" ++ item_text item

-- the lines of a transaction that isn't committed
abbrev pub loose_text : Loose → List ℕ
loose_text l =
    codes "l " ++ tid_text l.tid ++ codes " " ++ session_text l.session ++ codes " " ++ end_text l.end ++ past_text l.past ++ codes "\n"
    ++ flat_map done_text l.ops

-- the line of a link
abbrev pub link_text : Link → List ℕ
link_text k = codes "k " ++ session_text k.session ++ codes " " ++ session_text k.from ++ codes " " ++ decimal k.count ++ codes "\n"

-- the line of a refused request
abbrev pub refusal_text : RefusedRequest → List ℕ
refusal_text x = codes "x " ++ session_text x.session ++ codes " " ++ decimal x.at ++ codes " " ++ decimal x.number ++ codes "\n"

-- the line of a session that waits
abbrev pub waiting_text : WaitingRequest → List ℕ
waiting_text w = codes "w " ++ session_text w.session ++ codes " " ++ decimal w.at ++ codes "\n"

-- how many of the committed transactions are strong
abbrev pub strong_count : List Entry → ℕ
strong_count es = count_by (λ e. e.strong) es

-- a transaction was aborted
abbrev pub is_aborted : LooseEnd → Bool
is_aborted end.Open = false
is_aborted end.Left = false
is_aborted (end.Aborted named item) = true

-- how many transactions were aborted
abbrev pub aborted_count : List Loose → ℕ
aborted_count ls = count_by (λ l. is_aborted l.end) ls

-- how many transactions and links an execution has
unfoldable pub counts_text : Execution → List ℕ
counts_text x =
    codes "committed " ++ decimal (length x.entries) ++ codes " strong " ++ decimal (strong_count x.entries)
    ++ codes " aborted " ++ decimal (aborted_count x.loose) ++ codes " loose " ++ decimal (length x.loose)
    ++ codes " links " ++ decimal (length x.links)

-- the last line: how many there are of each
abbrev pub summary_text : Report → List ℕ
summary_text r =
    counts_text r.execution ++ codes " refused " ++ decimal (length r.refused) ++ codes " waiting " ++ decimal (length r.waiting)
    ++ codes "\n"

-- all lines but the last: committed transactions, the others, links, refusals and waiting sessions
abbrev pub lines_text : Report → List ℕ
lines_text r =
    flat_map entry_text r.execution.entries ++ flat_map loose_text r.execution.loose ++ flat_map link_text r.execution.links
    ++ flat_map refusal_text r.refused ++ flat_map waiting_text r.waiting

-- THE REPORT: all lines
abbrev pub report_text : Report → List ℕ
report_text r = lines_text r ++ summary_text r

-- the short report: the last line alone
abbrev pub short_text : Report → List ℕ
short_text r = summary_text r
