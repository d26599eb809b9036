-- How a call ends, as a number and as a line.
use Rattle.std.specs.Prelude.{ℕ, List, [], ◌++◌, codes, Option, Some, None}
use Rattle.std.specs.Fmt.{decimal}
use Rattle.us_config.specs.Fault.{key_text, fault_text}
use Rattle.us_world.specs.declared.fault.WorldFault.{WorldFault}
use Rattle.us_world.specs.declared.fault.WorldFault.TheVariants as fault
use Rattle.unistore.specs.declared.status.Reason.{Reason}
use Rattle.unistore.specs.declared.status.Reason.TheVariants.{NoSeparator, Config, BadWord, BadNumber, BadHex, OutOfRange, NotBuilt}
use Rattle.unistore.specs.declared.status.LimitKind.{LimitKind}
use Rattle.unistore.specs.declared.status.LimitKind.TheVariants.{Text, Events, Sessions, Transactions}
use Rattle.unistore.specs.declared.status.Status.{Status}
use Rattle.unistore.specs.declared.status.Status.TheVariants.{Done, Words, Input, ReadFault, WriteFault, LinkFault, Memory, Limit}

-- the exit status
abbrev pub status_number : Status → ℕ
status_number Done = 0
status_number Words = 2
status_number (Input line reason) = 3
status_number ReadFault = 4
status_number WriteFault = 5
status_number LinkFault = 6
status_number Memory = 7
status_number (Limit which line) = 8

-- why a line is refused
abbrev pub reason_text : Reason → List ℕ
reason_text NoSeparator = codes "NoSeparator"
reason_text (Config key fault) = codes "Config"
reason_text BadWord = codes "BadWord"
reason_text BadNumber = codes "BadNumber"
reason_text BadHex = codes "BadHex"
reason_text OutOfRange = codes "OutOfRange"
reason_text NotBuilt = codes "NotBuilt"

-- which limit was passed
abbrev pub limit_text : LimitKind → List ℕ
limit_text Text = codes "text"
limit_text Events = codes "events"
limit_text Sessions = codes "sessions"
limit_text Transactions = codes "transactions"

-- the limit that a run passed, as a status has it
abbrev pub kind_of : WorldFault → Option LimitKind
kind_of fault.Events = Some Events
kind_of fault.Sessions = Some Sessions
kind_of fault.Transactions = Some Transactions
kind_of fault.Memory = None

-- the line of a refused input: of its configuration, or of one of its lines
abbrev pub input_text : ℕ → Reason → List ℕ
input_text line (Config key fault) = codes "refused config " ++ key_text key ++ codes " " ++ fault_text fault ++ codes "\n"
input_text line reason = codes "refused line " ++ decimal line ++ codes " " ++ reason_text reason ++ codes "\n"

-- the line of a passed limit
abbrev pub passed_text : LimitKind → ℕ → List ℕ
passed_text which line = codes "refused limit " ++ limit_text which ++ codes " line " ++ decimal line ++ codes "\n"

-- THE LINE OF A REFUSAL, which is written in place of a report
abbrev pub refusal_text : Status → List ℕ
refusal_text Words = codes "refused words\n"
refusal_text (Input line reason) = input_text line reason
refusal_text (Limit which line) = passed_text which line
refusal_text _ = []
