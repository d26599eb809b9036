-- What each status of a call says of what came and of what was written.
use Rattle.std.specs.Prelude.{◌≡◌, ⊤, ℕ, ◌^◌, ◌≤◌, ◌<◌, Bool, true, false, ◌&&◌, if◌then◌else◌, ◌⊎◌, List, [], ◌∷◌, length, codes, Option, Some, None}
use Rattle.std.specs.Str.{bytes_eq}
use Rattle.us_edge.specs.Faults.{Rose}
use Rattle.us_edge.specs.Streams.{Appends, AppendsPrefix, Gives, GivesMoreThan, IsAtEnd}
use Rattle.us_report.specs.declared.report.Report.{Report}
use Rattle.us_report.specs.Text.{report_text, short_text}
use Rattle.us_world.specs.declared.fault.WorldFault.{WorldFault}
use Rattle.us_world.specs.declared.fault.LinesFault.{LinesFault}
use Rattle.us_world.specs.declared.fault.LinesFault.TheVariants as ends
use Rattle.unistore.specs.declared.form.Form.{Form}
use Rattle.unistore.specs.declared.form.Form.TheVariants.{Replay}
use Rattle.unistore.specs.declared.schedule.Refusal.{Refusal}
use Rattle.unistore.specs.declared.schedule.Script.{Script}
use Rattle.unistore.specs.declared.schedule.Schedule.{Schedule}
use Rattle.unistore.specs.declared.schedule.Schedule.TheVariants.{Refused, Read}
use Rattle.unistore.specs.declared.status.LimitKind.TheVariants.{Text}
use Rattle.unistore.specs.declared.status.LimitKind.{LimitKind}
use Rattle.unistore.specs.declared.status.Reason.{Reason}
use Rattle.unistore.specs.declared.status.Status.{Status}
use Rattle.unistore.specs.declared.status.Status.TheVariants.{Done, Words, Input, ReadFault, WriteFault, Memory, Limit}
use Rattle.unistore.specs.Report.{IsReportOf, HaveWorld, PassAt}
use Rattle.unistore.specs.Schedule.{schedule_of}
use Rattle.unistore.specs.Status.{kind_of, refusal_text}

-- the forms of the words
abbrev pub form_of : List (List ℕ) → Option Form
form_of (word ∷ []) = if bytes_eq word (codes "replay") then Some (Replay false) else None
form_of (word ∷ extent ∷ []) = if bytes_eq word (codes "replay") && bytes_eq extent (codes "short") then Some (Replay true) else None
form_of _ = None

-- whether only the last line of the report is asked for
abbrev pub is_short : Form → Bool
is_short (Replay short) = short

-- a source: the bytes left, where it tells them, and its count of faults
pub record SourceState : Type 0 where
  pub left : Option (List ℕ)
  pub faults : ℕ

-- a sink: the bytes written, where it tells them, and its count of faults
pub record SinkState : Type 0 where
  pub written : Option (List ℕ)
  pub faults : ℕ

-- exactly the text was written
abbrev pub Writes : SinkState → SinkState → List ℕ → Type 0
Writes before after text = Appends before.written after.written text

-- a prefix of the text was written, and then a write failed
pub record FailsIn (before after : SinkState) (text : List ℕ) : Type 0 where
  pub part : AppendsPrefix before.written after.written text
  pub rose : Rose before.faults after.faults

-- nothing was written
abbrev pub WritesNothing : SinkState → SinkState → Type 0
WritesNothing before after = after.written ≡ before.written

-- ---- the text that came

-- the source gave the text, which is within the limit, and ended
pub record WasRead (text : List ℕ) (before after : SourceState) : Type 0 where
  pub given : Gives before.left after.left text
  pub end : IsAtEnd after.left
  pub within : length text ≤ 2 ^ 28

-- the source gave more than the limit
abbrev pub CameTooMuch : SourceState → SourceState → Type 0
CameTooMuch before after = GivesMoreThan (2 ^ 28) before.left after.left

-- ---- what a status says of a schedule

-- the text of a report, or its last line alone
abbrev pub text_of : Bool → Report → List ℕ
text_of short report = if short then short_text report else report_text report

abbrev pub input : Refusal → Status
input refusal = Input refusal.line refusal.reason

-- the line of a refused input was written whole
pub record RefusesInput (refusal : Refusal) (before after : SinkState) (line : ℕ) (reason : Reason) : Type 0 where
  pub same_line : line ≡ refusal.line
  pub same_reason : reason ≡ refusal.reason
  pub written : Writes before after (refusal_text (input refusal))

-- the input is refused at a line
abbrev pub Refuses : Refusal → SinkState → SinkState → Status → Type 0
Refuses refusal before after (Input line reason) = RefusesInput refusal before after line reason
Refuses refusal before after WriteFault = FailsIn before after (refusal_text (input refusal))
Refuses refusal before after Memory = WritesNothing before after
Refuses refusal before after _ = ⊥

-- the line of a passed limit was written whole
pub record RefusesLimit (which : LimitKind) (line : ℕ) (before after : SinkState) (said : LimitKind) (said_line : ℕ) : Type 0 where
  pub same_kind : said ≡ which
  pub same_line : said_line ≡ line
  pub written : Writes before after (refusal_text (Limit which line))

-- a limit is passed at a line
abbrev pub Passed : LimitKind → ℕ → SinkState → SinkState → Status → Type 0
Passed which line before after (Limit said said_line) = RefusesLimit which line before after said said_line
Passed which line before after WriteFault = FailsIn before after (refusal_text (Limit which line))
Passed which line before after Memory = WritesNothing before after
Passed which line before after _ = ⊥

-- memory ran out, and nothing was written
abbrev pub RunsOut : SinkState → SinkState → Status → Type 0
RunsOut before after Memory = WritesNothing before after
RunsOut before after _ = ⊥

abbrev pub PassedKind : Option LimitKind → ℕ → SinkState → SinkState → Status → Type 0
PassedKind (Some which) line before after status = Passed which line before after status
PassedKind None line before after status = RunsOut before after status

-- by the fault of lines
abbrev pub PassedFault : LinesFault → SinkState → SinkState → Status → Type 0
PassedFault (ends.Limit line which) before after status = PassedKind (kind_of which) line before after status
PassedFault ends.Memory before after status = RunsOut before after status

-- the report was written whole, or a prefix of it
abbrev pub Tells : Bool → Report → SinkState → SinkState → Status → Type 0
Tells short report before after Done = Writes before after (text_of short report)
Tells short report before after WriteFault = FailsIn before after (text_of short report)
Tells short report before after Memory = AppendsPrefix before.written after.written (text_of short report)
Tells short report before after _ = ⊥

-- the lines have a world, and its report is told
pub record Reports (short : Bool) (script : Script) (before after : SinkState) (status : Status) : Type 0 where
  pub report : Report
  pub is : IsReportOf script report
  pub tells : Tells short report before after status

-- the lines have a world, and then the line behind them is refused
pub record RefusesBehind (script : Script) (refusal : Refusal) (before after : SinkState) (status : Status) : Type 0 where
  pub world : HaveWorld script
  pub refuses : Refuses refusal before after status

-- the lines pass a limit
pub record PassesLimit (script : Script) (before after : SinkState) (status : Status) : Type 0 where
  pub line : ℕ
  pub passed : WorldFault
  pub pass : PassAt script line passed
  pub which : LimitKind
  pub kind : kind_of passed ≡ Some which
  pub says : Passed which line before after status

-- what comes behind the lines
abbrev pub ComesBehind : Bool → Script → Option Refusal → SinkState → SinkState → Status → Type 0
ComesBehind short script None before after status = Reports short script before after status
ComesBehind short script (Some refusal) before after status = RefusesBehind script refusal before after status

-- by what the text says: a limit that the lines pass comes before the refusal behind them
abbrev pub Performs : Bool → Schedule → SinkState → SinkState → Status → Type 0
Performs short (Refused refusal) before after status = Refuses refusal before after status
Performs short (Read script refused) before after status =
    PassesLimit script before after status ⊎ (ComesBehind short script refused before after status ⊎ RunsOut before after status)

-- ---- what a status says of a call

-- a text came whole, and of what it says the status says this
pub record Performed (short : Bool) (source source_after : SourceState) (sink sink_after : SinkState) (status : Status) : Type 0 where
  pub text : List ℕ
  pub came : WasRead text source source_after
  pub performs : Performs short (schedule_of text) sink sink_after status

-- what a status says where too much came
abbrev pub RefusesTooMuch : SinkState → SinkState → Status → Type 0
RefusesTooMuch sink sink_after (Limit which line) = RefusesLimit Text 0 sink sink_after which line
RefusesTooMuch sink sink_after WriteFault = FailsIn sink sink_after (refusal_text (Limit Text 0))
RefusesTooMuch sink sink_after _ = ⊥

-- too much came
pub record RefusesLength (source source_after : SourceState) (sink sink_after : SinkState) (status : Status) : Type 0 where
  pub came : CameTooMuch source source_after
  pub refuses : RefusesTooMuch sink sink_after status

-- a read failed, and nothing was written
pub record FailsToRead (source source_after : SourceState) (sink sink_after : SinkState) : Type 0 where
  pub rose : Rose source.faults source_after.faults
  pub silent : WritesNothing sink sink_after

-- the words ask for a replay
abbrev pub Replays : Bool → SourceState → SourceState → SinkState → SinkState → Status → Type 0
Replays short source source_after sink sink_after ReadFault = FailsToRead source source_after sink sink_after
Replays short source source_after sink sink_after Memory =
    WritesNothing sink sink_after ⊎ Performed short source source_after sink sink_after Memory
Replays short source source_after sink sink_after status =
    RefusesLength source source_after sink sink_after status ⊎ Performed short source source_after sink sink_after status

-- the words are no form
abbrev pub RefusesWords : SinkState → SinkState → Status → Type 0
RefusesWords sink sink_after Words = Writes sink sink_after (refusal_text Words)
RefusesWords sink sink_after WriteFault = FailsIn sink sink_after (refusal_text Words)
RefusesWords sink sink_after _ = ⊥

-- by the form of the words
abbrev pub AnswersForm : Option Form → SourceState → SourceState → SinkState → SinkState → Status → Type 0
AnswersForm None source source_after sink sink_after status = RefusesWords sink sink_after status
AnswersForm (Some (Replay short)) source source_after sink sink_after status = Replays short source source_after sink sink_after status

-- WHAT A STATUS SAYS: the cause of each, and what was written
abbrev pub Answers : List (List ℕ) → SourceState → SourceState → SinkState → SinkState → Status → Type 0
Answers words source source_after sink sink_after status = AnswersForm (form_of words) source source_after sink sink_after status

-- ---- the same, status by status

-- the text was read whole
pub record IsRead (left left_after : Option (List ℕ)) (text : List ℕ) : Type 0 where
  pub given : Gives left left_after text
  pub end : IsAtEnd left_after

-- the words ask for a replay, the text was read whole, none of its lines is refused, and the report of these was written
-- whole, or its last line alone where that was asked
pub record IsDone (asked : Option Form) (left left_after written written_after : Option (List ℕ)) : Type 0 where
  pub short : Bool
  pub replays : asked ≡ Some (Replay short)
  pub text : List ℕ
  pub read : IsRead left left_after text
  pub script : Script
  pub accepted : schedule_of text ≡ Read script None
  pub report : Report
  pub is : IsReportOf script report
  pub whole : Appends written written_after (text_of short report)

-- where a text is refused: before any line is performed, or behind lines that have a world
abbrev pub IsRefusedAt : Schedule → Refusal → Type 0
IsRefusedAt (Refused refusal) at = refusal ≡ at
IsRefusedAt (Read script refused) at = HaveWorld script × (refused ≡ Some at)

-- the text was read whole, it is refused there, and the line of that refusal was written whole
pub record IsRefusedInput (left left_after written written_after : Option (List ℕ)) (line : ℕ) (reason : Reason) : Type 0 where
  pub text : List ℕ
  pub read : IsRead left left_after text
  pub refused : IsRefusedAt (schedule_of text) (record { line = line; reason = reason })
  pub whole : Appends written written_after (refusal_text (Input line reason))

-- what a refused input says
abbrev pub IfInput : Status → (ℕ → Reason → Type 0) → Type 0
IfInput (Input line reason) P = P line reason
IfInput _ P = ⊤

-- the lines of a text pass that limit at the line of that number
pub record IsPassedBy (schedule : Schedule) (which : LimitKind) (line : ℕ) : Type 0 where
  pub script : Script
  pub refused : Option Refusal
  pub is : schedule ≡ Read script refused
  pub passed : WorldFault
  pub pass : PassAt script line passed
  pub kind : kind_of passed ≡ Some which

-- too much came, or the text was read whole and its lines pass the limit
abbrev pub IsPast : Option (List ℕ) → Option (List ℕ) → LimitKind → ℕ → Type 0
IsPast left left_after which line =
    ((which ≡ Text) × (line ≡ 0) × GivesMoreThan (2 ^ 28) left left_after)
    ⊎ ((text : List ℕ) × IsRead left left_after text × IsPassedBy (schedule_of text) which line)

-- and the line of that was written whole
pub record IsLimited (left left_after written written_after : Option (List ℕ)) (which : LimitKind) (line : ℕ) : Type 0 where
  pub past : IsPast left left_after which line
  pub whole : Appends written written_after (refusal_text (Limit which line))

-- what a passed limit says
abbrev pub IfLimit : Status → (LimitKind → ℕ → Type 0) → Type 0
IfLimit (Limit which line) P = P which line
IfLimit _ P = ⊤

-- ---- completeness

-- the status of a passed limit
abbrev pub status_of_kind : Option LimitKind → ℕ → Status
status_of_kind (Some which) line = Limit which line
status_of_kind None line = Memory

-- the status behind lines that have a world
abbrev pub status_behind : Option Refusal → Status
status_behind None = Done
status_behind (Some refusal) = input refusal

-- the lines pass a limit, and that is the status
pub record IsPassedStatus (script : Script) (status : Status) : Type 0 where
  pub line : ℕ
  pub passed : WorldFault
  pub pass : PassAt script line passed
  pub is : status ≡ status_of_kind (kind_of passed) line

-- the status of a schedule where no write fails and there is memory: its lines have one of both (`outcomes_are_one`)
abbrev pub IsStatusOf : Schedule → Status → Type 0
IsStatusOf (Refused refusal) status = status ≡ input refusal
IsStatusOf (Read script refused) status = (HaveWorld script × (status ≡ status_behind refused)) ⊎ IsPassedStatus script status

-- the answer where no read and no write fails and there is memory
abbrev pub IsExpected : Option Form → List ℕ → Status → Type 0
IsExpected None text status = status ≡ Words
IsExpected (Some (Replay short)) text status =
    ((2 ^ 28 < length text) × (status ≡ Limit Text 0)) ⊎ ((length text ≤ 2 ^ 28) × IsStatusOf (schedule_of text) status)
