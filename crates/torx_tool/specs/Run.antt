-- Promise: what the program answers and prints, from its words and the contents of its files.
use Rattle.std.specs.Prelude.{◌≡◌, ℕ, List, [], ◌∷◌, map, Option, Some, None, Result, Ok, Err, ◌⊎◌, String, string_bytes}
use Rattle.edge_io.specs.declared.act.Act.{Act}
use Rattle.edge_io.specs.Dials.{ToldDialer}
use Rattle.edge_io.specs.Outside.{ToldFiles, ToldSink, SinkFails, AppendsTo, AppendsFrontTo}
use Rattle.torx_words.specs.declared.kind.UsageKind.TheVariants.{NoCommand, UnknownCommand}
use Rattle.tool_base.specs.declared.refusal.Stop.{Stop}
use Rattle.tool_base.specs.declared.refusal.Stop.TheVariants.{Usage as BadWords, Refused, Memory as NoRoom}
use Rattle.tool_base.specs.declared.report.Report.{Report}
use Rattle.tool_base.specs.Pages.{Command, Answers}
use Rattle.tool_base.specs.Texts.{usage_text, refusal_text}
use Rattle.cmd_drive.specs.Dialled.{Dialled, dialled}
use Rattle.torx_tool.specs.declared.commands.Name.{Name}
use Rattle.torx_tool.specs.declared.status.Status.{Status}
use Rattle.torx_tool.specs.declared.status.Status.TheVariants.{Usage, OutFault, Memory}
use Rattle.torx_tool.specs.Commands.{named, row}
use Rattle.torx_tool.specs.Status.{refusal_status}

-- memory ran out, and nothing is printed
abbrev pub no_memory : Report Status
no_memory = record { outcome = Memory; text = [] }

-- what is answered, and printed, where the work stopped
abbrev pub stop_report : Stop → Report Status
stop_report (BadWords kind) = record { outcome = Usage kind; text = usage_text kind }
stop_report (Refused r) = record { outcome = refusal_status r; text = refusal_text r }
stop_report NoRoom = no_memory

-- the same for what a command answered
abbrev pub report_of : {O : Type 0} → (O → Status) → Result (Report O) Stop → Report Status
report_of status (Ok report) = record { outcome = status report.outcome; text = report.text }
report_of status (Err stop) = stop_report stop

-- the report is this one, or memory ran out
abbrev pub IsReport : Report Status → Report Status → Type 0
IsReport told report = (report ≡ told) ⊎ (report ≡ no_memory)

-- the report tells what the command answers to the words after its name
abbrev pub Reports : {A O : Type 0} → Command A O → (O → Status) → List (List ℕ) → ToldFiles → ToldFiles → Report Status → Type 0
Reports {O = O} command status words old new report =
    (result : Result (Report O) Stop) × Answers command words old new result × IsReport (report_of status result) report

abbrev pub ReportsBy : Dialled → Option Name → List (List ℕ) → ToldFiles → ToldFiles → Report Status → Type 0
ReportsBy run (Some name) words old new report = Reports (row run name).command (row run name).status words old new report
ReportsBy run None words old new report = IsReport (stop_report (BadWords UnknownCommand)) report

-- the report on all words, with a dialer and files that were so before and after it
abbrev pub IsReportOn : Dialled → List (List ℕ) → ToldFiles → ToldFiles → Report Status → Type 0
IsReportOn run [] old new report = IsReport (stop_report (BadWords NoCommand)) report
IsReportOn run (first ∷ others) old new report = ReportsBy run (named first) others old new report

-- the whole text of the report is written, and its answer is given; or the output failed after a front of it
abbrev pub IsPut : Report Status → ToldSink → ToldSink → Status → Type 0
IsPut report old new status = ((status ≡ report.outcome) × AppendsTo old new report.text) ⊎
    ((status ≡ OutFault) × SinkFails old new × AppendsFrontTo old new report.text)

-- nothing is written where memory ran out; else the report is put
abbrev pub IsWritten : Report Status → ToldSink → ToldSink → Status → Type 0
IsWritten report old new status = ((report.outcome ≡ Memory) × (status ≡ Memory) × AppendsTo old new []) ⊎
    (¬ (report.outcome ≡ Memory) × IsPut report old new status)

-- the answer is that of a report on the words, with a dialer and files that were so before and after the run, and its text is
-- written
pub record IsRun (run : Dialled) (words : List (List ℕ)) (old new : ToldFiles) (before after : ToldSink) (status : Status) : Type 0 where
  pub report : Report Status
  pub reported : IsReportOn run words old new report
  pub written : IsWritten report before after status

-- the bytes of each word
abbrev pub texts : {A : Type 0} → List (String A) → List (List ℕ)
texts {A} words = map string_bytes words

-- the same, with a dialer whose links go by this relation, and what it tells before and after
abbrev pub Runs : {L : Type 0} → (L → Act → L → Type 0) → ToldDialer → ToldDialer → List (List ℕ) → ToldFiles → ToldFiles → ToldSink → ToldSink → Status → Type 0
Runs gives told later words old new before after status = IsRun (dialled gives told later) words old new before after status
