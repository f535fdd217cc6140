-- Promise: the answers of the simulated implementation that come with a text of their own, and how that is written.
use Rattle.std.specs.Prelude.{◌≡◌, ℕ, List, [], ◌⊎◌}
use Rattle.edge_io.specs.Outside.{ToldSink, SinkFails, AppendsTo, AppendsFrontTo}
use Rattle.tool_base.specs.declared.refusal.Stop.{Stop}
use Rattle.tool_base.specs.declared.refusal.Stop.TheVariants.{Usage as BadWords, Refused, Memory as NoRoom}
use Rattle.tool_base.specs.declared.report.Report.{Report}
use Rattle.tool_base.specs.Texts.{usage_text, refusal_text}
use Rattle.cmd_check.specs.declared.outcome.CheckOutcome.TheVariants.{NotEnabled as Lacking}
use Rattle.cmd_check.specs.Check.{check_text}
use Rattle.sim_serve.specs.declared.status.SimStatus.{SimStatus}
use Rattle.sim_serve.specs.declared.status.SimStatus.TheVariants.{Usage, NotEnabled, OutFault, Memory}
use Rattle.sim_serve.specs.Status.{refusal_status}

-- memory ran out, and nothing is printed
abbrev pub no_memory : Report SimStatus
no_memory = record { outcome = Memory; text = [] }

-- what is answered, and printed, where the work stopped before any session
abbrev pub stop_report : Stop → Report SimStatus
stop_report (BadWords kind) = record { outcome = Usage kind; text = usage_text kind }
stop_report (Refused r) = record { outcome = refusal_status r; text = refusal_text r }
stop_report NoRoom = no_memory

-- the system of the file of this name lacks an input in this state
abbrev pub lacking_report : List (List ℕ) → List ℕ → ℕ → ℕ → Report SimStatus
lacking_report texts name state input = record { outcome = NotEnabled name state input; text = check_text texts (Lacking name state input) }

-- the report is this one, or memory ran out
abbrev pub IsOrNoMemory : Report SimStatus → Report SimStatus → Type 0
IsOrNoMemory told report = (report ≡ told) ⊎ (report ≡ no_memory)

-- the whole text of the report is written, and its answer is given; or the output failed after a front of it
abbrev pub IsPut : Report SimStatus → ToldSink → ToldSink → SimStatus → Type 0
IsPut report old new status = ((status ≡ report.outcome) × AppendsTo old new report.text) ⊎
    ((status ≡ OutFault) × SinkFails old new × AppendsFrontTo old new report.text)

-- nothing is written where memory ran out; else the report is put
abbrev pub IsWritten : Report SimStatus → ToldSink → ToldSink → SimStatus → Type 0
IsWritten report old new status = ((report.outcome ≡ Memory) × (status ≡ Memory) × AppendsTo old new []) ⊎
    (¬ (report.outcome ≡ Memory) × IsPut report old new status)
