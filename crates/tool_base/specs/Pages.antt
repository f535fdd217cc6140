-- Promise: what a command is, and what it answers.
use Rattle.std.specs.Prelude.{◌≡◌, ℕ, List, Contains, ◌⊎◌, Result, Ok, Err}
use Rattle.edge_io.specs.Outside.{ToldFiles, FailsAt}
use Rattle.torx_words.specs.Form.{Reading}
use Rattle.torx_words.specs.Accepted.{Shape, accepted}
use Rattle.torx_words.specs.declared.kind.UsageKind.{UsageKind}
use Rattle.torx_words.specs.declared.kind.WordsError.{WordsError}
use Rattle.torx_words.specs.declared.kind.WordsError.TheVariants.{Usage as BadWords, Memory as NoRoomForWords}
use Rattle.tool_base.specs.declared.refusal.Refusal.{Refusal}
use Rattle.tool_base.specs.declared.refusal.Refusal.TheVariants.{FileFault}
use Rattle.tool_base.specs.declared.refusal.Stop.{Stop}
use Rattle.tool_base.specs.declared.refusal.Stop.TheVariants.{Usage, Refused, Memory}
use Rattle.tool_base.specs.declared.report.Report.{Report}
use Rattle.tool_base.specs.Contents.{Contents}

-- a command on the files that it was given: the names of those that it reads, why it refuses them, and what it answers, with
-- the text of the answer
pub record Page (O : Type 0) : Type 1 where
  pub names : List (List ℕ)
  pub refuses : Refusal → Type 0
  pub answers : O → List ℕ → Type 0

-- a command: the form of its words, what a reading of them asks for, and its page for the contents of the files
pub record Command (A O : Type 0) : Type 1 where
  pub shape : Shape
  pub asked : Reading → A
  pub page : Contents → A → Page O

-- a file of these names couldn't be read: its count of faults rose
abbrev pub IsFault : ToldFiles → ToldFiles → List (List ℕ) → Refusal → Type 0
IsFault old new names (FileFault named) = Contains names named × FailsAt old new named
IsFault old new names other = ⊥

-- the work stopped: memory ran out, a file couldn't be read, or there is this cause
abbrev pub IsStopped : ToldFiles → ToldFiles → List (List ℕ) → (Refusal → Type 0) → Stop → Type 0
IsStopped old new names cause (Usage kind) = ⊥
IsStopped old new names cause (Refused r) = IsFault old new names r ⊎ cause r
IsStopped old new names cause Memory = Unit {0}

-- the result is that of the page, with files that were so before and after it
abbrev pub IsOnPage : {O : Type 0} → Page O → ToldFiles → ToldFiles → Result (Report O) Stop → Type 0
IsOnPage page old new (Ok report) = page.answers report.outcome report.text
IsOnPage page old new (Err stop) = IsStopped old new page.names page.refuses stop

-- the words are refused for this, or memory ran out
abbrev pub IsUsage : {O : Type 0} → UsageKind → Result O Stop → Type 0
IsUsage kind (Ok report) = ⊥
IsUsage kind (Err (Usage k)) = k ≡ kind
IsUsage kind (Err (Refused r)) = ⊥
IsUsage kind (Err Memory) = Unit {0}

-- the result is right for words that were read so
abbrev pub AnswersReading : {A O : Type 0} → Command A O → Result Reading UsageKind → ToldFiles → ToldFiles → Result (Report O) Stop → Type 0
AnswersReading command (Err kind) old new result = IsUsage kind result
AnswersReading command (Ok reading) old new result = IsOnPage (command.page old.content (command.asked reading)) old new result

-- the result is that of the command for the words after its name
abbrev pub Answers : {A O : Type 0} → Command A O → List (List ℕ) → ToldFiles → ToldFiles → Result (Report O) Stop → Type 0
Answers command words old new result = AnswersReading command (accepted command.shape words) old new result

-- what a command stops with where its words are refused
abbrev pub stop_of : WordsError → Stop
stop_of (BadWords kind) = Usage kind
stop_of NoRoomForWords = Memory
