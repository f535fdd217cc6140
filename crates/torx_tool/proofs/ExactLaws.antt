-- The contents of the files decide what a report says, but for failures.
use Rattle.std.proofs.Common.{◌≡◌, ◌∙◌, Bool, true, false, ℕ, List, [], ◌∷◌, Option, Some, None, Result, Ok, Err, inl, inr, ◌⊎◌, sym, ap, subst}
use Rattle.edge_io.specs.Outside.{ToldFiles, ToldSink}
use Rattle.torx_words.specs.Form.{Reading}
use Rattle.torx_words.specs.Accepted.{accepted, asked, asked_by}
use Rattle.torx_words.specs.declared.kind.UsageKind.{UsageKind}
use Rattle.torx_words.specs.declared.kind.UsageKind.TheVariants.{NoCommand, UnknownCommand}
use Rattle.tool_base.specs.declared.refusal.Refusal.{Refusal}
use Rattle.tool_base.specs.declared.refusal.Refusal.TheVariants.{TooLong, BadFile, BadLabels, Divergent, FileFault}
use Rattle.tool_base.specs.declared.refusal.Stop.{Stop}
use Rattle.tool_base.specs.declared.refusal.Stop.TheVariants.{Usage as BadWords, Refused, Memory as NoRoom}
use Rattle.tool_base.specs.declared.report.Report.{Report}
use Rattle.tool_base.specs.Contents.{Contents, AreTold}
use Rattle.tool_base.specs.Once.{IsOnce, IsRefusedOnce}
use Rattle.tool_base.specs.Pages.{Page, Command, Answers, AnswersReading, IsFault, IsOnPage, IsUsage}
use Rattle.cmd_drive.specs.Dialled.{Dialled}
use Rattle.torx_tool.specs.declared.commands.Name.{Name}
use Rattle.torx_tool.specs.declared.status.Status.{Status}
use Rattle.torx_tool.specs.declared.status.Status.TheVariants.{Usage}
use Rattle.torx_tool.specs.Commands.{named, Row, row}
use Rattle.torx_tool.specs.Status.{refusal_status, IsFailure}
use Rattle.torx_tool.specs.Run.{no_memory, stop_report, report_of, IsReport, Reports, ReportsBy, IsReportOn, IsWritten}
use Rattle.torx_tool.proofs.RowLaws.{IsOnceBy, row_once}
use Rattle.torx_tool.specs.Exact.{IsBut, IsRefusedBy, IsByPage, IsByCommand, IsByName, IsAnswered}

-- what a report says, by the page of the command: a failure, what the page refuses, or what it answers
pub record IsAnswer {O : Type 0} (page : Page O) (status : O → Status) (report : Report Status) : Type 0 where
  pub outcome : O
  pub text : List ℕ
  pub answers : page.answers outcome text
  pub is : report ≡ record { outcome = status outcome; text = text }

pub record IsRefusal {O : Type 0} (page : Page O) (report : Report Status) : Type 0 where
  pub refusal : Refusal
  pub refuses : page.refuses refusal
  pub is : report ≡ stop_report (Refused refusal)

abbrev pub IsByReport : {O : Type 0} → Page O → (O → Status) → Report Status → Type 0
IsByReport page status report = IsFailure report.outcome ⊎ (IsRefusal page report ⊎ IsAnswer page status report)

-- a report of want of memory is a failure
memory_fails : (report : Report Status) → report ≡ no_memory → IsFailure report.outcome
memory_fails report is = subst (λ (r : Report Status). IsFailure r.outcome) (sym is) tt

-- a file that couldn't be read is a failure
fault_fails : (old new : ToldFiles) (names : List (List ℕ)) (r : Refusal) → IsFault old new names r → IsFailure (refusal_status r)
fault_fails old new names (FileFault name) h = tt
fault_fails old new names (TooLong name) h = h
fault_fails old new names (BadFile name error) h = h
fault_fails old new names (BadLabels error) h = h
fault_fails old new names (Divergent name cycle) h = h

-- a result on the page is told so
told_by_page : {O : Type 0} (page : Page O) (status : O → Status) (old new : ToldFiles) (result : Result (Report O) Stop) (report : Report Status) → IsOnPage page old new result → report ≡ report_of status result → IsByReport page status report
told_by_page page status old new (Ok given) report on is = inr (inr (record { outcome = given.outcome; text = given.text; answers = on; is = is }))
told_by_page page status old new (Err (BadWords kind)) report on is = absurd on
told_by_page page status old new (Err NoRoom) report on is = inl (memory_fails report is)
told_by_page page status old new (Err (Refused r)) report (inl fault) is = inl (subst (λ (x : Report Status). IsFailure x.outcome) (sym is) (fault_fails old new page.names r fault))
told_by_page page status old new (Err (Refused r)) report (inr why) is = inr (inl (record { refusal = r; refuses = why; is = is }))

-- a command's result for words that ask for x is on the page for x
pub on_page : {A O : Type 0} (command : Command A O) (words : List (List ℕ)) (x : A) (old new : ToldFiles) (result : Result (Report O) Stop) → asked command.shape command.asked words ≡ Ok x → Answers command words old new result →
    IsOnPage (command.page old.content x) old new result
on_page {A} {O} command words x old new result ask h = go (accepted command.shape words) ask h
  where
    go : (r : Result Reading UsageKind) → asked_by command.asked r ≡ Ok x → AnswersReading command r old new result → IsOnPage (command.page old.content x) old new result
    go (Ok reading) is on = let same : command.asked reading ≡ x = cc is in subst (λ (y : A). IsOnPage (command.page old.content y) old new result) same on
    go (Err kind) is on = absurd (cc is)

-- and for words that are refused it says so
on_usage : {A O : Type 0} (command : Command A O) (words : List (List ℕ)) (kind : UsageKind) (old new : ToldFiles) (result : Result (Report O) Stop) → asked command.shape command.asked words ≡ Err kind → Answers command words old new result → IsUsage kind result
on_usage {A} {O} command words kind old new result ask h = go (accepted command.shape words) ask h
  where
    go : (r : Result Reading UsageKind) → asked_by command.asked r ≡ Err kind → AnswersReading command r old new result → IsUsage kind result
    go (Ok reading) is on = absurd (cc is)
    go (Err other) is on = let same : other ≡ kind = cc is in subst (λ (k : UsageKind). IsUsage k result) same on

-- a report for words that ask for x is by the page for x
pub by_page : {A O : Type 0} (command : Command A O) (status : O → Status) (words : List (List ℕ)) (x : A) (old new : ToldFiles) (report : Report Status) → asked command.shape command.asked words ≡ Ok x → Reports command status words old new report →
    IsByReport (command.page old.content x) status report
by_page command status words x old new report ask (result, answers, inl is) = told_by_page (command.page old.content x) status old new result report (on_page command words x old new result ask answers) is
by_page command status words x old new report ask (result, answers, inr memory) = inl (memory_fails report memory)

-- a report for words that are refused says so
by_usage : {A O : Type 0} (command : Command A O) (status : O → Status) (words : List (List ℕ)) (kind : UsageKind) (old new : ToldFiles) (report : Report Status) → asked command.shape command.asked words ≡ Err kind → Reports command status words old new report →
    IsBut (Usage kind) report.outcome
by_usage {A} {O} command status words kind old new report ask (result, answers, inr memory) = inr (memory_fails report memory)
by_usage {A} {O} command status words kind old new report ask (result, answers, inl is) = go result (on_usage command words kind old new result ask answers) is
  where
    go : (r : Result (Report O) Stop) → IsUsage kind r → report ≡ report_of status r → IsBut (Usage kind) report.outcome
    go (Ok given) h told = absurd h
    go (Err (BadWords k)) h told = inl (ap (λ (x : Report Status). x.outcome) told ∙ ap Usage h)
    go (Err (Refused r)) h told = absurd h
    go (Err NoRoom) h told = inr (memory_fails report told)

-- what a page refuses, where it is so once, is refused
refused_by : {O : Type 0} (page : Page O) (status : O → Status) (report : Report Status) (r : Refusal) → IsRefusedOnce page → IsByReport page status report → page.refuses r → IsRefusedBy r report.outcome
refused_by page status report r once (inl failure) why = inr failure
refused_by page status report r once (inr (inl other)) why = inl (other.refusal, once.refused r other.refusal why other.refuses, ap (λ (x : Report Status). x.outcome) other.is)
refused_by page status report r once (inr (inr answer)) why = absurd (once.apart r answer.outcome answer.text why answer.answers)

-- what it answers is answered
answered_by : {O : Type 0} (page : Page O) (status : O → Status) (report : Report Status) (o : O) (t : List ℕ) → IsOnce page → IsByReport page status report → page.answers o t → IsBut (status o) report.outcome
answered_by page status report o t once (inl failure) due = inr failure
answered_by page status report o t once (inr (inl other)) due = absurd (once.apart other.refusal o t other.refuses due)
answered_by page status report o t once (inr (inr answer)) due =
    inl (ap (λ (x : Report Status). x.outcome) answer.is ∙ ap status (once.answered answer.outcome o answer.text t answer.answers due))

exact_page : {A O : Type 0} (command : Command A O) (status : O → Status) (decided : Bool) (words : List (List ℕ)) (x : A) (old new : ToldFiles) (report : Report Status) → asked command.shape command.asked words ≡ Ok x → Reports command status words old new report →
    IsOnceBy (command.page old.content x) decided → IsByPage (command.page old.content x) status decided report.outcome
exact_page command status decided words x old new report ask h once =
    let told = by_page command status words x old new report ask h in
    record {
      refused = λ r why. refused_by (command.page old.content x) status report r once.refuses told why;
      answered = λ is o t due. answered_by (command.page old.content x) status report o t (once.answers is) told due;
    }

-- a report is what is due for the words and the contents, where the command answers one thing
exact : {A O : Type 0} (command : Command A O) (status : O → Status) (decided : Bool) (words : List (List ℕ)) (old new : ToldFiles) (report : Report Status) →
    ((x : A) → AreTold old.content (command.page old.content x).names → IsOnceBy (command.page old.content x) decided) → Reports command status words old new report →
    IsByCommand command status decided old.content words report.outcome
exact command status decided words old new report once h = record {
  usage = λ kind why. by_usage command status words kind old new report why h;
  page = λ x ask told. exact_page command status decided words x old new report ask h (once x told);
}

-- so is that of words that are no command
no_command : (kind : UsageKind) (report : Report Status) → IsReport (stop_report (BadWords kind)) report → IsBut (Usage kind) report.outcome
no_command kind report (inl is) = inl (ap (λ (x : Report Status). x.outcome) is)
no_command kind report (inr memory) = inr (memory_fails report memory)

exact_name : (run : Dialled) (name : Option Name) (words : List (List ℕ)) (old new : ToldFiles) (report : Report Status) → ReportsBy run name words old new report → IsByName run name old.content words report.outcome
exact_name run (Some name) words old new report h = exact (row run name).command (row run name).status (row run name).decided words old new report (row_once run name old.content) h
exact_name run None words old new report h = no_command UnknownCommand report h

pub exact_report : (run : Dialled) (words : List (List ℕ)) (old new : ToldFiles) (report : Report Status) → IsReportOn run words old new report → IsAnswered run old.content words report.outcome
exact_report run [] old new report h = no_command NoCommand report h
exact_report run (first ∷ others) old new report h = exact_name run (named first) others old new report h

-- ---- a failure says nothing

failed_command : {A O : Type 0} (command : Command A O) (status_of : O → Status) (decided : Bool) (contents : Contents) (words : List (List ℕ)) (status : Status) → IsFailure status → IsByCommand command status_of decided contents words status
failed_command command status_of decided contents words status failure = record {
  usage = λ kind why. inr failure;
  page = λ x ask told. record { refused = λ r why. inr failure; answered = λ is o t due. inr failure };
}

failed_name : (run : Dialled) (name : Option Name) (contents : Contents) (words : List (List ℕ)) (status : Status) → IsFailure status → IsByName run name contents words status
failed_name run (Some name) contents words status failure = failed_command (row run name).command (row run name).status (row run name).decided contents words status failure
failed_name run None contents words status failure = inr failure

pub failed_answer : (run : Dialled) (words : List (List ℕ)) (contents : Contents) (status : Status) → IsFailure status → IsAnswered run contents words status
failed_answer run [] contents status failure = inr failure
failed_answer run (first ∷ others) contents status failure = failed_name run (named first) contents others status failure

-- what is written of a report is what is due as well, but for failures
pub written_answer : (run : Dialled) (words : List (List ℕ)) (contents : Contents) (report : Report Status) (old new : ToldSink) (status : Status) → IsAnswered run contents words report.outcome → IsWritten report old new status → IsAnswered run contents words status
written_answer run words contents report old new status due (inl (out, memory, none)) = failed_answer run words contents status (subst IsFailure (sym memory) tt)
written_answer run words contents report old new status due (inr (some, inl (is, appended))) = subst (IsAnswered run contents words) (sym is) due
written_answer run words contents report old new status due (inr (some, inr (fault, fails, front))) = failed_answer run words contents status (subst IsFailure (sym fault) tt)
