-- From what words ask for to what a command answers.
use Rattle.std.proofs.Common.{◌≡◌, ℕ, List, Result, Ok, Err, IsErrAnd, sym, subst}
use Rattle.edge_io.specs.Outside.{ToldFiles}
use Rattle.torx_words.specs.Form.{Reading}
use Rattle.torx_words.specs.Accepted.{accepted, asked, asked_by, IsRefusal}
use Rattle.torx_words.specs.declared.kind.WordsError.{WordsError}
use Rattle.torx_words.specs.declared.kind.WordsError.TheVariants.{Usage as BadWords, Memory as NoRoomForWords}
use Rattle.torx_words.specs.declared.kind.UsageKind.{UsageKind}
use Rattle.tool_base.specs.declared.refusal.Stop.{Stop}
use Rattle.tool_base.specs.declared.refusal.Stop.TheVariants.{Usage, Memory}
use Rattle.tool_base.specs.declared.report.Report.{Report}
use Rattle.tool_base.specs.Pages.{Page, Command, Answers, AnswersReading, IsOnPage, IsStopped, stop_of}

-- words that ask for something are answered by the page of what they ask for
pub answers_page : {A O : Type 0} (command : Command A O) (words : List (List ℕ)) (x : A) (old new : ToldFiles) (result : Result (Report O) Stop) → asked command.shape command.asked words ≡ Ok x → IsOnPage (command.page old.content x) old new result →
    Answers command words old new result
answers_page {A} {O} command words x old new result ask on = go (accepted command.shape words) ask
  where
    go : (r : Result Reading UsageKind) → asked_by command.asked r ≡ Ok x → AnswersReading command r old new result
    go (Ok reading) is = let same : command.asked reading ≡ x = cc is in subst (λ (y : A). IsOnPage (command.page old.content y) old new result) (sym same) on
    go (Err kind) is = absurd (cc is)

-- words that are refused are answered so
pub answers_usage : {A O : Type 0} (command : Command A O) (words : List (List ℕ)) (kind : UsageKind) (old new : ToldFiles) → asked command.shape command.asked words ≡ Err kind → Answers command words old new (Err (Usage kind))
answers_usage {A} {O} command words kind old new ask = go (accepted command.shape words) ask
  where
    go : (r : Result Reading UsageKind) → asked_by command.asked r ≡ Err kind → AnswersReading command r old new (Err (Usage kind))
    go (Ok reading) is = absurd (cc is)
    go (Err other) is = cc is

-- want of memory is an answer to all words
pub answers_memory : {A O : Type 0} (command : Command A O) (words : List (List ℕ)) (old new : ToldFiles) → Answers command words old new (Err Memory)
answers_memory {A} {O} command words old new = go (accepted command.shape words)
  where
    go : (r : Result Reading UsageKind) → AnswersReading command r old new (Err Memory)
    go (Ok reading) = tt
    go (Err kind) = tt

-- words that are refused, or for which memory ran out, are answered so
pub answers_stop : {A O : Type 0} (command : Command A O) (words : List (List ℕ)) (error : WordsError) (stop : Stop) (old new : ToldFiles) → IsRefusal (asked command.shape command.asked words) error → stop ≡ stop_of error →
    Answers command words old new (Err stop)
answers_stop {A} {O} command words (BadWords kind) stop old new ask is = rw is (answers_usage command words kind old new ask)
answers_stop {A} {O} command words NoRoomForWords stop old new ask is = rw is (answers_memory command words old new)

-- an error that is passed on stopped the command
pub stopped_on_page : {O : Type 0} (page : Page O) (old new : ToldFiles) (result : Result (Report O) Stop) (stop : Stop) → IsErrAnd result (λ s. s ≡ stop) → IsStopped old new page.names page.refuses stop → IsOnPage page old new result
stopped_on_page page old new (Ok report) stop is why = absurd is
stopped_on_page page old new (Err s) stop is why = rw is why
