-- Promise: that the contents of the files decide the answer, but for failures and for sessions, whose links decide as well.
use Rattle.std.specs.Prelude.{◌≡◌, Bool, true, ℕ, List, [], ◌∷◌, Option, Some, None, Ok, Err, ◌⊎◌}
use Rattle.torx_words.specs.Accepted.{asked}
use Rattle.torx_words.specs.declared.kind.UsageKind.{UsageKind}
use Rattle.torx_words.specs.declared.kind.UsageKind.TheVariants.{NoCommand, UnknownCommand}
use Rattle.tool_base.specs.declared.refusal.Refusal.{Refusal}
use Rattle.tool_base.specs.Contents.{Contents, AreTold}
use Rattle.tool_base.specs.Once.{IsLike}
use Rattle.tool_base.specs.Pages.{Page, Command}
use Rattle.cmd_drive.specs.Dialled.{Dialled}
use Rattle.torx_tool.specs.declared.commands.Name.{Name}
use Rattle.torx_tool.specs.declared.status.Status.{Status}
use Rattle.torx_tool.specs.declared.status.Status.TheVariants.{Usage}
use Rattle.torx_tool.specs.Commands.{named, row}
use Rattle.torx_tool.specs.Status.{refusal_status, IsFailure}

-- the answer is this one, but for failures
abbrev pub IsBut : Status → Status → Type 0
IsBut due status = (status ≡ due) ⊎ IsFailure status

-- the answer is this refusal, but for failures and for the cycle that it tells
abbrev pub IsRefusedBy : Refusal → Status → Type 0
IsRefusedBy r status = ((q : Refusal) × IsLike r q × (status ≡ refusal_status q)) ⊎ IsFailure status

-- what the page refuses is refused; and what it answers, where the contents decide it, is answered
pub record IsByPage {O : Type 0} (page : Page O) (status_of : O → Status) (decided : Bool) (status : Status) : Type 0 where
  pub refused : (r : Refusal) → page.refuses r → IsRefusedBy r status
  pub answered : decided ≡ true → (o : O) (text : List ℕ) → page.answers o text → IsBut (status_of o) status

-- words that are refused are answered so; files whose contents are told are answered by the page of the command
pub record IsByCommand {A O : Type 0} (command : Command A O) (status_of : O → Status) (decided : Bool) (contents : Contents)
    (words : List (List ℕ)) (status : Status) : Type 0 where
  pub usage : (kind : UsageKind) → asked command.shape command.asked words ≡ Err kind → IsBut (Usage kind) status
  pub page : (x : A) → asked command.shape command.asked words ≡ Ok x → AreTold contents (command.page contents x).names →
      IsByPage (command.page contents x) status_of decided status

abbrev pub IsByName : Dialled → Option Name → Contents → List (List ℕ) → Status → Type 0
IsByName run (Some name) contents words status = IsByCommand (row run name).command (row run name).status (row run name).decided contents words status
IsByName run None contents words status = IsBut (Usage UnknownCommand) status

-- the answer is the one that is due for the words and the contents of the files
abbrev pub IsAnswered : Dialled → Contents → List (List ℕ) → Status → Type 0
IsAnswered run contents [] status = IsBut (Usage NoCommand) status
IsAnswered run contents (first ∷ others) status = IsByName run (named first) contents others status
