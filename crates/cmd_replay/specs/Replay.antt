-- Promise: what `replay` answers, and when: the verdict on each log of a file, by its entries alone.
use Rattle.std.specs.Prelude.{ℕ, List}
use Rattle.lts_base.specs.Alphabet.{Alphabet}
use Rattle.lts_base.specs.System.{System}
use Rattle.log_text.specs.declared.log.Digest.{Digest}
use Rattle.log_text.specs.declared.log.Named.{Named}
use Rattle.log_report.specs.declared.replayed.ReplayOutcome.{ReplayOutcome}
use Rattle.log_report.specs.Replayed.{IsReplayed}
use Rattle.tool_base.specs.Contents.{Contents}
use Rattle.tool_base.specs.Pages.{Page, Command}
use Rattle.cmd_replay.specs.Asked.{AskedReplay, replay_shape, replay_of}
use Rattle.cmd_replay.specs.Logged.{RefusesLogged, AreGood, logged_names}

-- the answer and its text for the files
pub record AnswersReplay (contents : Contents) (asked : AskedReplay) (outcome : ReplayOutcome) (text : List ℕ) : Type 0 where
  pub a : Alphabet
  pub s : System
  pub digest : Digest
  pub logs : List Named
  pub good : AreGood contents asked a s digest logs
  pub replayed : IsReplayed a s logs outcome text

abbrev pub replay_page : Contents → AskedReplay → Page ReplayOutcome
replay_page contents asked = record { names = logged_names asked; refuses = RefusesLogged contents asked; answers = AnswersReplay contents asked }

abbrev pub replay_command : Command AskedReplay ReplayOutcome
replay_command = record { shape = replay_shape; asked = replay_of; page = replay_page }
