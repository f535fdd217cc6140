-- Promise: what `migrate` answers, and when: the logs of a file in version 2, or the first that isn't of the specification.
use Rattle.std.specs.Prelude.{ℕ, List}
use Rattle.lts_base.specs.Alphabet.{Alphabet}
use Rattle.lts_base.specs.System.{System}
use Rattle.log_text.specs.declared.log.Digest.{Digest}
use Rattle.log_text.specs.declared.log.Named.{Named}
use Rattle.log_report.specs.declared.migrated.MigrateOutcome.{MigrateOutcome}
use Rattle.log_report.specs.Migrated.{IsMigrated}
use Rattle.tool_base.specs.Contents.{Contents}
use Rattle.tool_base.specs.Pages.{Page, Command}
use Rattle.cmd_replay.specs.Asked.{AskedReplay, replay_shape, replay_of}
use Rattle.cmd_replay.specs.Logged.{RefusesLogged, AreGood, logged_names}

-- the answer and its text for the files
pub record AnswersMigrate (contents : Contents) (asked : AskedReplay) (outcome : MigrateOutcome) (text : List ℕ) : Type 0 where
  pub a : Alphabet
  pub s : System
  pub digest : Digest
  pub logs : List Named
  pub good : AreGood contents asked a s digest logs
  pub migrated : IsMigrated a s digest asked.divergence logs outcome text

abbrev pub migrate_page : Contents → AskedReplay → Page MigrateOutcome
migrate_page contents asked = record { names = logged_names asked; refuses = RefusesLogged contents asked; answers = AnswersMigrate contents asked }

abbrev pub migrate_command : Command AskedReplay MigrateOutcome
migrate_command = record { shape = replay_shape; asked = replay_of; page = migrate_page }
