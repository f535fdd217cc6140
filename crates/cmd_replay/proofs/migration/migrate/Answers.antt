use Rattle.cmd_replay.specs.Migrate.{migrate_command}
use Rattle.tool_base.proofs.CommandLaws.{answers_page, answers_stop}
use Rattle.cmd_replay.proofs.migration.migrate.Goals as goal

pub returns-in-Ok-clause-answers : goal.returns-in-Ok-clause-answers
returns-in-Ok-clause-answers g c = answers_page migrate_command _ _ _ _ _ c.in-Ok.ensures c.on_files.ensures.page

pub returns-in-Err-clause-answers : goal.returns-in-Err-clause-answers
returns-in-Err-clause-answers g c = answers_stop migrate_command _ _ _ _ _ c.in-Err.ensures c.words_stop.ensures
