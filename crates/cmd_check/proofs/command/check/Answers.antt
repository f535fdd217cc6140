use Rattle.tool_base.proofs.CommandLaws.{answers_page, answers_stop}
use Rattle.cmd_check.specs.Check.{check_command}
use Rattle.cmd_check.proofs.command.check.Goals as goal

pub returns-in-Ok-clause-answers : goal.returns-in-Ok-clause-answers
returns-in-Ok-clause-answers g c = answers_page check_command _ _ _ _ _ c.in-Ok.ensures.asked c.on_files.ensures.page

pub returns-in-Err-clause-answers : goal.returns-in-Err-clause-answers
returns-in-Err-clause-answers g c = answers_stop check_command _ _ _ _ _ c.in-Err.ensures.asked c.words_stop.ensures
