use Rattle.tool_base.proofs.CommandLaws.{answers_page, answers_stop}
use Rattle.cmd_drive.specs.Rehearse.{rehearse_command}
use Rattle.cmd_drive.proofs.rehearsing.rehearse.Goals as goal

pub returns-in-Ok-clause-answers : goal.returns-in-Ok-clause-answers
returns-in-Ok-clause-answers g c = answers_page rehearse_command _ _ _ _ _ c.in-Ok.ensures.asked c.on_pair.ensures.page

pub returns-in-Err-clause-answers : goal.returns-in-Err-clause-answers
returns-in-Err-clause-answers g c = answers_stop rehearse_command _ _ _ _ _ c.in-Err.ensures.asked c.words_stop.ensures
