use Rattle.cmd_drive.specs.Drive.{drive_command}
use Rattle.cmd_drive.proofs.DialLaws.{Dials-asked, Dials-none}
use Rattle.tool_base.proofs.CommandLaws.{answers_page, answers_stop}
use Rattle.cmd_drive.proofs.driving.drive.Goals as goal

pub returns-in-Ok-clause-answers : goal.returns-in-Ok-clause-answers
returns-in-Ok-clause-answers g c = answers_page (drive_command _) _ _ _ _ _ c.in-Ok.ensures.asked c.on_files.ensures.page

pub returns-in-Ok-clause-dials : goal.returns-in-Ok-clause-dials
returns-in-Ok-clause-dials g c = Dials-asked _ _ _ _ _ c.in-Ok.ensures.asked c.on_files.ensures.dials

pub returns-in-Err-clause-answers : goal.returns-in-Err-clause-answers
returns-in-Err-clause-answers g c = answers_stop (drive_command _) _ _ _ _ _ c.in-Err.ensures.asked c.words_stop.ensures

pub returns-in-Err-clause-dials : goal.returns-in-Err-clause-dials
returns-in-Err-clause-dials g c = Dials-none _ _ _
