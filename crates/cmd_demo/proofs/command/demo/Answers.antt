use Rattle.cmd_demo.specs.Demo.{demo_command}
use Rattle.tool_base.proofs.CommandLaws.{answers_page, answers_stop}
use Rattle.cmd_demo.proofs.command.demo.Goals as goal

pub returns-in-Ok : goal.returns-in-Ok
returns-in-Ok c = λ old new. answers_page demo_command _ _ old new _ c.in-Ok.ensures (c.answer.ensures old new)

pub returns-in-Err : goal.returns-in-Err
returns-in-Err c = λ old new. answers_stop demo_command _ _ _ old new c.in-Err.ensures c.words_stop.ensures
