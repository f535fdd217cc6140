use Rattle.cmd_check.proofs.UsualLaws.{usual_due}
use Rattle.cmd_check.proofs.command.usual_report.Goals as goal

pub returns : goal.returns
returns c = usual_due c.args.both.now _ c.report.ensures
