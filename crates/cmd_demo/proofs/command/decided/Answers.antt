use Rattle.std.proofs.Common.{rules}
use Rattle.cmd_demo.proofs.SystemLaws.{demo_over, headed_due}
use Rattle.cmd_demo.proofs.command.decided.Goals as goal

pub usual_report-requires : goal.usual_report-requires
usual_report-requires c = record { over = demo_over _ _ c.in_ok-both.ensures }

pub returns : goal.returns
returns c = headed_due _ _ _ _ c.in_ok-both.ensures c.in_ok-report.ensures c.headed.ensures
